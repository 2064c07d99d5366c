use Rattle.std.proofs.Common.{◌∙◌, [], ap, length, Option, ℕ}
use Rattle.std.specs.Prelude.{unwrap_or}
use Rattle.column_family.specs.Normal.{changes_before}
use Rattle.column_family.specs.Places.{keep_all}
use Rattle.column_family.proofs.Firsts.{keep_step}
use Rattle.column_family.proofs.normalizing.keep_all.Goals as goal

pub loop-index-preserved : goal.loop-index-preserved
loop-index-preserved c =
    keep_step (changes_before c.args.changes.now) c.loop-index.kept.entries c.keep.new.kept.entries (keep_all (changes_before c.args.changes.now) 0 [] c.args.changes.now) c.args.changes.now c.index-changes-index.result c.loop-index.index c.unwrap_or-row.result
    c.loop-index-test.true
    c.index-changes-index.is
    (c.unwrap_or-row.ensures ∙ ap (λ (o : Option ℕ). unwrap_or o (length c.args.changes.now)) (c.copied.ensures ∙ c.get.ensures.value) ∙ c.in_ok-first.ensures.exact c.index-changes-index.result.row)
    c.in_ok-keep.ensures.ok
    c.loop-index.invariant
