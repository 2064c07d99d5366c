use Rattle.std.proofs.Common.{rules, ◌≡◌, ◌∙◌, ◌++◌, [], ◌∷◌, ap, map, length, ◌≤◌}
use Rattle.std.proofs.lemmas.List.{take_all}
use Rattle.std.specs.Option.{option_copied}
use Rattle.messages.specs.Rows.{row_at}
use Rattle.commit_check.specs.Coming.{after}
use Rattle.commit_check.proofs.SameRows.{row_more}
use Rattle.commit_check.proofs.reading_at.rows_at.Goals as goal

pub loop-key-preserved : goal.loop-key-preserved
loop-key-preserved c = λ a keeps may.
    let r = c.in_ok-one_at.field-0 in
    let pushed : c.push.new.self.items ≡ c.loop-key.rows.items ++ r ∷ [] = search rules in
    row_more (row_at c.args.time (after (option_copied c.args.coming) a) c.args.read.now) c.args.read.now.keys c.as_slice-key-items.result.now c.loop-key.key-index c.key-item.result
    c.loop-key.rows.items c.push.new.self.items r c.as_slice-key-items.ensures c.loop-key-test.true c.key-item.is (c.loop-key.invariant a keeps may) pushed (c.in_ok-one_at.ensures.ok a keeps may)

pub returns-clause-ok : goal.returns-clause-ok
returns-clause-ok c = λ a keeps may.
    let end : length c.args.read.now.keys ≤ c.loop-key.key-index = search rules in
    c.loop-key.invariant a keeps may
    ∙ ap (map (row_at c.args.time (after (option_copied c.args.coming) a) c.args.read.now)) (take_all c.loop-key.key-index c.args.read.now.keys end)
