use Rattle.std.proofs.Common.{rules, ◌≡◌, ◌+◌, ℕ, Some, subst}
use Rattle.std.specs.BTreeMap.{Updates}
use Rattle.column_family.specs.Places.{row_cmp}
use Rattle.store.specs.Counts.{count_at}
use Rattle.store.proofs.applied.Counts.{count_more}
use Rattle.store.proofs.room.count_once.Goals as goal

pub returns-clause-ok : goal.returns-clause-ok
returns-clause-ok c =
    let same : c.in_ok-clone.field-0 ≡ c.args.row.now = search rules in
    let held : c.unwrap_or-count.result ≡ count_at c.args.counts.now c.args.row.now = search rules in
    count_more c.args.counts.now c.insert.new.self c.in_ok-clone.field-0 c.args.row.now same
    (subst (λ (n : ℕ). Updates row_cmp c.args.counts.now c.insert.new.self c.in_ok-clone.field-0 (Some (n + 1))) held c.in_ok-insert.ensures.updates)
