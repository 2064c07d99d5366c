use Rattle.std.proofs.Common.{rules, ◌≡◌, false, arith}
use Rattle.std.specs.List.{list_any}
use Rattle.column_family.specs.Location.{deletes_range}
use Rattle.store.proofs.applied.Counts.{none_deleted}
use Rattle.store.proofs.room.reserve_ranges.Goals as goal

pub returns-then-not-delete_ranges-clause-ok : goal.returns-then-not-delete_ranges-clause-ok
returns-then-not-delete_ranges-clause-ok c = λ r.
    let no : list_any (λ x. deletes_range x.mutation) c.args.changes.now ≡ false = search rules in
    let none = none_deleted r c.args.changes.now no in
    omega (arith, none)
