use Rattle.std.proofs.Common.{rules, sym, subst, IfOk}
use Rattle.column_family.specs.Places.{row_cmp}
use Rattle.store.specs.Stored.{Chains, no_row}
use Rattle.store.specs.Sight.{sight_of}
use Rattle.store.specs.Struck.{ranges_seen, IsPartUnder}
use Rattle.store.proofs.lists.Maps.{found, not_found}
use Rattle.store.proofs.reading.part_in.Goals as goal

pub returns-in-Some-clause-ok : goal.returns-in-Some-clause-ok
returns-in-Some-clause-ok c =
    let held = found row_cmp no_row c.args.rows.now c.args.row.now c.in-Some.held.now (search rules) in
    subst (λ (row : Chains). IfOk c.part_under.result (IsPartUnder (sight_of c.args.moment.now row) (ranges_seen c.args.moment.now row) c.args.predicate.now)) (sym held) c.part_under.ensures.ok

pub returns-in-None-clause-ok : goal.returns-in-None-clause-ok
returns-in-None-clause-ok c =
    let none = not_found row_cmp no_row c.args.rows.now c.args.row.now (search rules) in
    subst (λ (row : Chains). IsPartUnder (sight_of c.args.moment.now row) (ranges_seen c.args.moment.now row) c.args.predicate.now c.empty_part.result) (sym none) c.empty_part.ensures
