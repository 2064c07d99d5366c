use Rattle.std.proofs.Common.{rules, ◌≡◌, sym, subst, IfOk}
use Rattle.column_family.specs.Places.{row_cmp}
use Rattle.store.specs.Stored.{Chains, no_row, held_by}
use Rattle.store.specs.Sight.{sight_of, laid_over}
use Rattle.store.specs.Struck.{ranges_over, IsPartUnder}
use Rattle.store.proofs.seen.Assembled.{if_ok}
use Rattle.store.proofs.lists.Maps.{found, not_found}
use Rattle.store.proofs.seen.Sights.{under_over_nothing}
use Rattle.store.proofs.reading.part_with.Goals as goal

pub returns-in-None-clause-ok : goal.returns-in-None-clause-ok
returns-in-None-clause-ok c =
    let m = c.args.moment.now in
    let p = c.args.predicate.now in
    let over = c.args.over.now in
    let none : held_by row_cmp no_row c.args.rows.now.entries c.args.row.now ≡ no_row = not_found row_cmp no_row c.args.rows.now c.args.row.now (search rules) in
    if_ok c.part_under.result
    (λ part is. subst (λ (row : Chains). IsPartUnder (laid_over (sight_of m row) (sight_of m over)) (ranges_over m row over) p part) (sym none) (under_over_nothing m over p part is))
    c.part_under.ensures.ok

pub returns-in-Some-clause-ok : goal.returns-in-Some-clause-ok
returns-in-Some-clause-ok c =
    let held = found row_cmp no_row c.args.rows.now c.args.row.now c.in-Some.held.now (search rules) in
    subst (λ (row : Chains). IfOk c.part_under_both.result (IsPartUnder (laid_over (sight_of c.args.moment.now row) (sight_of c.args.moment.now c.args.over.now)) (ranges_over c.args.moment.now row c.args.over.now) c.args.predicate.now)) (sym held) c.part_under_both.ensures.ok
