use Rattle.std.proofs.Common.{rules, ◌∙◌, sym, ap}
use Rattle.column_family.specs.Places.{row_cmp}
use Rattle.store.specs.Stored.{Chains, no_row}
use Rattle.store.specs.Crowded.{is_crowded}
use Rattle.store.proofs.lists.Maps.{found}
use Rattle.store.proofs.applied.Listed.{none_crowded}
use Rattle.store.proofs.rows.is_crowded.Goals as goal

pub returns-in-Some : goal.returns-in-Some
returns-in-Some c =
    let held = found row_cmp no_row c.args.rows.now c.args.row.now c.in-Some.held.now (search rules) in
    c.is_crowded.ensures ∙ ap (λ (row : Chains). is_crowded row) (sym held)

pub returns-in-None : goal.returns-in-None
returns-in-None c = sym (none_crowded c.args.rows.now c.args.row.now (search rules))
