use Rattle.std.proofs.Common.{◌<◌, sym, subst, inl, inr}
use Rattle.store.specs.Stored.{Chains, column_held}
use Rattle.store.proofs.newest.Places.{at_insertion, at_deletion, at_row_deletion}
use Rattle.store.proofs.row.RowChains.reserve.Goals as goal

pub returns-in-DeleteRow-clause-succeeds : goal.returns-in-DeleteRow-clause-succeeds
returns-in-DeleteRow-clause-succeeds c = λ room.
    let at = at_row_deletion (λ h. 0 < h.room) c.args.self.now c.args.mutation.now c.in-DeleteRow.is room in
    let here = subst (λ (row : Chains). 0 < row.deletions.room) (sym c.self.view_is) at in
    c.reserve_deletion.ensures.succeeds here

pub returns-in-Insert-clause-succeeds : goal.returns-in-Insert-clause-succeeds
returns-in-Insert-clause-succeeds c = λ room.
    c.reserve_column.ensures.succeeds
    (subst (λ (row : Chains). 0 < (column_held row.columns c.in-Insert.name).room) (sym c.self.view_is)
    (elim c.in-Insert.is [
      | inl at ↦ at_insertion (λ h. 0 < h.room) c.args.self.now c.args.mutation.now c.in-Insert.name at.0 at.1 room
      | inr at ↦ at_deletion (λ h. 0 < h.room) c.args.self.now c.args.mutation.now c.in-Insert.name at room
    ]))
