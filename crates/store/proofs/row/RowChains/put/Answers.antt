use Rattle.std.proofs.Common.{sym, subst}
use Rattle.store.specs.Stored.{Chains, column_held}
use Rattle.store.proofs.newest.Places.{IsReady, at_insertion, at_deletion, at_row_deletion}
use Rattle.store.proofs.row.RowChains.put.Goals as goal

pub put_column-requires : goal.put_column-requires
put_column-requires c =
    let at = at_insertion (IsReady c.args.origin.now.stamp) c.args.self.now c.args.mutation c.in-Insert.name c.in-Insert.value c.in-Insert.is c.requires in
    rw c.version.ensures (subst (λ (row : Chains). IsReady c.args.origin.now.stamp (column_held row.columns c.in-Insert.name)) (sym c.self.view_is) at)

pub put_column-requires-in-DeleteColumn : goal.put_column-requires-in-DeleteColumn
put_column-requires-in-DeleteColumn c =
    let at = at_deletion (IsReady c.args.origin.now.stamp) c.args.self.now c.args.mutation c.in-DeleteColumn.name c.in-DeleteColumn.is c.requires in
    rw c.version-in-DeleteColumn.ensures (subst (λ (row : Chains). IsReady c.args.origin.now.stamp (column_held row.columns c.in-DeleteColumn.name)) (sym c.self.view_is) at)

pub put_deletion-requires : goal.put_deletion-requires
put_deletion-requires c =
    let at = at_row_deletion (IsReady c.args.origin.now.stamp) c.args.self.now c.args.mutation c.in-DeleteRow.is c.requires in
    rw c.version-in-DeleteRow.ensures (subst (λ (row : Chains). IsReady c.args.origin.now.stamp row.deletions) (sym c.self.view_is) at)
