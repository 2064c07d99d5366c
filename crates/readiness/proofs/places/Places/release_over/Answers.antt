use Rattle.std.proofs.Common.{◌≡◌, List, Option, Some, subst, refl, length}
use Rattle.std.specs.Prelude.{slice_get}
use Rattle.readiness.specs.declared.connection.Connection.{Connection}
use Rattle.readiness.proofs.Lists.{place_is}
use Rattle.readiness.proofs.Positions.{over_at}
use Rattle.readiness.proofs.places.Places.release_over.Goals as goal

pub returns-in-Some-Some-clause-some : goal.returns-in-Some-Some-clause-some
returns-in-Some-Some-clause-some g c =
    let found = c.in-Some-Some.ensures.lookup in
    let here = place_is c.deref.result.now (length c.deref.result.now) c.args.place c.in-Some-Some.field-0.now (Some c.in-Some-Some.connection) refl found.3.0 found.1 c.in-Some-Some.field-0-is in
    let was = subst (λ (xs : List (Option (Connection g.row.L.Denot))). slice_get xs c.args.place ≡ Some (Some c.in-Some-Some.connection)) c.deref.ensures.value here in
    over_at g.L.ReadyLine.seen c.args.self.now.places.items c.args.place c.take.result c.index_mut.result.now c.in-Some-Some.connection was (c.is_over.ensures.yes c.if-is_over.true) c.take.ensures.value c.index_mut.ensures.value
