use Rattle.std.proofs.Common.{◌≡◌, List, Option, Some, subst, refl, length}
use Rattle.std.specs.Prelude.{slice_get}
use Rattle.readiness.specs.declared.connection.Connection.{Connection}
use Rattle.readiness.proofs.Lists.{place_is}
use Rattle.readiness.proofs.places.Places.is_answered.Goals as goal

pub returns-in-Some-Some-clause-yes : goal.returns-in-Some-Some-clause-yes
returns-in-Some-Some-clause-yes g c held =
    let found = c.in-Some-Some.ensures.lookup in
    let here = place_is c.deref.result.now (length c.deref.result.now) c.args.place c.in-Some-Some.field-0.now (Some c.in-Some-Some.connection) refl found.3.0 found.1 c.in-Some-Some.field-0-is in
    (c.in-Some-Some.connection, subst (λ (xs : List (Option (Connection g.row.L.Denot))). slice_get xs c.args.place ≡ Some (Some c.in-Some-Some.connection)) c.deref.ensures.value here, c.is_answered.ensures.yes held)
