use Rattle.std.proofs.Common.{ℕ, [], take}
use Rattle.std.specs.Prelude.{slice_get}
use Rattle.readiness.specs.declared.connection.TheConstants.{LIMIT}
use Rattle.readiness.specs.Places.{PlaceTurned, AreBounded, AreStopped, AreTold}
use Rattle.readiness.proofs.places.reply_all.Given as goal

abbrev pub invariant-loop-place : goal.invariant-loop-place
invariant-loop-place g l = record {
  written : (k : ℕ) → PlaceTurned g.L.ReadyLine.seen [] (slice_get l.fn.places.places.items k) (slice_get l.places.places.items k);
  stopped : AreStopped g.L.ReadyLine.seen l.ready l.fn.places.places.items → AreStopped g.L.ReadyLine.seen l.ready l.places.places.items;
  told : AreStopped g.L.ReadyLine.seen l.ready l.fn.places.places.items → AreTold LIMIT g.L.ReadyLine.seen (take l.place-index l.ready) l.again.items l.over.items l.fn.places.places.items l.places.places.items;
  bounded : AreBounded LIMIT g.L.ReadyLine.seen l.fn.places.places.items → AreBounded LIMIT g.L.ReadyLine.seen l.places.places.items;
}
