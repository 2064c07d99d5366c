use Rattle.std.proofs.Common.{◌≡◌, ℕ, length, false}
use Rattle.std.specs.Prelude.{slice_get}
use Rattle.doors.specs.Rounds.{Given, OnlyAt, AreNoted}
use Rattle.doors.specs.Spans.{HaveCome}
use Rattle.doors.proofs.accepting.accept_all.Given as goal

abbrev pub invariant-loop : goal.invariant-loop
invariant-loop g l = record {
  comes : (k : ℕ) → Given (slice_get l.fn.hall.places.places.items k) (slice_get l.hall.places.places.items k);
  come : HaveCome g.L.ReadyLine.seen g.D.Doorway.steps l.fn.door l.fn.hall.places.places.items l.door l.hall.places.places.items;
  told : OnlyAt l.hall.fresh.items l.fn.hall.places.places.items l.hall.places.places.items;
  noted : AreNoted l.fn.hall.places.places.items l.fn.hall.free.items → AreNoted l.hall.places.places.items l.hall.free.items;
  known : (l.fn.more ≡ false → g.D.Doorway.nobody l.fn.door) → l.more ≡ false → g.D.Doorway.nobody l.door;
}

abbrev pub decreases-loop : goal.decreases-loop
decreases-loop g l = length l.hall.free.items
