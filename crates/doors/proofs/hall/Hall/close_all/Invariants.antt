use Rattle.std.proofs.Common.{ℕ, take}
use Rattle.std.specs.Prelude.{slice_get}
use Rattle.std.specs.List.{Contains}
use Rattle.doors.specs.Rounds.{Closed, GoesOn, AreNoted}
use Rattle.doors.specs.Spans.{HaveLeft}
use Rattle.doors.proofs.hall.Hall.close_all.Given as goal

abbrev pub invariant-loop-place : goal.invariant-loop-place
invariant-loop-place g l = record {
  leaves : (k : ℕ) → Closed g.L.ReadyLine.seen (slice_get l.fn.self.places.places.items k) (slice_get l.self.places.places.items k);
  left : HaveLeft g.L.ReadyLine.seen l.fn.self.places.places.items l.self.places.places.items;
  away : (k : ℕ) → Contains (take l.place-index l.over) k → GoesOn g.L.ReadyLine.seen (slice_get l.self.places.places.items k);
  noted : AreNoted l.fn.self.places.places.items l.fn.self.free.items → AreNoted l.self.places.places.items l.self.free.items;
}
