use Rattle.std.proofs.Common.{ℕ, ◌-◌, List, length, subst, sym}
use Rattle.doors.specs.Rounds.{AreNoted}
use Rattle.doors.proofs.Rounds.{noted_put_off}
use Rattle.doors.proofs.listening.Doors.put_off.Goals as goal

pub returns-then-not-is_empty-clause-sound : goal.returns-then-not-is_empty-clause-sound
returns-then-not-is_empty-clause-sound g c = λ s. record {
  noted = subst (λ (f : List ℕ). AreNoted c.args.self.now.hall.places.places.items f) (sym c.rotate_right.ensures.items) (noted_put_off c.args.self.now.hall.places.places.items c.args.self.now.hall.free.items _ s.noted);
  known = s.known;
  on = s.on;
}
