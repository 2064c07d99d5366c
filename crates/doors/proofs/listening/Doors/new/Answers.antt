use Rattle.doors.proofs.Rounds.{none_stand}
use Rattle.doors.proofs.listening.Doors.new.Goals as goal

pub returns-clause-sound : goal.returns-clause-sound
returns-clause-sound g c = record { noted = c.in_ok-new.ensures.noted; known = λ e. absurd cc; on = none_stand g.L.ReadyLine.seen c.in_ok-new.field-0.places.places.items c.in_ok-new.ensures.free }
