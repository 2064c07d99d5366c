use Rattle.std.proofs.Common.{take}
use Rattle.doors.specs.Silence.{AreMarked}
use Rattle.doors.proofs.silence.mark.Given as goal

abbrev pub invariant-loop-place : goal.invariant-loop-place
invariant-loop-place l = AreMarked l.time (take l.place-index l.places) l.fn.since.items l.since.items
