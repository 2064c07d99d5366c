use Rattle.std.proofs.Common.{take}
use Rattle.site_port.specs.Port.{AreLeft}
use Rattle.site_port.proofs.leaving.leave_all.Given as goal

abbrev pub invariant-loop-place : goal.invariant-loop-place
invariant-loop-place l = AreLeft (take l.place-index l.places) l.fn.waiting.items l.waiting.items
