use Rattle.threaded.proofs.Looked.{AreElsewhere}
use Rattle.threaded.proofs.concluding.place_of.Given as goal

abbrev pub invariant-loop-place : goal.invariant-loop-place
invariant-loop-place l = AreElsewhere l.node l.seats l.place
