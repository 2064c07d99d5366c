use Rattle.threaded.proofs.Looked.{AreFirstOf}
use Rattle.threaded.proofs.concluding.are_of.Given as goal

abbrev pub invariant-loop-place : goal.invariant-loop-place
invariant-loop-place l = AreFirstOf l.topology l.seats l.place
