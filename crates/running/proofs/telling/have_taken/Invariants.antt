use Rattle.running.proofs.ToldMore.{HaveFirstTaken}
use Rattle.running.proofs.telling.have_taken.Given as goal

abbrev pub invariant-loop-node : goal.invariant-loop-node
invariant-loop-node l = HaveFirstTaken l.script l.concluded.seats l.node
