use Rattle.threaded.specs.Quiet.{AreWhollyReceived}
use Rattle.threaded.proofs.matching.are_all.Given as goal

abbrev pub invariant-loop-from : goal.invariant-loop-from
invariant-loop-from l = AreWhollyReceived l.seats l.from l.to l.received
