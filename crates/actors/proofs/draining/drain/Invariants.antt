use Rattle.actors.specs.Draining.{HaveTaken, all_left}
use Rattle.actors.proofs.draining.drain.Given as goal

abbrev pub invariant-loop : goal.invariant-loop
invariant-loop g l = HaveTaken g.M.Machine.refuses l.fn.seats l.seats

abbrev pub decreases-loop : goal.decreases-loop
decreases-loop g l = all_left l.seats
