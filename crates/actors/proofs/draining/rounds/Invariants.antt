use Rattle.std.proofs.Common.{◌≡◌}
use Rattle.actors.specs.Draining.{HaveTaken, all_left, all_unsent}
use Rattle.actors.proofs.draining.rounds.Given as goal

abbrev pub invariant-loop : goal.invariant-loop
invariant-loop g l = HaveTaken g.M.Machine.refuses l.fn.seats l.seats × (all_left l.seats ≡ all_left l.fn.seats)

abbrev pub decreases-loop : goal.decreases-loop
decreases-loop g l = all_unsent l.seats
