use Rattle.std.proofs.Common.{length}
use Rattle.world.specs.World.{run_of}
use Rattle.service.proofs.Searched.{IsSearched}
use Rattle.service.proofs.asked.outcome_of.Given as goal

abbrev pub invariant-loop-last : goal.invariant-loop-last
invariant-loop-last l = IsSearched (run_of l.world).transcript l.rest l.session l.number

abbrev pub decreases-loop-last : goal.decreases-loop-last
decreases-loop-last l = length l.rest
