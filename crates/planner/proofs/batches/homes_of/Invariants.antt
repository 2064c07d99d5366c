use Rattle.std.proofs.Common.{◌≡◌, map, take}
use Rattle.planner.specs.Homes.{home_of}
use Rattle.planner.proofs.batches.homes_of.Given as goal

abbrev pub invariant-loop-change : goal.invariant-loop-change
invariant-loop-change l = l.homes.items ≡ map (home_of l.shards) (take l.change-index l.changes)
