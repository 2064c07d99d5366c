use Rattle.std.proofs.Common.{◌≡◌, map, take}
use Rattle.planner.specs.Partition.{shard_of}
use Rattle.planner.proofs.reads.homes_of.Given as goal

abbrev pub invariant-loop-key : goal.invariant-loop-key
invariant-loop-key l = l.homes.items ≡ map (shard_of l.shards) (take l.key-index l.keys)
