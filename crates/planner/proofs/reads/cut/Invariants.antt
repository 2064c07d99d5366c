use Rattle.std.proofs.Common.{◌≡◌, ◌++◌, map}
use Rattle.std.specs.List.{filter, list_any}
use Rattle.planner.specs.Plan.{is_on, shards_asked}
use Rattle.planner.specs.Planned.{keys_on}
use Rattle.planner.proofs.reads.cut.Given as goal

-- the keys of the shards so far, then those of the shards to come, are those of all
abbrev pub invariant-loop-shard : goal.invariant-loop-shard
invariant-loop-shard l =
    l.asked.items ++ map (keys_on l.fn.shards l.keys) (filter (λ s. list_any (is_on l.fn.shards s) l.keys) l.shard-iterator)
    ≡ map (keys_on l.fn.shards l.keys) (shards_asked l.fn.shards l.keys)
