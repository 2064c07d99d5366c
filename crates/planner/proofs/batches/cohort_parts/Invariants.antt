use Rattle.std.proofs.Common.{◌≡◌, ◌++◌, map}
use Rattle.std.specs.Prelude.{◌&&◌, ◌==◌, not}
use Rattle.std.specs.List.{filter, range_with_len}
use Rattle.planner.specs.Plan.{is_touched}
use Rattle.planner.specs.Planned.{part_on}
use Rattle.planner.proofs.batches.cohort_parts.Given as goal

-- the parts so far, then those of the shards to come, are those of all
abbrev pub invariant-loop-shard : goal.invariant-loop-shard
invariant-loop-shard l =
    l.parts.items ++ map (part_on l.fn.shards l.changes) (filter (λ s. not (s == l.coordinator) && is_touched l.fn.shards l.changes s) l.shard-iterator)
    ≡ map (part_on l.fn.shards l.changes) (filter (λ s. not (s == l.coordinator) && is_touched l.fn.shards l.changes s) (range_with_len 0 l.fn.shards))
