use Rattle.std.proofs.Common.{◌≡◌, ◌++◌, drop}
use Rattle.planner.specs.Homes.{kept_of}
use Rattle.planner.proofs.batches.part_of.Given as goal

-- the changes so far, then those that are left, are those of all
abbrev pub invariant-loop-place : goal.invariant-loop-place
invariant-loop-place l = l.part.items ++ kept_of l.shard (drop l.place l.homes) (drop l.place l.changes) ≡ kept_of l.shard l.homes l.changes
