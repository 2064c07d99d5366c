use Rattle.std.proofs.Common.{◌≡◌, ◌++◌, drop}
use Rattle.planner.specs.Homes.{kept_of}
use Rattle.planner.proofs.reads.all_of.Given as goal

-- the keys so far, then those that are left, are those of all
abbrev pub invariant-loop-place : goal.invariant-loop-place
invariant-loop-place l = l.own.items ++ kept_of l.shard (drop l.place l.homes) (drop l.place l.keys) ≡ kept_of l.shard l.homes l.keys
