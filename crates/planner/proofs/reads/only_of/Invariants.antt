use Rattle.std.proofs.Common.{◌≡◌, ◌++◌, drop}
use Rattle.std.specs.Option.{option_copied}
use Rattle.std.specs.Prelude.{option_to_list}
use Rattle.planner.specs.Homes.{kept_of}
use Rattle.planner.proofs.reads.only_of.Given as goal

-- the key that was found, then those that are left, are those of all
abbrev pub invariant-loop-place : goal.invariant-loop-place
invariant-loop-place l = option_to_list (option_copied l.only) ++ kept_of l.shard (drop l.place l.homes) (drop l.place l.keys) ≡ kept_of l.shard l.homes l.keys
