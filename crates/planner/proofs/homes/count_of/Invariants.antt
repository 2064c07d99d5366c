use Rattle.std.proofs.Common.{◌≡◌, ◌≤◌, take}
use Rattle.std.specs.Prelude.{◌==◌, count_by}
use Rattle.planner.proofs.homes.count_of.Given as goal

abbrev pub invariant-loop-home : goal.invariant-loop-home
invariant-loop-home l = record { so_far : l.count ≡ count_by (λ h. h == l.shard) (take l.home-index l.homes); small : l.count ≤ l.home-index }
