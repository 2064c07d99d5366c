use Rattle.std.proofs.Common.{length, ◌-◌, ◌≡◌, ◌<◌, ℕ, true}
use Rattle.world.specs.Delivered.{is_marked}
use Rattle.world.proofs.delivered.first_unmarked.Given as goal

abbrev pub invariant-loop-place : goal.invariant-loop-place
invariant-loop-place l = (j : ℕ) → j < l.place → is_marked l.marks j ≡ true

abbrev pub decreases-loop-place : goal.decreases-loop-place
decreases-loop-place l = length l.marks - l.place
