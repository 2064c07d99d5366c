use Rattle.std.proofs.Common.{◌≡◌, ℕ, ◌+◌, ◌-◌}
use Rattle.std.specs.Vec.{vec_len}
use Rattle.world.specs.Delivered.{is_marked}
use Rattle.world.proofs.delivered.extend.Given as goal

abbrev pub invariant-loop-marks : goal.invariant-loop-marks
invariant-loop-marks l = (j : ℕ) → is_marked l.marks.items j ≡ is_marked l.initial.marks.items j

abbrev pub decreases-loop-marks : goal.decreases-loop-marks
decreases-loop-marks l = l.number + 1 - vec_len l.marks
