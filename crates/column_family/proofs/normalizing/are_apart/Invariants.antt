use Rattle.std.proofs.Common.{◌≡◌, length}
use Rattle.column_family.specs.Places.{are_apart}
use Rattle.column_family.proofs.normalizing.are_apart.Given as goal

-- no row so far stands again after it
abbrev pub invariant-loop-rest : goal.invariant-loop-rest
invariant-loop-rest l = are_apart l.changes ≡ are_apart l.rest

abbrev pub decreases-loop-rest : goal.decreases-loop-rest
decreases-loop-rest l = length l.rest
