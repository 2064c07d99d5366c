use Rattle.std.proofs.Common.{◌≡◌, length}
use Rattle.column_family.specs.Schema.{are_distinct}
use Rattle.column_family.proofs.schema.are_distinct.Given as goal

-- no family so far stands again after it
abbrev pub invariant-loop-rest : goal.invariant-loop-rest
invariant-loop-rest l = are_distinct l.families ≡ are_distinct l.rest

abbrev pub decreases-loop-rest : goal.decreases-loop-rest
decreases-loop-rest l = length l.rest
