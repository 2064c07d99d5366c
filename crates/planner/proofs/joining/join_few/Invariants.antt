use Rattle.std.proofs.Common.{◌≡◌, map, take}
use Rattle.planner.specs.Join.{joined_row}
use Rattle.planner.proofs.joining.join_few.Given as goal

abbrev pub invariant-loop-key : goal.invariant-loop-key
invariant-loop-key l = l.answer ≡ map (joined_row l.rows) (take l.key-index l.once)
