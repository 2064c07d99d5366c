use Rattle.std.proofs.Common.{◌≤◌, ◌+◌, length, vec_capacity}
use Rattle.turns.proofs.seats.locked.Given as goal

abbrev pub invariant-loop-locked : goal.invariant-loop-locked
invariant-loop-locked g l = length l.locked.items + length l.seats.items ≤ vec_capacity l.locked

abbrev pub decreases-loop-locked : goal.decreases-loop-locked
decreases-loop-locked g l = length l.seats.items
