use Rattle.std.proofs.Common.{◌≤◌, ◌+◌, length, vec_capacity}
use Rattle.turns.proofs.seats.unlocked.Given as goal

abbrev pub invariant-loop-seats : goal.invariant-loop-seats
invariant-loop-seats g l = length l.seats.items + length l.locked.items ≤ vec_capacity l.seats

abbrev pub decreases-loop-seats : goal.decreases-loop-seats
decreases-loop-seats g l = length l.locked.items
