use Rattle.std.proofs.Common.{◌≡◌, ◌≤◌, ◌+◌, length, vec_capacity}
use Rattle.running.proofs.seats.locked.Given as goal

abbrev pub invariant-loop-locked : goal.invariant-loop-locked
invariant-loop-locked l = record {
  count : length l.locked.items + length l.seats.items ≡ length l.fn.locked.items + length l.fn.seats.items;
  room : length l.locked.items + length l.seats.items ≤ vec_capacity l.locked;
}

abbrev pub decreases-loop-locked : goal.decreases-loop-locked
decreases-loop-locked l = length l.seats.items
