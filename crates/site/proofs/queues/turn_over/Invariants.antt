use Rattle.std.proofs.Common.{◌≡◌, ◌≤◌, ◌+◌, ◌++◌, length}
use Rattle.std.specs.Prelude.{reverse}
use Rattle.site.proofs.queues.turn_over.Given as goal

-- what was taken from the end has its turn after what is left
abbrev pub invariant-loop-number : goal.invariant-loop-number
invariant-loop-number l = record {
  kept : l.fresh.sent ++ reverse l.turn.items ≡ l.fn.fresh.sent ++ reverse l.fn.turn.items;
  left : length l.fresh.sent + l.number ≡ l.count;
  turned : l.turn.len ≡ l.fn.turn.len + l.number;
  room : l.fn.turn.len + l.count ≤ l.turn.cap;
}
