use Rattle.std.proofs.Common.{◌≡◌, ◌≤◌, ◌+◌, ◌++◌, length}
use Rattle.std.specs.Prelude.{reverse}
use Rattle.present.proofs.waiting.turn_over.Given as goal

-- what was taken from the end has its turn after what is left
abbrev pub invariant-loop-number : goal.invariant-loop-number
invariant-loop-number l = record {
  kept : l.sent.sent ++ reverse l.turn.items ≡ l.fn.sent.sent;
  left : length l.sent.sent + l.number ≡ l.count;
  turned : l.turn.len ≡ l.number;
  room : l.count ≤ l.turn.cap;
}
