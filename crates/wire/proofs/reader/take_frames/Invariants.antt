use Rattle.std.proofs.Common.{◌≡◌, ◌≤◌, ◌-◌, ◌+◌, ◌++◌, length, take, drop, true}
use Rattle.std.specs.List.{list_all}
use Rattle.wire.specs.Requests.{is_spelled}
use Rattle.wire.specs.Frames.{frames}
use Rattle.wire.proofs.reader.take_frames.Given as goal

abbrev pub invariant-loop-at : goal.invariant-loop-at
invariant-loop-at l = record {
  bound : l.at ≤ length l.bytes;
  text : frames l.held.items ++ drop l.at l.bytes ≡ frames l.fn.held.items ++ l.bytes;
  spelled : list_all is_spelled l.fn.held.items ≡ true → list_all is_spelled l.held.items ≡ true;
  kept : take (length l.fn.held.items) l.held.items ≡ l.fn.held.items;
}

abbrev pub decreases-loop-at : goal.decreases-loop-at
decreases-loop-at l = length l.bytes + 1 - l.at
