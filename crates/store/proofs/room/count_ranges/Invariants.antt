use Rattle.std.proofs.Common.{◌≡◌, ◌≤◌, length, take}
use Rattle.column_family.specs.Normal.{ranges_of}
use Rattle.store.proofs.room.count_ranges.Given as goal

-- those so far are counted
abbrev pub invariant-loop-change : goal.invariant-loop-change
invariant-loop-change l = record {
  counted : l.count ≡ length (ranges_of l.row (take l.change-index l.changes));
  few : l.count ≤ l.change-index;
}
