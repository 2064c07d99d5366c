use Rattle.std.proofs.Common.{◌≡◌, ◌≤◌, length, true, take}
use Rattle.std.specs.List.{list_any}
use Rattle.column_family.specs.declared.batch.Row.{Row}
use Rattle.column_family.specs.Normal.{ranges_of}
use Rattle.store.specs.Stored.{Place, chain_at, ranges_in, HaveKeptRangeRoom, HaveSameRanges}
use Rattle.store.proofs.applied.Written.{is_range_of}
use Rattle.store.proofs.room.reserve_each.Given as goal

-- there is room in the rows of which the changes so far delete a range
abbrev pub invariant-loop-change : goal.invariant-loop-change
invariant-loop-change l = record {
  places : (r : Row) (p : Place) → (chain_at l.rows.entries r p).versions ≡ (chain_at l.fn.rows.entries r p).versions;
  place_room : (r : Row) (p : Place) → (chain_at l.fn.rows.entries r p).room ≤ (chain_at l.rows.entries r p).room;
  ranges : HaveSameRanges l.fn.rows.entries l.rows.entries;
  room : HaveKeptRangeRoom l.fn.rows.entries l.rows.entries;
  done : (r : Row) → list_any (is_range_of r) (take l.change-index l.changes) ≡ true → length (ranges_of r l.changes) ≤ (ranges_in l.rows.entries r).room;
}
