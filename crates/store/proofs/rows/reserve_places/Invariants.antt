use Rattle.std.proofs.Common.{◌≡◌, take}
use Rattle.column_family.specs.declared.batch.Row.{Row}
use Rattle.store.specs.Stored.{HasRoomAtPlaces, HaveKeptRoom, HaveSameVersions, ranges_in}
use Rattle.store.proofs.rows.reserve_places.Given as goal

-- there is room for the changes so far
abbrev pub invariant-loop-change : goal.invariant-loop-change
invariant-loop-change l = record {
  versions : HaveSameVersions l.fn.rows.entries l.rows.entries;
  ranges : (r : Row) → ranges_in l.rows.entries r ≡ ranges_in l.fn.rows.entries r;
  grows : HaveKeptRoom l.fn.rows.entries l.rows.entries;
  room : HasRoomAtPlaces l.rows.entries (take l.change-index l.changes);
}
