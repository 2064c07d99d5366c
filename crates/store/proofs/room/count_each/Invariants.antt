use Rattle.std.proofs.Common.{◌≡◌, ◌≤◌, length, take}
use Rattle.column_family.specs.declared.batch.Row.{Row}
use Rattle.column_family.specs.Normal.{ranges_of}
use Rattle.store.specs.Counts.{AreCounts, count_at}
use Rattle.store.proofs.room.count_each.Given as goal

-- those so far are counted
abbrev pub invariant-loop-change : goal.invariant-loop-change
invariant-loop-change l = record {
  counted : AreCounts (take l.change-index l.changes) l.counts;
  few : (r : Row) → count_at l.counts r ≤ l.change-index;
}
