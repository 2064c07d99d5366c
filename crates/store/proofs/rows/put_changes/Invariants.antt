use Rattle.std.proofs.Common.{◌≡◌, ◌≤◌, length}
use Rattle.column_family.specs.Normal.{ranges_of}
use Rattle.column_family.specs.declared.batch.Row.{Row}
use Rattle.store.specs.Crowded.{AreListed}
use Rattle.store.specs.Stored.{Place, chain_at, ranges_in, written, put_all, ranges_written, put_all_ranges}
use Rattle.store.proofs.applied.Changes.{AreReady}
use Rattle.store.proofs.rows.put_changes.Given as goal

-- what is left completes what is put
abbrev pub invariant-loop-change : goal.invariant-loop-change
invariant-loop-change l = record {
  ready : AreReady l.origin.stamp l.rows.entries l.change-iterator.rest.items;
  versions : (r : Row) (p : Place) → put_all (chain_at l.rows.entries r p).versions (written l.origin r p l.change-iterator.rest.items) ≡ put_all (chain_at l.fn.rows.entries r p).versions (written l.origin r p l.fn.changes.items);
  ranges_ready : (r : Row) → length (ranges_of r l.change-iterator.rest.items) ≤ (ranges_in l.rows.entries r).room;
  held : (r : Row) → put_all_ranges (ranges_in l.rows.entries r).ranges (ranges_written l.origin r l.change-iterator.rest.items)
      ≡ put_all_ranges (ranges_in l.fn.rows.entries r).ranges (ranges_written l.origin r l.fn.changes.items);
  listing : length l.change-iterator.rest.items ≤ l.crowded.room;
  listed : AreListed l.fn.crowded.rows l.fn.rows.entries → AreListed l.crowded.rows l.rows.entries;
}
