use Rattle.std.proofs.Common.{◌≡◌, [], take}
use Rattle.store.specs.Stored.{Place, chain_of, put_all, put_all_ranges, ranges_written, written}
use Rattle.store.proofs.row.row_written.Given as goal

-- what the changes so far leave in the row
abbrev pub invariant-loop-change : goal.invariant-loop-change
invariant-loop-change l = record {
  versions : (p : Place) → (chain_of l.held p).versions ≡ put_all [] (written l.origin l.row p (take l.change-index l.changes));
  ranges : l.held.ranges.ranges ≡ put_all_ranges [] (ranges_written l.origin l.row (take l.change-index l.changes));
}
