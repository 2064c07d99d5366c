use Rattle.std.proofs.Common.{◌≡◌, None, take}
use Rattle.column_family.specs.declared.batch.Row.{Row}
use Rattle.column_family.specs.Places.{is_listed}
use Rattle.store.specs.Stored.{Place, chain_at, ranges_in}
use Rattle.store.proofs.applied.Listed.{if_collected, ranges_if_collected}
use Rattle.store.proofs.crowded.collect_listed.Given as goal

-- the rows so far are collected
abbrev pub invariant-loop-row : goal.invariant-loop-row
invariant-loop-row l = record {
  versions : (r : Row) (p : Place) → (chain_at l.rows.entries r p).versions ≡ if_collected (is_listed (take l.row-index l.listed) r) l.time (chain_at l.fn.rows.entries r p).versions;
  ranges : (r : Row) → (ranges_in l.rows.entries r).ranges ≡ ranges_if_collected (is_listed (take l.row-index l.listed) r) l.time (chain_at l.fn.rows.entries r None).versions (ranges_in l.fn.rows.entries r).ranges;
}
