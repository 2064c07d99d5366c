use Rattle.std.proofs.Common.{take, Contains, ◌↔◌}
use Rattle.logical_time.specs.Stamps.{TxnValue}
use Rattle.pending.specs.Marked.{IsMarkedBelow}
use Rattle.pending.proofs.rows.below_each.Given as goal

-- the transactions of the rows so far
abbrev pub invariant-loop-row : goal.invariant-loop-row
invariant-loop-row l = (t : TxnValue) → Contains l.txns.items t ↔ IsMarkedBelow l.rows.entries (take l.row-index l.asked) l.time t
