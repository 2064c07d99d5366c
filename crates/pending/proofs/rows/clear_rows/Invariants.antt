use Rattle.std.proofs.Common.{length, None}
use Rattle.pending.proofs.MarkedRows.{WillBe}
use Rattle.pending.proofs.rows.clear_rows.Given as goal

-- with the rows of the rest all are cleared
abbrev pub invariant-loop-change : goal.invariant-loop-change
invariant-loop-change l = WillBe l.fn.rows.entries l.rows.entries l.rest l.changes l.txn None

abbrev pub decreases-loop-change : goal.decreases-loop-change
decreases-loop-change l = length l.rest
