use Rattle.std.proofs.Common.{length, Some}
use Rattle.pending.proofs.MarkedRows.{WillBe, AreAmong}
use Rattle.pending.proofs.marks.Marks.mark_all.Given as goal

-- with the rows of the rest all are marked
abbrev pub invariant-loop-change : goal.invariant-loop-change
invariant-loop-change l = WillBe l.fn.self l.self l.rest l.changes l.txn (Some l.time) × AreAmong l.rest l.changes

abbrev pub decreases-loop-change : goal.decreases-loop-change
decreases-loop-change l = length l.rest
