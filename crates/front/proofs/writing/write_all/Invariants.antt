use Rattle.std.proofs.Common.{◌-◌, length}
use Rattle.front.proofs.Said.{IsWrittenTo}
use Rattle.front.proofs.writing.write_all.Given as goal

abbrev pub invariant-loop-at : goal.invariant-loop-at
invariant-loop-at g l = IsWrittenTo l.at l.piece (g.L.Line.seen l.fn.line) (g.L.Line.seen l.line)

abbrev pub decreases-loop-at : goal.decreases-loop-at
decreases-loop-at g l = length l.piece - l.at
