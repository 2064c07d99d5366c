use Rattle.std.proofs.Common.{length}
use Rattle.front.specs.Parts.{Holding}
use Rattle.front.proofs.answering.answer_held.Given as goal

abbrev pub invariant-loop-op : goal.invariant-loop-op
invariant-loop-op g l = Holding g.F.Frames.refuses g.P.Port.steps (g.F.Frames.kept l.fn.reader) (g.L.Line.seen l.fn.line) l.fn.port (g.F.Frames.kept l.reader) (g.L.Line.seen l.line) l.port l.waiting.items

abbrev pub decreases-loop-op : goal.decreases-loop-op
decreases-loop-op g l = length (g.F.Frames.kept l.reader).held
