use Rattle.front.specs.Lines.{LineValue}
use Rattle.front.specs.Served.{IsNeverHeldBack}
use Rattle.front.specs.Parts.{Going}
use Rattle.front.proofs.serving.rounds.Given as goal

abbrev pub invariant-loop-piece : goal.invariant-loop-piece
invariant-loop-piece g l = record {
  going : (s : LineValue) (p : g.row.P.Denot) → Going g.F.Frames.refuses 0 g.P.Port.steps s p (g.F.Frames.kept l.fn.reader) (g.L.Line.seen l.fn.line) l.fn.port → Going g.F.Frames.refuses l._piece g.P.Port.steps s p (g.F.Frames.kept l.reader) (g.L.Line.seen l.line) l.port;
  prompt : (s : LineValue) (p : g.row.P.Denot) → Going g.F.Frames.refuses 0 g.P.Port.steps s p (g.F.Frames.kept l.fn.reader) (g.L.Line.seen l.fn.line) l.fn.port → IsNeverHeldBack g.F.Frames.refuses g.P.Port.steps s p (g.L.Line.seen l.fn.line).moments → IsNeverHeldBack g.F.Frames.refuses g.P.Port.steps s p (g.L.Line.seen l.line).moments;
}
