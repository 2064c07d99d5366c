use Rattle.std.proofs.Common.{subst, Bool}
use Rattle.front.specs.Parts.{Puts}
use Rattle.front.proofs.Held.{holding-none, holding-one, holding-cut, held-ended}
use Rattle.front.proofs.answering.answer_held.Goals as goal

pub loop-op-init : goal.loop-op-init
loop-op-init g c = holding-none g.F.Frames.refuses g.P.Port.steps (g.F.Frames.kept c.args.reader.now) (g.L.Line.seen c.args.line.now) c.args.port.now c.clear.new.self.items c.clear.ensures.items

pub returns-then-not-answer : goal.returns-then-not-answer
returns-then-not-answer g c =
    let a = c.answer.ensures in
    holding-cut g.F.Frames.refuses g.P.Port.steps (g.F.Frames.kept c.args.reader.now) (g.L.Line.seen c.args.line.now) c.args.port.now (g.F.Frames.kept c.loop-op.reader) (g.L.Line.seen c.loop-op.line) c.loop-op.port c.loop-op.waiting.items c.in-Some.op (g.F.Frames.kept c.next.new.self) a.0 a.1 (g.L.Line.seen c.answer.new.line) c.answer.new.port c.answer.new.waiting.items c.loop-op.invariant c.in-Some.ensures.taken a.2 a.3
    (subst (λ (b : Bool). Puts a.1 b c.loop-op.waiting.items (g.L.Line.seen c.loop-op.line) c.answer.new.waiting.items (g.L.Line.seen c.answer.new.line)) c.if-not-answer.true a.4)

pub loop-op-preserved : goal.loop-op-preserved
loop-op-preserved g c =
    let a = c.answer.ensures in
    holding-one g.F.Frames.refuses g.P.Port.steps (g.F.Frames.kept c.args.reader.now) (g.L.Line.seen c.args.line.now) c.args.port.now (g.F.Frames.kept c.loop-op.reader) (g.L.Line.seen c.loop-op.line) c.loop-op.port c.loop-op.waiting.items c.in-Some.op (g.F.Frames.kept c.next.new.self) a.0 a.1 (g.L.Line.seen c.answer.new.line) c.answer.new.port c.answer.new.waiting.items c.loop-op.invariant c.in-Some.ensures.taken c.next.ensures.rest c.next.ensures.fault a.2 a.3
    (subst (λ (b : Bool). Puts a.1 b c.loop-op.waiting.items (g.L.Line.seen c.loop-op.line) c.answer.new.waiting.items (g.L.Line.seen c.answer.new.line)) c.if-not-answer.false a.4)

pub returns : goal.returns
returns g c =
    held-ended g.F.Frames.refuses g.P.Port.steps (g.F.Frames.kept c.args.reader.now) (g.L.Line.seen c.args.line.now) c.args.port.now (g.F.Frames.kept c.loop-op.reader) (g.F.Frames.kept c.next.new.self) (g.L.Line.seen c.loop-op.line) c.loop-op.port c.loop-op.waiting.items c.write_waiting.result (g.L.Line.seen c.write_waiting.new.line)
    c.loop-op.invariant c.in_default.ensures.none c.write_waiting.ensures.wrote
