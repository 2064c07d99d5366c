use Rattle.std.proofs.Common.{rules}
use Rattle.readiness.proofs.Buffers.{pushed-none, pushed-more, pushed-all, pushed-full, pushed-failed}
use Rattle.readiness.proofs.writing.push.Goals as goal

pub loop-gone-init : goal.loop-gone-init
loop-gone-init g c = pushed-none c.args.piece.now (g.L.ReadyLine.seen c.args.line.now)

pub loop-gone-preserved : goal.loop-gone-preserved
loop-gone-preserved g c =
    pushed-more c.args.piece.now c.loop-gone.gone c.in-Bytes.n (g.L.ReadyLine.seen c.args.line.now) (g.L.ReadyLine.seen c.loop-gone.line) (g.L.ReadyLine.seen c.write.new.self) c.loop-gone.invariant (search rules) c.in-Bytes.ensures.line

pub returns-in-Nothing-clause-pushed : goal.returns-in-Nothing-clause-pushed
returns-in-Nothing-clause-pushed g c = pushed-full c.args.piece.now c.loop-gone.gone (g.L.ReadyLine.seen c.args.line.now) (g.L.ReadyLine.seen c.loop-gone.line) (g.L.ReadyLine.seen c.write.new.self) c.loop-gone.invariant c.in-Nothing.ensures.line

pub returns-in-Failed-clause-pushed : goal.returns-in-Failed-clause-pushed
returns-in-Failed-clause-pushed g c = pushed-failed c.args.piece.now c.loop-gone.gone (g.L.ReadyLine.seen c.args.line.now) (g.L.ReadyLine.seen c.loop-gone.line) (g.L.ReadyLine.seen c.write.new.self) c.loop-gone.invariant c.in-Failed.ensures.line

pub returns-clause-pushed : goal.returns-clause-pushed
returns-clause-pushed g c = pushed-all c.args.piece.now c.loop-gone.gone (g.L.ReadyLine.seen c.args.line.now) (g.L.ReadyLine.seen c.loop-gone.line) c.loop-gone.invariant (search rules)
