use Rattle.std.proofs.Common.{rules}
use Rattle.front.proofs.Said.{written-cut, written-more}
use Rattle.front.proofs.writing.write_all.Goals as goal

pub returns-in-None : goal.returns-in-None
returns-in-None g c = written-cut c.args.piece.now c.loop-at.at (g.L.Line.seen c.args.line.now) (g.L.Line.seen c.loop-at.line) (g.L.Line.seen c.write.new.self) c.loop-at.invariant (search rules) c.in-None.ensures.line

pub loop-at-preserved : goal.loop-at-preserved
loop-at-preserved g c =
    written-more c.args.piece.now c.loop-at.at c.in-Some.n (g.L.Line.seen c.args.line.now) (g.L.Line.seen c.loop-at.line) (g.L.Line.seen c.write.new.self) c.loop-at.invariant (search rules) c.in-Some.ensures.line
