use Rattle.tracing.specs.Tracing.{HasGrown}
use Rattle.tracing.proofs.pieces.put_escaped.Given as goal

abbrev pub invariant-loop-byte : goal.invariant-loop-byte
invariant-loop-byte g l = HasGrown g.W.Write.contents l.fn.output l.output
