use Rattle.std.proofs.Common.{length}
use Rattle.tracing.specs.Tracing.{HasGrown}
use Rattle.tracing.proofs.pieces.put_digits.Given as goal

abbrev pub decreases-loop-rest : goal.decreases-loop-rest
decreases-loop-rest g l = length l.rest

abbrev pub invariant-loop-rest : goal.invariant-loop-rest
invariant-loop-rest g l = HasGrown g.W.Write.contents l.fn.output l.output
