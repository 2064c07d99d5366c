use Rattle.tracing.specs.Tracing.{HasGrown}
use Rattle.tracing.proofs.telling.put_reads.Given as goal

abbrev pub invariant-loop-ended : goal.invariant-loop-ended
invariant-loop-ended g l = HasGrown g.W.Write.contents l.fn.output l.output
