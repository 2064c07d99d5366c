use Rattle.tracing.specs.Tracing.{HasGrown}
use Rattle.tracing.proofs.bodies.put_sent.Given as goal

abbrev pub invariant-loop-message : goal.invariant-loop-message
invariant-loop-message g l = HasGrown g.W.Write.contents l.fn.output l.output
