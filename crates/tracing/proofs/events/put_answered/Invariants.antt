use Rattle.tracing.specs.Tracing.{HasGrown}
use Rattle.tracing.proofs.events.put_answered.Given as goal

abbrev pub invariant-loop-row : goal.invariant-loop-row
invariant-loop-row g l = HasGrown g.W.Write.contents l.fn.output l.output
