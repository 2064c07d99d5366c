use Rattle.tracing.specs.Tracing.{HasGrown}
use Rattle.tracing.proofs.events.put_rounds.Given as goal

abbrev pub invariant-loop-number : goal.invariant-loop-number
invariant-loop-number g l = HasGrown g.W.Write.contents l.fn.output l.output
