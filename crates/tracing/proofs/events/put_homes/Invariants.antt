use Rattle.tracing.specs.Tracing.{HasGrown}
use Rattle.tracing.proofs.events.put_homes.Given as goal

abbrev pub invariant-loop-home : goal.invariant-loop-home
invariant-loop-home g l = HasGrown g.W.Write.contents l.fn.output l.output
