use Rattle.tracing.specs.Tracing.{HasGrown}
use Rattle.tracing.proofs.events.put_actors.Given as goal

abbrev pub invariant-loop-node : goal.invariant-loop-node
invariant-loop-node g l = HasGrown g.W.Write.contents l.fn.output l.output
