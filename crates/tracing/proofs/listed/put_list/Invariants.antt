use Rattle.tracing.specs.Tracing.{HasGrown}
use Rattle.tracing.proofs.listed.put_list.Given as goal

abbrev pub invariant-loop-item : goal.invariant-loop-item
invariant-loop-item g l = HasGrown g.W.Write.contents l.fn.output l.output
