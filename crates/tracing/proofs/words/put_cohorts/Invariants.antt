use Rattle.tracing.specs.Tracing.{HasGrown}
use Rattle.tracing.proofs.words.put_cohorts.Given as goal

abbrev pub invariant-loop-shard : goal.invariant-loop-shard
invariant-loop-shard g l = HasGrown g.W.Write.contents l.fn.output l.output
