use Rattle.std.proofs.Common.{rules}
use Rattle.actors.proofs.Lanes.{idle_flushed}
use Rattle.actors.proofs.ways.Ways.flush.Goals as goal

pub returns-then-self-clause-flushed : goal.returns-then-self-clause-flushed
returns-then-self-clause-flushed c = idle_flushed _ (search rules)

pub invariant_of-self-2 : goal.invariant_of-self-2
invariant_of-self-2 c = search rules
