use Rattle.std.proofs.Common.{subst}
use Rattle.messages.specs.Actors.{OfShard}
use Rattle.threaded.specs.declared.actor.Actor.{Actor}
use Rattle.threaded.specs.Machines.{Stands}
use Rattle.threaded.proofs.history.decision.Goals as goal

pub returns-in-Shard : goal.returns-in-Shard
returns-in-Shard c =
    λ top node a stands. c.decided.ensures top node a (subst (λ (m : Actor). Stands top node m (OfShard a)) c.in-Shard.is stands)
