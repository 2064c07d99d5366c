use Rattle.std.proofs.Common.{arith}
use Rattle.std.proofs.lemmas.Grind.{common_steps}
use Rattle.threaded.proofs.actor.ActorMachine.step.Goals as goal

pub returns-in-Session : goal.returns-in-Session
returns-in-Session c = grind (arith, common_steps)

pub returns-in-Shard : goal.returns-in-Shard
returns-in-Shard c = grind (arith, common_steps)
