use Rattle.std.proofs.Common.{arith}
use Rattle.std.proofs.lemmas.Grind.{common_steps}
use Rattle.threaded.proofs.actor.ActorMachine.take_answer.Goals as goal

pub returns-in-Session-clause-came : goal.returns-in-Session-clause-came
returns-in-Session-clause-came c = grind (arith, common_steps)
