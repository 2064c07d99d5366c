use Rattle.std.proofs.lemmas.Grind.{common_steps}
use Rattle.std.proofs.Common.{arith}
use Rattle.actors.proofs.lane.Lane.flush.Goals as goal

pub loop-self-preserved : goal.loop-self-preserved
loop-self-preserved c = grind (arith, common_steps)
