use Rattle.std.proofs.Common.{arith}
use Rattle.std.proofs.lemmas.Grind.{common_steps}
use Rattle.actors.proofs.pool.go_round.Goals as goal

pub loop-taken-preserved : goal.loop-taken-preserved
loop-taken-preserved c = grind (arith, common_steps) steps 100000

pub loop-taken-smaller : goal.loop-taken-smaller
loop-taken-smaller c = grind (arith, common_steps) steps 100000

pub nonzero_rem-worker : goal.nonzero_rem-worker
nonzero_rem-worker c = grind (arith, common_steps)

pub loop-taken-init : goal.loop-taken-init
loop-taken-init c = grind (arith, common_steps)
