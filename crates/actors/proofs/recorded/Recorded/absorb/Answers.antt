use Rattle.std.proofs.Common.{arith}
use Rattle.std.proofs.lemmas.Grind.{common_steps}
use Rattle.actors.proofs.recorded.Recorded.absorb.Goals as goal

pub returns-then-len-eq0-clause-sent : goal.returns-then-len-eq0-clause-sent
returns-then-len-eq0-clause-sent c = grind (arith, common_steps)

pub returns-then-len-eq0-clause-empty : goal.returns-then-len-eq0-clause-empty
returns-then-len-eq0-clause-empty c = grind (arith, common_steps)

pub loop-self-preserved : goal.loop-self-preserved
loop-self-preserved c = grind (arith, common_steps)

pub returns-clause-empty : goal.returns-clause-empty
returns-clause-empty c = grind (arith, common_steps)
