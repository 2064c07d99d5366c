use Rattle.std.proofs.Common.{arith}
use Rattle.std.proofs.lemmas.Grind.{common_steps}
use Rattle.links.proofs.laying.unlinked.Goals as goal

pub loop-smaller : goal.loop-smaller
loop-smaller c = grind (arith, common_steps)

pub returns-clause-count : goal.returns-clause-count
returns-clause-count c = grind (arith, common_steps)

pub returns-clause-incoming : goal.returns-clause-incoming
returns-clause-incoming c = grind (arith, common_steps)

pub returns-clause-outgoing : goal.returns-clause-outgoing
returns-clause-outgoing c = grind (arith, common_steps)
