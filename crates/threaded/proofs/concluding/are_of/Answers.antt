use Rattle.std.proofs.Common.{arith}
use Rattle.std.proofs.lemmas.Grind.{elements}
use Rattle.threaded.proofs.concluding.are_of.Goals as goal

pub returns-then-not-same_topology : goal.returns-then-not-same_topology
returns-then-not-same_topology c = grind (arith, elements)

pub loop-place-preserved : goal.loop-place-preserved
loop-place-preserved c = grind (arith, elements)

pub returns : goal.returns
returns c = grind (arith, elements)
