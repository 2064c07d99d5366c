use Rattle.std.proofs.Common.{arith}
use Rattle.threaded.proofs.Looked.{no_place, one_more_place}
use Rattle.threaded.proofs.concluding.places_of.Goals as goal

pub loop-node-preserved : goal.loop-node-preserved
loop-node-preserved c = grind (arith, no_place, one_more_place)
