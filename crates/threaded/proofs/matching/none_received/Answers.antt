use Rattle.std.proofs.Common.{arith}
use Rattle.threaded.proofs.Matched.{one_more_none}
use Rattle.threaded.proofs.matching.none_received.Goals as goal

pub loop-made-preserved : goal.loop-made-preserved
loop-made-preserved c = grind (arith, one_more_none)
