use Rattle.slice.proofs.NameOrder.{put_among_none, put_among_insert}
use Rattle.std.proofs.Common.{arith}
use Rattle.slice.proofs.ordering.set_of.Goals as goal

pub loop-name-init : goal.loop-name-init
loop-name-init c = grind (arith, put_among_none, put_among_insert)
