use Rattle.actors.proofs.Sent.{by_way, not_by_way}
use Rattle.std.proofs.Common.{arith}
use Rattle.actors.proofs.seat.Seat.sent_to.Goals as goal

pub returns : goal.returns
returns c = grind (arith, by_way, not_by_way)
