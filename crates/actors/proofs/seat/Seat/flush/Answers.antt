use Rattle.std.proofs.Common.{arith}
use Rattle.std.proofs.lemmas.Grind.{common_steps}
use Rattle.actors.proofs.seat.Seat.flush.Goals as goal

pub returns-clause-fewer : goal.returns-clause-fewer
returns-clause-fewer c = grind (arith, common_steps)

pub returns-clause-still : goal.returns-clause-still
returns-clause-still c = grind (arith, common_steps)
