use Rattle.std.proofs.Common.{rules}
use Rattle.actors.proofs.seat.Seat.is_done.Goals as goal

pub returns-else-is_empty : goal.returns-else-is_empty
returns-else-is_empty c = search rules
