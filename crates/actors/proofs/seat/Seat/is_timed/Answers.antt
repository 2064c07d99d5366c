use Rattle.std.proofs.Common.{rules}
use Rattle.actors.proofs.seat.Seat.is_timed.Goals as goal

pub returns : goal.returns
returns g c = search rules
