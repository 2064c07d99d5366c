use Rattle.std.proofs.Common.{length}
use Rattle.threaded.proofs.concluded.Concluded.leave.Given as goal

abbrev pub decreases-loop-seat : goal.decreases-loop-seat
decreases-loop-seat l = length l.seats.items
