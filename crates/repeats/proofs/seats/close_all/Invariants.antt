use Rattle.std.proofs.Common.{length}
use Rattle.repeats.proofs.seats.close_all.Given as goal

abbrev pub decreases-loop-seat : goal.decreases-loop-seat
decreases-loop-seat l = length l.seats.items
