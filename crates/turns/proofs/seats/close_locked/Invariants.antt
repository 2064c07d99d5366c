use Rattle.std.proofs.Common.{length}
use Rattle.turns.proofs.seats.close_locked.Given as goal

abbrev pub decreases-loop-seat : goal.decreases-loop-seat
decreases-loop-seat g l = length l.locked.items
