use Rattle.std.proofs.Common.{length}
use Rattle.turns.proofs.strangers.give.Given as goal

abbrev pub decreases-loop-to : goal.decreases-loop-to
decreases-loop-to l = length l.from.items
