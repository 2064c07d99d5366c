use Rattle.std.proofs.Common.{length}
use Rattle.site.proofs.opening.close_members.Given as goal

abbrev pub decreases-loop-place : goal.decreases-loop-place
decreases-loop-place g l = length l.members.items
