use Rattle.std.proofs.Common.{length}
use Rattle.by_sites.proofs.opening.close_all.Given as goal

abbrev pub decreases-loop-site : goal.decreases-loop-site
decreases-loop-site l = length l.sites.items
