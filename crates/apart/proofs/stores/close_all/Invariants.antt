use Rattle.std.proofs.Common.{length}
use Rattle.apart.proofs.stores.close_all.Given as goal

abbrev pub decreases-loop-site : goal.decreases-loop-site
decreases-loop-site l = length l.sites.items
