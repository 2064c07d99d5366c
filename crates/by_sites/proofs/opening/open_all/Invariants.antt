use Rattle.std.proofs.Common.{◌≤◌}
use Rattle.by_sites.specs.Sites.{AreNewSites}
use Rattle.by_sites.proofs.opening.open_all.Given as goal

abbrev pub invariant-loop-dc : goal.invariant-loop-dc
invariant-loop-dc l = (l.count ≤ l.sites.cap) × AreNewSites l.topology l.dc l.sites.items
