use Rattle.std.proofs.Common.{◌≡◌, ◌≤◌}
use Rattle.apart.proofs.stores.open_all.Given as goal

abbrev pub invariant-loop-dc : goal.invariant-loop-dc
invariant-loop-dc l = (l.count ≤ l.sites.cap) × (l.sites.len ≡ l.dc)
