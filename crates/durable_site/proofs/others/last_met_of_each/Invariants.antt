use Rattle.std.proofs.Common.{◌≡◌}
use Rattle.durable_site.specs.Met.{last_met_of_each}
use Rattle.durable_site.proofs.others.last_met_of_each.Given as goal

-- those so far are of the data centres so far
abbrev pub invariant-loop-dc : goal.invariant-loop-dc
invariant-loop-dc l = l.met.items ≡ last_met_of_each l.dc l.entries
