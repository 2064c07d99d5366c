use Rattle.std.proofs.Common.{◌≡◌}
use Rattle.site_ledger.specs.Steps.{steps_told}
use Rattle.durable_site.specs.Heard.{heard_from_each}
use Rattle.durable_site.proofs.counting.heard_from_each.Given as goal

-- the counts so far are those of the data centres so far
abbrev pub invariant-loop-dc : goal.invariant-loop-dc
invariant-loop-dc l = l.counts.items ≡ heard_from_each l.dc (steps_told l.entries)
