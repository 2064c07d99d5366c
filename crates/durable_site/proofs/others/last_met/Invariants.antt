use Rattle.std.proofs.Common.{◌≡◌, take}
use Rattle.durable_site.specs.Met.{last_met}
use Rattle.durable_site.proofs.others.last_met.Given as goal

-- the last one of those so far
abbrev pub invariant-loop-entry : goal.invariant-loop-entry
invariant-loop-entry l = l.last ≡ last_met (take l.entry-index l.entries) l.dc
