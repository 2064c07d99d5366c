use Rattle.std.proofs.Common.{◌≡◌, map, take}
use Rattle.sites_file.specs.Sites.{site_seen, homes_from}
use Rattle.sites_file.proofs.reading.homes_of.Given as goal

abbrev pub invariant-loop-dc : goal.invariant-loop-dc
invariant-loop-dc l = l.homes.items ≡ homes_from 0 (map site_seen (take l.dc l.sites))
