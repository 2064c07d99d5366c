-- How many envelopes came from the sites of other data centres: what their peers are told was taken.
use Rattle.std.specs.Prelude.{ℕ, ◌==◌, Bool, false, List, map, filter, length}
use Rattle.std.specs.List.{range_with_len}
use Rattle.site.specs.Steps.{Step, Asked, Came, Turned, Collected}
use Rattle.site_ledger.specs.declared.entry.Entry.{Entry}
use Rattle.site_ledger.specs.declared.entry.Entry.TheVariants as entry

-- whether a step is that an envelope came from the site of this data centre
abbrev pub comes_from : ℕ → Step → Bool
comes_from dc (Asked node op) = false
comes_from dc (Came from e) = from == dc
comes_from dc Turned = false
comes_from dc (Collected node time) = false

-- how many came from there
abbrev pub heard_from : List Step → ℕ → ℕ
heard_from all dc = length (filter (comes_from dc) all)

-- how many came from each of so many data centres, in the order of their numbers
abbrev pub heard_from_each : ℕ → List Step → List ℕ
heard_from_each dcs all = map (heard_from all) (range_with_len 0 dcs)

-- whether an entry tells of one
abbrev pub tells_of_one : ℕ → Entry → Bool
tells_of_one dc (entry.Whose whose incarnation digest) = false
tells_of_one dc (entry.Met whose incarnation) = false
tells_of_one dc (entry.Asked session op) = false
tells_of_one dc (entry.Came from e) = from == dc
tells_of_one dc (entry.Turned count) = false
tells_of_one dc (entry.Collected shard time) = false
