-- Which process the site of another data centre was when it was last met: one that was started again empty is refused.
use Rattle.std.specs.Prelude.{◌≡◌, ℕ, ◌==◌, List, Option, Some, None, map, filter_map, if◌then◌else◌}
use Rattle.std.specs.List.{range_with_len, last_or}
use Rattle.records.specs.Records.{Entry as Record}
use Rattle.site_ledger.specs.declared.entry.Entry.{Entry}
use Rattle.site_ledger.specs.declared.entry.Entry.TheVariants.{Whose, Asked, Came, Turned, Collected, Met}
use Rattle.durable_site.specs.Logged.{Tell}

-- the process, where an entry tells that the site of this data centre was met
abbrev pub met_by : ℕ → Entry → Option (List ℕ)
met_by dc (Whose whose incarnation digest) = None
met_by dc (Asked session op) = None
met_by dc (Came from e) = None
met_by dc (Turned count) = None
met_by dc (Collected shard time) = None
met_by dc (Met there incarnation) = if there == dc then Some incarnation else None

-- the last one of which entries tell
abbrev pub last_met : List Entry → ℕ → Option (List ℕ)
last_met entries dc = last_or None (filter_map (met_by dc) entries)

-- the last one of each of so many data centres, in the order of their numbers
abbrev pub last_met_of_each : ℕ → List Entry → List (Option (List ℕ))
last_met_of_each dcs entries = map (last_met entries) (range_with_len 0 dcs)

-- these are the last ones of which the entries that these records tell do
abbrev pub WereMet : ℕ → List Record → List (Option (List ℕ)) → Type 0
WereMet dcs records met = (entries : List Entry) × Tell entries records × (met ≡ last_met_of_each dcs entries)
