-- What is told of a file that is the log of a node, and why nothing is.
use Rattle.std.specs.Prelude.{◌≡◌, ◌+◌, ◌==◌, ℕ, Bool, true, false, not, Option, Some, None, List, ◌∷◌, ◌++◌, length, map, filter, count_by, codes, decimal}
use Rattle.std.specs.List.{list_any, range_with_len, sum_by}
use Rattle.logical_time.specs.declared.fault.Fault.TheVariants.{Memory}
use Rattle.messages.specs.Topology.{TopologyValue}
use Rattle.records.specs.Records.{Entry as Record, spelled, recovered, IsUndamaged}
use Rattle.keeper.specs.declared.recovery.RecoveryError.TheVariants.{Disk, Damaged}
use Rattle.ledger.specs.Heads.{IsNoHead}
use Rattle.durable.specs.Looked.{IsDamagedAt}
use Rattle.durable.specs.declared.error.OpenError.{OpenError}
use Rattle.durable.specs.declared.error.OpenError.TheVariants.{Unrecovered, Unread, Refused}
use Rattle.site_ledger.specs.declared.entry.Entry.{Entry}
use Rattle.site_ledger.specs.declared.entry.Entry.TheVariants.{Whose, Asked, Came, Turned, Collected, Met}
use Rattle.site_ledger.specs.Entries.{IsTextOf, IsNumbered}
use Rattle.durable_site.specs.Logged.{Tell}
use Rattle.durable_site.specs.Heard.{tells_of_one}
use Rattle.durable_site.specs.Stuck.{TellsNone}
use Rattle.logfile.specs.declared.error.LogError.{LogError}
use Rattle.logfile.specs.declared.error.LogError.TheVariants.{Head, Other as OtherStore, Records, Unspelled}
use Rattle.logfile.specs.declared.site_counts.Other.{Other}
use Rattle.logfile.specs.declared.site_counts.Counts.{Counts}
use Rattle.logfile.specs.declared.site_summary.SiteSummary.{SiteSummary}
use Rattle.logfile.specs.Logs.{BeginsWith, behind}

-- ## Whose it is

-- the data centre, where an entry tells whose log it is
abbrev pub begun_by : Entry → Option ℕ
begun_by (Whose dc incarnation digest) = Some dc
begun_by (Asked session op) = None
begun_by (Came from envelope) = None
begun_by (Turned count) = None
begun_by (Collected shard time) = None
begun_by (Met dc incarnation) = None

-- the first of these records tells that the log is that of this data centre's node
abbrev pub IsBegunBy : List Record → ℕ → Type 0
IsBegunBy records dc = (r : Record) × (rest : List Record) × (records ≡ r ∷ rest) × (e : Entry) × (begun_by e ≡ Some dc) × IsNumbered e × IsTextOf e r.body

-- a file holds the log of this data centre's node
abbrev pub IsOfSite : List ℕ → ℕ → Type 0
IsOfSite file dc = (secret : ℕ) × (top : TopologyValue) × BeginsWith secret top file × IsBegunBy (recovered secret 0 0 (behind secret top file)) dc

-- it holds that of no node
abbrev pub IsOfNoSite : List ℕ → Type 0
IsOfNoSite file = (secret : ℕ) × (top : TopologyValue) × BeginsWith secret top file × ((dc : ℕ) → IsBegunBy (recovered secret 0 0 (behind secret top file)) dc → ⊥)

-- ## How much is in it

abbrev pub is_request : Entry → Bool
is_request (Whose dc incarnation digest) = false
is_request (Asked session op) = true
is_request (Came from envelope) = false
is_request (Turned count) = false
is_request (Collected shard time) = false
is_request (Met dc incarnation) = false

abbrev pub is_collection : Entry → Bool
is_collection (Whose dc incarnation digest) = false
is_collection (Asked session op) = false
is_collection (Came from envelope) = false
is_collection (Turned count) = false
is_collection (Collected shard time) = true
is_collection (Met dc incarnation) = false

-- how many envelopes were handled, by one entry, and by all
abbrev pub turns_in : Entry → ℕ
turns_in (Whose dc incarnation digest) = 0
turns_in (Asked session op) = 0
turns_in (Came from envelope) = 0
turns_in (Turned count) = count
turns_in (Collected shard time) = 0
turns_in (Met dc incarnation) = 0

abbrev pub turns_of : List Entry → ℕ
turns_of entries = sum_by turns_in entries

-- whether an entry tells that the node of this data centre was met
abbrev pub meets : ℕ → Entry → Bool
meets dc (Whose whose incarnation digest) = false
meets dc (Asked session op) = false
meets dc (Came from envelope) = false
meets dc (Turned count) = false
meets dc (Collected shard time) = false
meets dc (Met there incarnation) = there == dc

-- what is told of a data centre: how many envelopes came from there, and whether its node was met
abbrev pub other_of : List Entry → ℕ → Other
other_of entries dc = record { dc = dc; came = count_by (tells_of_one dc) entries; met = list_any (meets dc) entries }

-- that of each of so many data centres but this one, in the order of their numbers
abbrev pub others_in : ℕ → ℕ → List Entry → List Other
others_in here dcs entries = filter (λ o. not (o.dc == here)) (map (other_of entries) (range_with_len 0 dcs))

-- the counts of what entries tell, in the log of the node of this data centre, of so many
pub record AreCountsOf (here dcs : ℕ) (entries : List Entry) (c : Counts) : Type 0 where
  pub requests : c.requests ≡ count_by is_request entries
  pub collections : c.collections ≡ count_by is_collection entries
  pub turns : c.turns ≡ turns_of entries
  pub others : c.others.items ≡ others_in here dcs entries

-- What a file holds, as the log of the node of this data centre: the counts are those of all entries that its records tell, none that was
-- synced is damaged, so long are they, and so much is torn behind them.
pub record IsSiteSummaryOf (file : List ℕ) (dc : ℕ) (s : SiteSummary) : Type 0 where
  pub whose : s.dc ≡ dc
  pub secret : ℕ
  pub begins : BeginsWith secret s.topology file
  pub entries : List Entry
  pub tell : Tell entries (recovered secret 0 0 (behind secret s.topology file))
  pub undamaged : IsUndamaged secret (behind secret s.topology file)
  pub counts : AreCountsOf dc s.topology.dcs entries s.counts
  pub records : s.records ≡ length (spelled secret 0 (recovered secret 0 0 (behind secret s.topology file)))
  pub torn : s.records + s.torn ≡ length (behind secret s.topology file)

-- ## The lines that tell it

abbrev pub site_line : ℕ → List ℕ → List ℕ
site_line dc store = codes "the log of data centre " ++ decimal dc ++ codes " of a store of " ++ store ++ codes "\n"

abbrev pub site_counts_text : Counts → List ℕ
site_counts_text c = decimal c.requests ++ codes " requests, " ++ decimal c.collections ++ codes " collections, " ++ decimal c.turns ++ codes " turns\n"

abbrev pub met_text : Bool → List ℕ
met_text true = codes "which was met"
met_text false = codes "which wasn't met yet"

abbrev pub other_text : Other → List ℕ
other_text o = decimal o.came ++ codes " envelopes came from data centre " ++ decimal o.dc ++ codes ", " ++ met_text o.met ++ codes "\n"

abbrev pub rest_text : ℕ → ℕ → List ℕ
rest_text records torn = decimal records ++ codes " bytes of records, and " ++ decimal torn ++ codes " torn bytes behind them\n"

-- ## Why nothing is told

-- a record tells no entry, or there is no memory
abbrev pub IsUnreadable : List Record → OpenError → Type 0
IsUnreadable records (Unrecovered e) = ⊥
IsUnreadable records (Unread n) = (before after : List Record) × (r : Record) × (records ≡ before ++ r ∷ after) × (n ≡ length before) × TellsNone r
IsUnreadable records (Refused fault) = fault ≡ Memory

-- for that, or a record that was synced is damaged
abbrev pub CantReadSite : ℕ → List ℕ → OpenError → Type 0
CantReadSite secret bytes (Unrecovered (Disk e)) = ⊥
CantReadSite secret bytes (Unrecovered (Damaged at)) = IsDamagedAt secret bytes at
CantReadSite secret bytes (Unread n) = IsUnreadable (recovered secret 0 0 bytes) (Unread n)
CantReadSite secret bytes (Refused fault) = fault ≡ Memory

-- a file doesn't begin as a log
abbrev pub HasNoHead : List ℕ → LogError → Type 0
HasNoHead file (Head e) = IsNoHead file e
HasNoHead file (OtherStore t) = ⊥
HasNoHead file (Records e) = ⊥
HasNoHead file Unspelled = ⊥

-- or its records tell nothing of a node
abbrev pub CantLookAtSite : List ℕ → LogError → Type 0
CantLookAtSite file (Head e) = IsNoHead file e
CantLookAtSite file (OtherStore t) = ⊥
CantLookAtSite file (Records e) = (secret : ℕ) × (top : TopologyValue) × BeginsWith secret top file × CantReadSite secret (behind secret top file) e
CantLookAtSite file Unspelled = ⊥
