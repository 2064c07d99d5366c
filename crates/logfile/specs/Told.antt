-- What is told of a file that is a log, and why nothing is.
use Rattle.std.specs.Prelude.{◌≡◌, ◌⊎◌, ◌+◌, ℕ, Bool, true, false, Some, List, ◌++◌, length, count_by, codes, decimal}
use Rattle.std.specs.List.{flat_map}
use Rattle.logical_time.specs.declared.fault.Fault.{Fault}
use Rattle.logical_time.specs.declared.fault.Fault.TheVariants.{ClockSpent, Memory, ReadFailed, Script}
use Rattle.disk.specs.declared.disk.DiskError.TheVariants as disk
use Rattle.records.specs.Records.{spelled, recovered}
use Rattle.messages.specs.Topology.{TopologyValue}
use Rattle.world.specs.declared.run_event.RunEvent.{RunEvent}
use Rattle.world.specs.Run.{run}
use Rattle.world.specs.Quiet.{IsQuiet}
use Rattle.keeper.specs.declared.recovery.RecoveryError.TheVariants as recovery
use Rattle.ledger.specs.Heads.{IsNoHead}
use Rattle.ledger.specs.declared.head.HeadError.TheVariants as head
use Rattle.ledger.specs.declared.entry.Entry.{Entry}
use Rattle.ledger.specs.declared.entry.Entry.TheVariants.{Request, Rested}
use Rattle.durable.specs.Playing.{IsLed}
use Rattle.durable.specs.Stuck.{CantRead, CantRecall, CantOpen}
use Rattle.durable.specs.declared.error.OpenError.TheVariants as open_error
use Rattle.workload.specs.Audited.{AreFirstHistories}
use Rattle.recorded.specs.Performing.{recorded_in}
use Rattle.recorded.specs.Recorded.{RecordedValue}
use Rattle.recorded.specs.Recording.{reads_in}
use Rattle.logfile.specs.declared.error.LogError.{LogError}
use Rattle.logfile.specs.declared.error.LogError.TheVariants.{Head, Other, Records, Unspelled}
use Rattle.logfile.specs.declared.summary.Summary.{Summary}
use Rattle.logfile.specs.declared.site_summary.SiteSummary.{SiteSummary}
use Rattle.logfile.specs.Logs.{BeginsWith, behind, IsLogOf, Keeps}
use Rattle.logfile.specs.Sites.{HasNoHead, IsOfSite, IsOfNoSite, IsSiteSummaryOf, CantLookAtSite, site_line, site_counts_text, other_text, rest_text}

abbrev pub is_request : Entry → Bool
is_request (Request session op) = true
is_request (Rested shard) = false

-- ## What is in it

-- how many requests and collections a log has, how long its records are, and how much is torn behind them
pub record IsSummaryOf (file : List ℕ) (s : Summary) : Type 0 where
  pub secret : ℕ
  pub entries : List Entry
  pub log : IsLogOf file secret s.topology entries
  pub requests : s.requests ≡ count_by is_request entries
  pub all : s.requests + s.collections ≡ length entries
  pub records : s.records ≡ length (spelled secret 0 (recovered secret 0 0 (behind secret s.topology file)))
  pub torn : s.records + s.torn ≡ length (behind secret s.topology file)

-- which store it is, its families' names with commas between them
abbrev pub store_text : TopologyValue → List ℕ → List ℕ
store_text top names =
    decimal top.dcs ++ codes " data centres of " ++ decimal top.shards ++ codes " shards with " ++ decimal (length top.homes) ++ codes " sessions, families " ++ names

-- how much is in it
abbrev pub counts_text : Summary → List ℕ
counts_text s =
    decimal s.requests ++ codes " requests, " ++ decimal s.collections ++ codes " collections\n"
    ++ decimal s.records ++ codes " bytes of records, and " ++ decimal s.torn ++ codes " torn bytes behind them\n"

-- the three lines that tell it
abbrev pub summary_text : Summary → List ℕ → List ℕ
summary_text s names = codes "the log of " ++ store_text s.topology names ++ codes "\n" ++ counts_text s

-- those that tell what is in the log of a node
abbrev pub site_text : SiteSummary → List ℕ → List ℕ
site_text s names = site_line s.dc (store_text s.topology names) ++ (site_counts_text s.counts ++ (flat_map other_text s.counts.others.items ++ rest_text s.records s.torn))

-- the text tells what is in the log of a server
abbrev pub TellsServer : List ℕ → List ℕ → Type 0
TellsServer file text = (s : Summary) × IsSummaryOf file s × (names : List ℕ) × (text ≡ summary_text s names)

-- it tells what is in that of this data centre's node
abbrev pub TellsNode : List ℕ → ℕ → List ℕ → Type 0
TellsNode file dc text = (s : SiteSummary) × IsSiteSummaryOf file dc s × (names : List ℕ) × (text ≡ site_text s names)

-- the text tells what is in the log that a file holds, a node's where its first record says so
abbrev pub IsLookFor : List ℕ → List ℕ → Type 0
IsLookFor file text = (IsOfNoSite file × TellsServer file text) ⊎ ((dc : ℕ) × IsOfSite file dc × TellsNode file dc text)

-- ## What happened

-- The history of the world that a log led to, when all is handled, in which all keeps the meaning that it had: of each data centre, and
-- the reads that it answered, in the order of their ends.
pub record IsHistoryOf (file : List ℕ) (r : RecordedValue) : Type 0 where
  pub secret : ℕ
  pub top : TopologyValue
  pub entries : List Entry
  pub log : IsLogOf file secret top entries
  pub events : List RunEvent
  pub led : IsLed top events entries
  pub quiet : IsQuiet (run top events)
  pub keeps : Keeps file secret top events
  pub families : r.families ≡ top.schema
  pub histories : AreFirstHistories top (run top events) top.dcs r.histories
  pub reads : r.reads ≡ reads_in (run top events).transcript

-- reading the text gives the history of the log that a file holds
abbrev pub IsLogHistoryFor : List ℕ → List ℕ → Type 0
IsLogHistoryFor file text = (r : RecordedValue) × IsHistoryOf file r × (recorded_in text ≡ Some r)

-- one or the other
abbrev pub IsLogTextFor : Bool → List ℕ → List ℕ → Type 0
IsLogTextFor false = IsLookFor
IsLogTextFor true = IsLogHistoryFor

-- ## Why nothing is told

-- no world of this topology comes back from a file
abbrev pub CantReopen : TopologyValue → List ℕ → LogError → Type 0
CantReopen top file (Head e) = IsNoHead file e
CantReopen top file (Other t) = (secret : ℕ) × BeginsWith secret t file × (t ≡ top → ⊥)
CantReopen top file (Records e) = (secret : ℕ) × BeginsWith secret top file × CantOpen top secret (behind secret top file) e
CantReopen top file Unspelled = ⊥

-- what is in a server's log isn't told: the file is no log, or its records tell nothing
abbrev pub CantLook : List ℕ → LogError → Type 0
CantLook file (Head e) = IsNoHead file e
CantLook file (Other t) = ⊥
CantLook file (Records e) = (secret : ℕ) × (top : TopologyValue) × BeginsWith secret top file × CantRead secret (behind secret top file) e
CantLook file Unspelled = ⊥

-- nor is its history: for that, or they lead to no world, or there is a history that isn't spelled
abbrev pub HasNoHistory : List ℕ → LogError → Type 0
HasNoHistory file (Head e) = IsNoHead file e
HasNoHistory file (Other t) = ⊥
HasNoHistory file (Records e) = (secret : ℕ) × (top : TopologyValue) × BeginsWith secret top file × CantRecall top secret (behind secret top file) e
HasNoHistory file Unspelled = (r : RecordedValue) × IsHistoryOf file r

-- what is in the log that a file holds isn't told
abbrev pub IsUnseen : List ℕ → LogError → Type 0
IsUnseen file e = HasNoHead file e ⊎ ((IsOfNoSite file × CantLook file e) ⊎ ((dc : ℕ) × IsOfSite file dc × CantLookAtSite file e))

abbrev pub CantTell : Bool → List ℕ → LogError → Type 0
CantTell false = IsUnseen
CantTell true = HasNoHistory

-- the fault that it is
abbrev pub fault_by : LogError → Fault
fault_by (Head head.Memory) = Memory
fault_by (Records (open_error.Unrecovered (recovery.Disk disk.Memory))) = Memory
fault_by (Records (open_error.Refused Memory)) = Memory
fault_by (Records (open_error.Refused ClockSpent)) = ClockSpent
fault_by Unspelled = Script
fault_by _ = ReadFailed

-- why the program says nothing of a file
abbrev pub IsUntold : Bool → List ℕ → Fault → Type 0
IsUntold history file fault = (why : LogError) × CantTell history file why × (fault ≡ fault_by why)
