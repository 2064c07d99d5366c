-- What an answered read owes to the answers of its first round: it shows nothing older than the asked shards had applied.
use Rattle.std.specs.Prelude.{◌≡◌, ℕ, ◌<◌, ◌≤◌, true, false, List, ◌∷◌, ◌++◌, length, slice_get, Some, Contains}
use Rattle.std.specs.List.{list_any}
use Rattle.logical_time.specs.Stamps.{is_older}
use Rattle.column_family.specs.Location.{Location, touches}
use Rattle.column_family.specs.History.{Stamped, newest_at}
use Rattle.slice.specs.declared.read.Read.{Read}
use Rattle.slice.specs.declared.read.AnsweredRow.{AnsweredRow}
use Rattle.slice.specs.Slice.{is_asked}
use Rattle.store.specs.declared.part.Applied.{Applied}
use Rattle.planner.specs.Plan.{shards_asked}
use Rattle.slice.specs.Rows.{row_of}
use Rattle.messages.specs.declared.rows_now.RowNow.{RowNow}
use Rattle.messages.specs.declared.body.Body.TheVariants as body
use Rattle.messages.specs.declared.envelope.Envelope.{Envelope}
use Rattle.messages.specs.declared.op.Op.{Op}
use Rattle.messages.specs.declared.op.Op.TheVariants as op
use Rattle.messages.specs.declared.outcome.Outcome.{Outcome}
use Rattle.messages.specs.declared.outcome.Outcome.TheVariants as outcome
use Rattle.messages.specs.Topology.{TopologyValue, shard_node}
use Rattle.messages.specs.Session.{HeardNow, FirstRound}
use Rattle.messages.specs.Rounds.{asked_nodes, is_missing}
use Rattle.world.specs.Run.{Run, RunEvent, Deliver, Completed, step, run}
use Rattle.world.specs.Histories.{history_of}

-- The session kept this message as a shard's answer to the first round of the read that it numbered so: at its delivery
-- the read was in that round, and the shard was asked and hadn't answered.
pub record IsKept (top : TopologyValue) (w : Run) (session number k : ℕ) (e : Envelope) : Type 0 where
  pub before : List RunEvent
  pub after : List RunEvent
  pub delivery : w.events ≡ before ++ Deliver k ∷ after
  pub message : slice_get w.sent k ≡ Some e
  pub address : e.to ≡ session
  pub rows : List RowNow
  pub body : e.body ≡ body.PartNow number rows
  pub count : ((run top before).sessions session).count ≡ number
  pub read : Read
  pub heard : List HeardNow
  pub first_round : ((run top before).sessions session).current ≡ FirstRound read heard
  pub missing : is_missing (asked_nodes top ((run top before).sessions session) read) heard e.from ≡ true

-- the shard had applied this part when it sent this message
pub record WasApplied (top : TopologyValue) (w : Run) (shard k : ℕ) (x : Applied) : Type 0 where
  pub before : List RunEvent
  pub event : RunEvent
  pub after : List RunEvent
  pub sending : w.events ≡ before ++ event ∷ after
  pub not_sent : length (run top before).sent ≤ k
  pub by_then : k < length (step top (run top before) event).sent
  pub applied : Contains ((run top before).shards shard).applied x

-- The newest mutation of a location, in the table of this data centre at this time, isn't older than what was applied.
-- There is one
abbrev pub IsNoOlder : TopologyValue → Run → ℕ → ℕ → Location → Applied → Type 0
IsNoOlder top w dc time l x =
    (n : Stamped) × (newest_at (history_of top w dc) time l ≡ Some n) × (is_older n.stamp x.stamp ≡ false)

-- A read that was answered at this time is fresh: at each asked location, whatever a shard had applied there before it
-- sent the answer that the session kept isn't newer than what the table shows. For a range, every location between its
-- ends is asked, whatever its count
abbrev pub IsFreshAt : TopologyValue → Run → Completed → Read → ℕ → Type 0
IsFreshAt top w c read time =
    (k : ℕ) (e : Envelope) (x : Applied) (key name : List ℕ)
    → IsKept top w c.node c.number k e → WasApplied top w e.from k x
    → Contains read.keys key → is_asked read.predicate name ≡ true
    → list_any (touches (record { row = row_of read key; name = name })) x.part.batch ≡ true
    → IsNoOlder top w c.home time (record { row = row_of read key; name = name }) x

-- what ended is fresh, by what was submitted and what came of it: nothing is owed but by answered reads
abbrev pub IsFreshFor : Op → Outcome → TopologyValue → Run → Completed → Type 0
IsFreshFor (op.Read read) (outcome.Read time answer) top w c = IsFreshAt top w c read time
IsFreshFor o end top w c = Unit {0}

abbrev pub IsFresh : TopologyValue → Run → Completed → Type 0
IsFresh top w c = IsFreshFor c.op c.outcome top w c

-- ## The answers of the first round

-- The session kept an answer of this shard to the first round of the operation that it numbered so; and but for this
-- delivery of this message it kept none.
pub record HasOneKept (top : TopologyValue) (w : Run) (session number shard : ℕ) : Type 0 where
  pub k : ℕ
  pub e : Envelope
  pub kept : IsKept top w session number k e
  pub from : e.from ≡ shard
  pub one : (j : ℕ) (f : Envelope) (other : IsKept top w session number j f) → f.from ≡ shard → (j ≡ k) × (other.before ≡ kept.before)

-- of each shard that a completed read asked, its session kept one answer of the first round
abbrev pub FirstRoundsAreWhole : TopologyValue → Run → Type 0
FirstRoundsAreWhole top w =
    (c : Completed) (read : Read) (time : ℕ) (answer : List AnsweredRow) (shard : ℕ)
    → Contains w.transcript c → c.op ≡ op.Read read → c.outcome ≡ outcome.Read time answer → Contains (shards_asked top.shards read.keys) shard
    → HasOneKept top w c.node c.number (shard_node top c.home shard)
