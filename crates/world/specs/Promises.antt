-- What is promised of every run, in a customer's words: one set of whole transactions for each data centre, and one number.
use Rattle.std.specs.Prelude.{◌≡◌, ◌≢◌, ℕ, ◌<◌, ◌≤◌, true, List, ◌++◌, Some, Contains, AllPairs}
use Rattle.logical_time.specs.Stamps.{TxnValue, is_older}
use Rattle.std.specs.List.{list_any}
use Rattle.column_family.specs.declared.batch.Change.{Change}
use Rattle.column_family.specs.Location.{touches}
use Rattle.column_family.specs.History.{History}
use Rattle.slice.specs.declared.read.Read.{Read}
use Rattle.slice.specs.declared.read.AnsweredRow.{AnsweredRow}
use Rattle.slice.specs.Rows.{row_of}
use Rattle.table.specs.Meaning.{meaning}
use Rattle.messages.specs.declared.op.Op.{Op}
use Rattle.messages.specs.declared.op.Op.TheVariants as op
use Rattle.messages.specs.declared.outcome.Outcome.{Outcome}
use Rattle.messages.specs.declared.outcome.Outcome.TheVariants as outcome
use Rattle.messages.specs.Topology.{TopologyValue}
use Rattle.messages.specs.Honest.{IsHonest}
use Rattle.messages.specs.Shard.{Decision}
use Rattle.messages.specs.Actors.{outcomes_by, opening_home, home_before}
use Rattle.world.specs.Run.{Run, RunEvent, Submission, Completed, run}
use Rattle.world.specs.Histories.{batch_submitted, decisions_in, IsHistory}
use Rattle.world.specs.Before.{Past}
use Rattle.world.specs.Fresh.{IsFresh}
use Rattle.world.specs.Met.{envelopes_to}
use Rattle.world.specs.Journals.{journal_in, ended_at, IsBeginning}
use Rattle.world.specs.Committed.{IsCommittedBy, time_of, IsNotBelow}
use Rattle.world.specs.Entries.{IsKeptIn}

-- the number of an operation that ended
abbrev pub number_of : Completed → TxnValue
number_of c = record { session = c.node; number = c.number }

-- what completed is a read, with this effective time and this answer
pub record IsAnswered (w : Run) (c : Completed) (read : Read) (time : ℕ) (answer : List AnsweredRow) : Type 0 where
  pub completed : Contains w.transcript c
  pub op : c.op ≡ op.Read read
  pub outcome : c.outcome ≡ outcome.Read time answer

-- what came of an operation fits it: a write is committed, a read is answered or given up, and a move is to where it was asked
abbrev pub Fits : Op → Outcome → Type 0
Fits (op.Batch batch) (outcome.Wrote commit stamp) = Unit {0}
Fits (op.Read read) (outcome.Read time answer) = Unit {0}
Fits (op.Read read) outcome.Collected = Unit {0}
Fits (op.Move dc) (outcome.Moved there floor) = there ≡ dc
Fits o r = ⊥

-- what completed is a submitted operation of that session, number and home, and its outcome fits it
pub record IsEndOfSubmitted (w : Run) (c : Completed) : Type 0 where
  pub submission : Submission
  pub submitted : Contains w.submitted submission
  pub session : submission.session ≡ c.node
  pub number : submission.number ≡ c.number
  pub home : submission.home ≡ c.home
  pub op : submission.op ≡ c.op
  pub fits : Fits c.op c.outcome

-- each entry of the transcript is of an operation that was submitted
abbrev pub EntriesAreOfSubmissions : Run → Type 0
EntriesAreOfSubmissions w = (c : Completed) → Contains w.transcript c → IsEndOfSubmitted w c

-- the entries of each actor are what its journal finishes, in that order
abbrev pub OutcomesAreListed : TopologyValue → Run → Type 0
OutcomesAreListed top w = (node : ℕ) → ended_at w node ≡ outcomes_by top node (journal_in w node)

-- what was sent, submitted and completed stays, in order, whatever events follow
pub record RunsGrow (top : TopologyValue) (before after : List RunEvent) : Type 0 where
  pub sent : IsBeginning (run top before).sent (run top (before ++ after)).sent
  pub submitted : IsBeginning (run top before).submitted (run top (before ++ after)).submitted
  pub transcript : IsBeginning (run top before).transcript (run top (before ++ after)).transcript

-- One table: the answer of each completed read is the meaning of its request on the history of its home, in whatever
-- order, at its effective time. It is the whole answer: the asked keys in order, each with its slice.
abbrev pub ReadsShowOneTable : TopologyValue → Run → Type 0
ReadsShowOneTable top w =
    (c : Completed) (read : Read) (time : ℕ) (answer : List AnsweredRow) (h : History)
    → IsAnswered w c read time answer → IsHistory top w c.home h → answer ≡ meaning read h time

-- it stays so: the answer of each completed read is the meaning of its request on the history of its home at any later
-- moment, too
abbrev pub AnswersStay : TopologyValue → List RunEvent → List RunEvent → Type 0
AnswersStay top before after =
    (c : Completed) (read : Read) (time : ℕ) (answer : List AnsweredRow) (h : History)
    → IsAnswered (run top before) c read time answer → IsHistory top (run top (before ++ after)) c.home h → answer ≡ meaning read h time

-- the transaction's batch, as submitted, touches a location of a row that the read asks for
pub record TouchesAsked (w : Run) (t : TxnValue) (read : Read) : Type 0 where
  pub batch : List Change
  pub submitted : batch_submitted w t ≡ Some batch
  pub key : List ℕ
  pub asked : Contains read.keys key
  pub name : List ℕ
  pub touches : list_any (touches (record { row = row_of read key; name = name })) batch ≡ true

-- What is committed in the home of a completed read after it was answered, and touches an asked row, has a commit time above
-- its effective time.
abbrev pub LaterCommitsAreAbove : TopologyValue → List RunEvent → List RunEvent → Type 0
LaterCommitsAreAbove top before after =
    (c : Completed) (read : Read) (time : ℕ) (answer : List AnsweredRow) (d : Decision)
    → IsAnswered (run top before) c read time answer
    → Contains (decisions_in top (run top (before ++ after)) c.home) d → (Contains (decisions_in top (run top before) c.home) d → ⊥)
    → TouchesAsked (run top (before ++ after)) d.txn read → time < d.commit

-- Past: each write before a completed read is committed in its home, with a commit time not above its effective time
abbrev pub ReadsShowTheirPast : TopologyValue → Run → Type 0
ReadsShowTheirPast top w =
    (c : Completed) (read : Read) (time : ℕ) (answer : List AnsweredRow) (u : TxnValue)
    → IsAnswered w c read time answer → Past top w (number_of c) u → IsCommittedBy top w c.home u time

-- A session that moved brings its past: each write before the move is committed in the new home, with a commit time not above
-- the floor that the move told
abbrev pub MovesBringTheirPast : TopologyValue → Run → Type 0
MovesBringTheirPast top w =
    (c : Completed) (dc floor : ℕ) (u : TxnValue)
    → Contains w.transcript c → c.outcome ≡ outcome.Moved dc floor → Past top w (number_of c) u → IsCommittedBy top w dc u floor

-- each completed read shows nothing older than the asked shards had applied when they sent what its session kept
abbrev pub ReadsAreFresh : TopologyValue → Run → Type 0
ReadsAreFresh top w = (c : Completed) → Contains w.transcript c → IsFresh top w c

-- if one write is before another, its stamp is less, wherever they are decided
abbrev pub StampsFollowCauses : TopologyValue → Run → Type 0
StampsFollowCauses top w =
    (u v : TxnValue) (dc ec : ℕ) (d e : Decision) → Past top w v u
    → Contains (decisions_in top w dc) d → d.txn ≡ u → Contains (decisions_in top w ec) e → e.txn ≡ v → is_older d.stamp e.stamp ≡ true

-- a session stayed in one home from one of its operations to another: so did the entries of all that ended from the one to the other
abbrev pub StaysAtHome : Run → Completed → Completed → Type 0
StaysAtHome w c e = (d : Completed) → Contains w.transcript d → d.node ≡ c.node → c.number ≤ d.number → d.number ≤ e.number → d.home ≡ c.home

-- the commit and effective times of a session never fall while it stays in one home
abbrev pub TimesNeverFall : Run → Type 0
TimesNeverFall w =
    (c e : Completed) → Contains w.transcript c → Contains w.transcript e → c.node ≡ e.node → c.number < e.number → StaysAtHome w c e
    → IsNotBelow e.outcome (time_of c.outcome)

-- sessions change their homes by their moves alone: each entry is of the data centre where the moves that its session ended
-- before left it
abbrev pub HomesAreOfMoves : TopologyValue → Run → Type 0
HomesAreOfMoves top w = (c : Completed) → Contains w.transcript c → c.home ≡ home_before (opening_home top c.node) (ended_at w c.node) c.number

-- an operation ends once: no two entries of the transcript have one number
abbrev pub OperationsEndOnce : Run → Type 0
OperationsEndOnce w = AllPairs (λ c e. number_of c ≢ number_of e) w.transcript

-- histories only grow: what further events add changes no entry
abbrev pub HistoriesGrow : TopologyValue → List RunEvent → List RunEvent → Type 0
HistoriesGrow top before after =
    (dc : ℕ) (g h : History) → IsHistory top (run top before) dc g → IsHistory top (run top (before ++ after)) dc h → IsKeptIn g h

-- what each shard handled is honest
abbrev pub HandledIsHonest : TopologyValue → Run → Type 0
HandledIsHonest top w = (node : ℕ) → IsHonest (w.shards node) (envelopes_to w node)
