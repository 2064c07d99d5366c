-- What journals tell by themselves, whatever run they are of, and what is promised of them.
use Rattle.std.specs.Prelude.{◌≡◌, ℕ, zero, suc, ◌<◌, if◌then◌else◌, List, [], true, filter_map, flat_map, slice_get, Option, Some, None, option_map, option_and_then, Contains, IsPermutation}
use Rattle.std.specs.List.{range_with_len}
use Rattle.logical_time.specs.Stamps.{TxnValue}
use Rattle.column_family.specs.declared.batch.Change.{Change}
use Rattle.column_family.specs.declared.batch.Committed.{Committed}
use Rattle.column_family.specs.History.{History}
use Rattle.slice.specs.declared.read.Read.{Read}
use Rattle.slice.specs.declared.read.AnsweredRow.{AnsweredRow}
use Rattle.table.specs.Meaning.{meaning}
use Rattle.messages.specs.declared.op.Op.{Op}
use Rattle.messages.specs.declared.op.Op.TheVariants as op
use Rattle.messages.specs.declared.outcome.Outcome.TheVariants as outcome
use Rattle.messages.specs.declared.event.ActorEvent.{ActorEvent}
use Rattle.messages.specs.declared.event.ActorEvent.TheVariants.{Submit as SubmitHere, Handle, Collect as CollectHere}
use Rattle.messages.specs.Topology.{TopologyValue, is_session, shard_node, node_count}
use Rattle.messages.specs.Shard.{Decision}
use Rattle.messages.specs.Actors.{ActorState, OfShard, OfSession, Replayed, replay_of, outcomes_by, opening_home, home_before}
use Rattle.world.specs.Run.{Run, Submission, RunEvent, submission_of, run}
use Rattle.world.specs.Histories.{batch_in, history_of}
use Rattle.world.specs.Journals.{held_in, IsRunOf, IsThreadedRun}
use Rattle.world.specs.Promises.{ReadsShowOneTable, ReadsShowTheirPast, ReadsAreFresh}

-- ## Operations

abbrev pub op_in : ActorEvent → Option Op
op_in (SubmitHere o) = Some o
op_in (Handle e) = None
op_in (CollectHere time) = None

-- the operation of a session with this number: the numbers are 1, 2, .. in the order of its journal
abbrev pub op_numbered : List ActorEvent → ℕ → Option Op
op_numbered journal zero = None
op_numbered journal (suc n) = slice_get (filter_map op_in journal) n

-- ## Histories

abbrev pub decided_of : ActorState → List Decision
decided_of (OfShard a) = a.decided
decided_of (OfSession a) = []

abbrev pub decided_in : Option Replayed → List Decision
decided_in None = []
decided_in (Some r) = decided_of r.state

-- what the shard with this node decided as coordinator, by its journal
abbrev pub decided_by : TopologyValue → (ℕ → List ActorEvent) → ℕ → List Decision
decided_by top journals node = decided_in (replay_of top node (journals node))

-- the batch of a transaction, by its session's journal
abbrev pub batch_by : TopologyValue → (ℕ → List ActorEvent) → TxnValue → Option (List Change)
batch_by top journals t = if is_session top t.session then option_and_then batch_in (op_numbered (journals t.session) t.number) else None

abbrev pub committed_by : TopologyValue → (ℕ → List ActorEvent) → Decision → Option Committed
committed_by top journals d = option_map (λ batch. record { batch = batch; stamp = d.stamp; commit = d.commit }) (batch_by top journals d.txn)

-- the history of a data centre, by the journals alone
abbrev pub history_by : TopologyValue → (ℕ → List ActorEvent) → ℕ → History
history_by top journals dc =
    filter_map (committed_by top journals) (flat_map (λ shard. decided_by top journals (shard_node top dc shard)) (range_with_len 0 top.shards))

-- ## What any run of the journals has

-- What the run has of each actor is what the replay of its journal gives, its histories are those of the journals, and so is
-- the operation of each number of a session.
pub record IsToldByJournals (top : TopologyValue) (journals : ℕ → List ActorEvent) (w : Run) : Type 0 where
  pub actors : (node : ℕ) → node < node_count top → replay_of top node (journals node) ≡ Some (held_in top w node)
  pub history : (dc : ℕ) → dc < top.dcs → history_of top w dc ≡ history_by top journals dc
  pub operations : (t : TxnValue) → is_session top t.session ≡ true
      → option_map (λ (b : Submission). b.op) (submission_of w.submitted t) ≡ op_numbered (journals t.session) t.number

-- ## The promises

-- the data centre where a session submitted the operation of this number, by its journal: where the last move before left it
abbrev pub home_by : TopologyValue → (ℕ → List ActorEvent) → ℕ → ℕ → ℕ
home_by top journals node number = home_before (opening_home top node) (outcomes_by top node (journals node)) number

-- a read of this session was answered, by its journal: with this effective time and this answer
pub record IsAnsweredBy (top : TopologyValue) (journals : ℕ → List ActorEvent) (node : ℕ) (read : Read) (time : ℕ) (answer : List AnsweredRow) : Type 0 where
  pub number : ℕ
  pub op : op_numbered (journals node) number ≡ Some (op.Read read)
  pub ended : Contains (outcomes_by top node (journals node)) (record { number = number; outcome = outcome.Read time answer })

-- One table, by the journals alone: the answer of each answered read is the meaning of its request on the history of the data
-- centre where it was submitted, in whatever order, at its effective time.
abbrev pub JournalsShowOneTable : TopologyValue → (ℕ → List ActorEvent) → Type 0
JournalsShowOneTable top journals =
    (node : ℕ) (read : Read) (time : ℕ) (answer : List AnsweredRow) (h : History) → is_session top node ≡ true
    → (k : IsAnsweredBy top journals node read time answer) → IsPermutation h (history_by top journals (home_by top journals node k.number))
    → answer ≡ meaning read h time

-- The threads keep the promises: the journals are a run's, and in each run that has them reads show one table with their
-- past, and are fresh.
pub record ThreadsKeepPromises (top : TopologyValue) (journals : ℕ → List ActorEvent) : Type 0 where
  pub are_run : IsThreadedRun top journals
  pub table : (events : List RunEvent) → IsRunOf top journals events → ReadsShowOneTable top (run top events)
  pub past : (events : List RunEvent) → IsRunOf top journals events → ReadsShowTheirPast top (run top events)
  pub fresh : (events : List RunEvent) → IsRunOf top journals events → ReadsAreFresh top (run top events)
