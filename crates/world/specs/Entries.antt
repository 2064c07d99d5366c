-- What the entries of histories, and the stamps of decisions, owe to each other.
use Rattle.std.specs.Prelude.{◌≡◌, ◌≢◌, ℕ, List, Some, AllPairs, Contains}
use Rattle.column_family.specs.declared.batch.Change.{Change}
use Rattle.column_family.specs.declared.batch.Committed.{Committed}
use Rattle.column_family.specs.History.{History}
use Rattle.column_family.specs.Normal.{committed}
use Rattle.planner.specs.Plan.{coordinator_of}
use Rattle.messages.specs.declared.op.Op.TheVariants as op
use Rattle.messages.specs.declared.outcome.Outcome.TheVariants as outcome
use Rattle.logical_time.specs.Stamps.{StampValue, TxnValue}
use Rattle.messages.specs.Topology.{TopologyValue, dc_of, shard_node}
use Rattle.messages.specs.Shard.{Decision}
use Rattle.world.specs.Run.{Run, Submission, Completed}
use Rattle.world.specs.Histories.{batch_submitted, decisions_in, IsHistory}

-- ## Submissions and decisions

-- the number of an operation
abbrev pub named_by : Submission → TxnValue
named_by s = record { session = s.session; number = s.number }

-- an operation is submitted once: no two submissions have one number
abbrev pub AreNamedOnce : Run → Type 0
AreNamedOnce w = AllPairs (λ s t. named_by s ≢ named_by t) w.submitted

-- whatever a shard decided was submitted as a batch, and the shard is the batch's coordinator in its data centre
abbrev pub CoordinatorsDecide : TopologyValue → Run → Type 0
CoordinatorsDecide top w =
    (node : ℕ) (d : Decision) → Contains (w.shards node).decided d
    → (batch : List Change) × (batch_submitted w d.txn ≡ Some batch) × (node ≡ shard_node top (dc_of top node) (coordinator_of top.shards batch))

-- ## Entries

-- no transaction is decided twice in the list
abbrev pub AreOnce : List Decision → Type 0
AreOnce ds = AllPairs (λ d e. d.txn ≢ e.txn) ds

-- no two entries have one stamp
abbrev pub HaveOwnStamps : History → Type 0
HaveOwnStamps h = AllPairs (λ c e. c.stamp ≢ e.stamp) h

-- the entry is this decision's: the batch as its session submitted it, with the decision's stamp and commit time
pub record IsEntryOf (w : Run) (d : Decision) (c : Committed) : Type 0 where
  pub batch : batch_submitted w d.txn ≡ Some c.batch
  pub stamp : c.stamp ≡ d.stamp
  pub commit : c.commit ≡ d.commit

-- The list tells what was decided in the data centre: each entry is that of a decision there, each decision there has its
-- entry, no transaction is decided there twice, and no two entries have one stamp.
pub record TellsDecided (top : TopologyValue) (w : Run) (dc : ℕ) (h : History) : Type 0 where
  pub entries : (c : Committed) → Contains h c → (d : Decision) × Contains (decisions_in top w dc) d × IsEntryOf w d c
  pub decisions : (d : Decision) → Contains (decisions_in top w dc) d → (c : Committed) × Contains h c × IsEntryOf w d c
  pub once : AreOnce (decisions_in top w dc)
  pub stamps : HaveOwnStamps h

-- each entry of the first list stands in the second, with the same batch, stamp and commit time
abbrev pub IsKeptIn : History → History → Type 0
IsKeptIn g h = (c : Committed) → Contains g c → Contains h c

-- ## Stamps

-- the decision is of this submitted operation
pub record IsOf (w : Run) (d : Decision) (s : Submission) : Type 0 where
  pub among : Contains w.submitted s
  pub txn : d.txn ≡ record { session = s.session; number = s.number }

-- the stamp of a decision where its batch was submitted: its own commit time, and the coordinator there
pub record IsHomeStamp (top : TopologyValue) (d : Decision) (s : Submission) : Type 0 where
  pub time : d.stamp.time ≡ d.commit
  pub batch : List Change
  pub op : s.op ≡ op.Batch batch
  pub node : d.stamp.node ≡ shard_node top s.home (coordinator_of top.shards batch)

-- Decisions in any two data centres: those of one transaction have one stamp, those of one stamp are of one transaction;
-- where the transaction was submitted, its stamp is its commit time there and its coordinator.
pub record StampsAgree (top : TopologyValue) (w : Run) : Type 0 where
  pub one : (dc ec : ℕ) (d e : Decision) → Contains (decisions_in top w dc) d → Contains (decisions_in top w ec) e → d.txn ≡ e.txn → d.stamp ≡ e.stamp
  pub own : (dc ec : ℕ) (d e : Decision) → Contains (decisions_in top w dc) d → Contains (decisions_in top w ec) e → d.stamp ≡ e.stamp → d.txn ≡ e.txn
  pub home : (d : Decision) (s : Submission) → Contains (decisions_in top w s.home) d → IsOf w d s → IsHomeStamp top d s

-- ## Completed writes

-- A write that ended with this commit time and this stamp was decided so where it was submitted, by its own decision there,
-- and stands so in every history of it.
pub record IsTold (top : TopologyValue) (w : Run) (c : Completed) (commit : ℕ) (stamp : StampValue) : Type 0 where
  pub batch : List Change
  pub op : c.op ≡ op.Batch batch
  pub decision : Decision
  pub decided : Contains (decisions_in top w c.home) decision
  pub txn : decision.txn ≡ record { session = c.node; number = c.number }
  pub commit_told : decision.commit ≡ commit
  pub stamp_told : decision.stamp ≡ stamp
  pub entry : (h : History) → IsHistory top w c.home h → Contains h (committed batch stamp commit)

-- each completed write does
abbrev pub WritesAreTold : TopologyValue → Run → Type 0
WritesAreTold top w =
    (c : Completed) (commit : ℕ) (stamp : StampValue)
    → Contains w.transcript c → c.outcome ≡ outcome.Wrote commit stamp → IsTold top w c commit stamp
