-- What holds of each entry and each envelope of every run. Each fact speaks of what only grows, so it is kept once it
-- holds.
use Rattle.std.specs.Prelude.{◌≡◌, ℕ, ◌<◌, ◌≤◌, true, List, [], ◌∷◌, map, Option, Some, None, ◌⊎◌, false, Contains}
use Rattle.logical_time.specs.Stamps.{StampValue, TxnValue, WriterValue}
use Rattle.column_family.specs.declared.batch.Change.{Change}
use Rattle.column_family.specs.declared.batch.Row.{Row}
use Rattle.column_family.specs.Places.{normal_of}
use Rattle.slice.specs.declared.read.Read.{Read}
use Rattle.store.specs.declared.part.Applied.{Applied}
use Rattle.store.specs.Part.{IsRightPart, IsNewestPart, has_row}
use Rattle.store.specs.Keeps.{AreApart}
use Rattle.planner.specs.Plan.{part_for, coordinator_of, cohorts_of}
use Rattle.messages.specs.declared.rows_now.RowNow.{RowNow}
use Rattle.messages.specs.declared.rows_at.RowAt.{RowAt}
use Rattle.messages.specs.declared.op.Op.TheVariants as op
use Rattle.messages.specs.Topology.{TopologyValue, dc_of, shard_of, shard_node}
use Rattle.messages.specs.Shard.{Role, Own, Cohort, Replica, PreparedPart, BegunBallot, Decision, KeptPart, KeptBallot}
use Rattle.slice.specs.Rows.{row_of}
use Rattle.messages.specs.Rows.{touches_row}
use Rattle.shard.specs.Right.{part_now, part_then}
use Rattle.world.specs.Run.{Run, Submission}

-- ## Submissions and decisions

abbrev pub txn_of : Submission → TxnValue
txn_of b = record { session = b.session; number = b.number }

-- the transaction was submitted so, with this batch
pub record IsWritten (w : Run) (t : TxnValue) (b : Submission) (batch : List Change) : Type 0 where
  pub among : Contains w.submitted b
  pub txn : txn_of b ≡ t
  pub op : b.op ≡ op.Batch batch

-- the shard of this number in the data centre of this shard
abbrev pub near : TopologyValue → ℕ → ℕ → ℕ
near top node shard = shard_node top (dc_of top node) shard

-- the coordinator of a batch in a data centre
abbrev pub lead : TopologyValue → ℕ → List Change → ℕ
lead top dc batch = shard_node top dc (coordinator_of top.shards batch)

-- the part that a batch has on a shard
abbrev pub part_on : TopologyValue → List Change → ℕ → List Change
part_on top batch node = part_for top.shards (normal_of batch) (shard_of top node)

-- the shard with this node decided so
pub record IsDecided (w : Run) (node : ℕ) (t : TxnValue) (n : ℕ) (s : StampValue) : Type 0 where
  pub decision : Decision
  pub among : Contains (w.shards node).decided decision
  pub txn : decision.txn ≡ t
  pub commit : decision.commit ≡ n
  pub stamp : decision.stamp ≡ s

-- the stamp that was given where the transaction was submitted: the commit time there, and the coordinator
pub record IsStamp (top : TopologyValue) (w : Run) (b : Submission) (batch : List Change) (stamp : StampValue) : Type 0 where
  pub decided : IsDecided w (lead top b.home batch) (txn_of b) stamp.time stamp
  pub node : stamp.node ≡ lead top b.home batch

-- the transaction is decided in a data centre, with a commit time below this one
pub record IsDone (top : TopologyValue) (w : Run) (dc : ℕ) (t : TxnValue) (time : ℕ) : Type 0 where
  pub node : ℕ
  pub here : dc_of top node ≡ dc
  pub decision : Decision
  pub among : Contains (w.shards node).decided decision
  pub txn : decision.txn ≡ t
  pub commit : decision.commit < time

-- the shard prepared a part of the transaction, at a time below this one
pub record PreparedBefore (w : Run) (node : ℕ) (t : TxnValue) (n : ℕ) : Type 0 where
  pub part : PreparedPart
  pub among : Contains (w.shards node).prepared part
  pub txn : part.txn ≡ t
  pub time : part.time < n

-- no two of these decisions are of one transaction
abbrev pub DecidedOnce : List Decision → Type 0
DecidedOnce [] = Unit {0}
DecidedOnce (d ∷ ds) = ((e : Decision) → Contains ds e → e.txn ≡ d.txn → ⊥) × DecidedOnce ds

-- ## What a shard kept

-- the coordinator's own part is on the coordinator, every other on a cohort
abbrev pub RoleFits : Role → TopologyValue → List Change → ℕ → Type 0
RoleFits Own top batch node = shard_of top node ≡ coordinator_of top.shards batch
RoleFits Cohort top batch node = Contains (cohorts_of top.shards batch) (shard_of top node)
RoleFits Replica top batch node = Contains (cohorts_of top.shards batch) (shard_of top node)

pub record PreparedSound (top : TopologyValue) (w : Run) (node : ℕ) (p : PreparedPart) : Type 0 where
  pub submission : Submission
  pub batch : List Change
  pub written : IsWritten w p.txn submission batch
  pub coordinator : p.coordinator ≡ coordinator_of top.shards batch
  pub rows : p.rows ≡ part_on top batch node
  pub role : RoleFits p.role top batch node
  pub origin : p.role ≡ Cohort → dc_of top node ≡ submission.home
  pub time : p.time ≤ (w.shards node).clock
  pub one : (g : PreparedPart) → Contains (w.shards node).prepared g → g.txn ≡ p.txn → g ≡ p
  -- where the shard itself decides the transaction, it is above
  pub below : (d : Decision) → Contains (w.shards node).decided d → d.txn ≡ p.txn → p.time < d.commit

-- its origin's stamp, not above this time, or none at the origin
abbrev pub StampFits : TopologyValue → Run → ℕ → ℕ → Submission → List Change → Option StampValue → Type 0
StampFits top w node n b batch None = dc_of top node ≡ b.home
StampFits top w node n b batch (Some stamp) = IsStamp top w b batch stamp × (stamp.time ≤ n)

-- A coordinator's ballot: what it depends on is decided in this data centre below this time
pub record BallotSound (top : TopologyValue) (w : Run) (node n : ℕ) (b : BegunBallot) : Type 0 where
  pub submission : Submission
  pub batch : List Change
  pub written : IsWritten w b.txn submission batch
  pub here : node ≡ lead top (dc_of top node) batch
  pub rows : b.rows ≡ part_on top batch node
  pub cohorts : b.cohorts ≡ cohorts_of top.shards batch
  pub dependencies : b.dependencies ≡ submission.dependencies
  pub done : (k : WriterValue) → Contains submission.dependencies k → IsDone top w (dc_of top node) k.txn n
  pub begun : submission.time ≤ n
  pub stamp : StampFits top w node n submission batch b.stamp

-- a replicated ballot, whose stamp is not above this time
pub record KeptBallotSound (top : TopologyValue) (w : Run) (node n : ℕ) (r : KeptBallot) : Type 0 where
  pub submission : Submission
  pub batch : List Change
  pub written : IsWritten w r.txn submission batch
  pub here : node ≡ lead top (dc_of top node) batch
  pub rows : r.rows ≡ part_on top batch node
  pub cohorts : r.cohorts ≡ cohorts_of top.shards batch
  pub dependencies : r.dependencies ≡ submission.dependencies
  pub stamp : IsStamp top w submission batch r.stamp
  pub time : r.stamp.time ≤ n
  pub begun : submission.time ≤ n

pub record KeptPartSound (top : TopologyValue) (w : Run) (node : ℕ) (k : KeptPart) : Type 0 where
  pub submission : Submission
  pub batch : List Change
  pub written : IsWritten w k.txn submission batch
  pub coordinator : k.coordinator ≡ coordinator_of top.shards batch
  pub rows : k.rows ≡ part_on top batch node
  pub cohort : Contains (cohorts_of top.shards batch) (shard_of top node)

pub record DecisionSound (top : TopologyValue) (w : Run) (node : ℕ) (d : Decision) : Type 0 where
  pub submission : Submission
  pub batch : List Change
  pub written : IsWritten w d.txn submission batch
  pub here : node ≡ lead top (dc_of top node) batch
  pub commit : d.commit ≤ (w.shards node).clock
  pub applied : (v : Applied) × Contains (w.shards node).applied v × (v.part.writer.txn ≡ d.txn)
  pub cohorts : (c : ℕ) → Contains (cohorts_of top.shards batch) c → PreparedBefore w (near top node c) d.txn d.commit
  pub one : (e : Decision) → Contains (w.shards node).decided e → e.txn ≡ d.txn → e ≡ d
  pub one_time : (e : Decision) → Contains (w.shards node).decided e → e.commit ≡ d.commit → e ≡ d
  pub stamp : IsStamp top w submission batch d.stamp
  pub stamp_time : d.stamp.time ≤ d.commit
  pub begun : submission.time ≤ d.commit
  -- what it depends on was decided here before
  pub done : (k : WriterValue) → Contains submission.dependencies k → IsDone top w (dc_of top node) k.txn d.commit

pub record AppliedSound (top : TopologyValue) (w : Run) (node : ℕ) (v : Applied) : Type 0 where
  pub submission : Submission
  pub batch : List Change
  pub written : IsWritten w v.part.writer.txn submission batch
  pub coordinator : v.part.writer.shard ≡ coordinator_of top.shards batch
  pub rows : v.part.batch ≡ part_on top batch node
  pub decided : IsDecided w (near top node v.part.writer.shard) v.part.writer.txn v.commit v.stamp
  pub early : v.commit ≤ (w.shards node).clock

-- ## What a shard answered

-- what the shard decides of the transaction commits above the time
pub record Excluded (w : Run) (node : ℕ) (t : TxnValue) (time : ℕ) : Type 0 where
  pub clock : time ≤ (w.shards node).clock
  pub above : (d : Decision) → Contains (w.shards node).decided d → d.txn ≡ t → time < d.commit

-- the transaction was submitted with nothing on this row of the shard
pub record Misses (top : TopologyValue) (w : Run) (node : ℕ) (r : Row) (t : TxnValue) : Type 0 where
  pub submission : Submission
  pub batch : List Change
  pub written : IsWritten w t submission batch
  pub misses : has_row r (part_on top batch node) ≡ false

abbrev pub Sees : List Applied → TxnValue → Type 0
Sees seen t = (v : Applied) × Contains seen v × (v.part.writer.txn ≡ t)

-- of a row of the shard, these parts are all that is ever committed up to the time
pub record Complete (top : TopologyValue) (w : Run) (node : ℕ) (r : Row) (time : ℕ) (seen : List Applied) : Type 0 where
  pub clock : time ≤ (w.shards node).clock
  pub apart : AreApart seen
  pub applied : (v : Applied) → Contains seen v → Contains (w.shards node).applied v
  pub prepared : (p : PreparedPart) → Contains (w.shards node).prepared p → touches_row r p ≡ true
      → Sees seen p.txn ⊎ (time ≤ p.time) ⊎ Excluded w (near top node p.coordinator) p.txn time
  pub decided : (d : Decision) → Contains (w.shards node).decided d → Sees seen d.txn ⊎ (time < d.commit) ⊎ Misses top w node r d.txn

-- a row of a first round shows the newest of what was complete at its latest valid time
pub record RowNowSound (top : TopologyValue) (w : Run) (node time : ℕ) (read : Read) (r : RowNow) : Type 0 where
  pub seen : List Applied
  pub shown : IsNewestPart seen (row_of read r.key) read.predicate (part_now r)
  pub early : r.evt ≤ time
  pub complete : Complete top w node (row_of read r.key) r.lvt seen

-- a row at a time shows what was complete then
pub record RowAtSound (top : TopologyValue) (w : Run) (node time : ℕ) (read : Read) (r : RowAt) : Type 0 where
  pub seen : List Applied
  pub shown : IsRightPart seen (row_of read r.key) read.predicate time (part_then r)
  pub complete : Complete top w node (row_of read r.key) time seen

-- rows that answer a read's keys, in its order
pub record AnswersNow (top : TopologyValue) (w : Run) (node time : ℕ) (asked : Read) (given : List RowNow) : Type 0 where
  pub keys : map (λ r. r.key) given ≡ asked.keys
  pub rows : (r : RowNow) → Contains given r → RowNowSound top w node time asked r

pub record AnswersAt (top : TopologyValue) (w : Run) (node time : ℕ) (asked : Read) (given : List RowAt) : Type 0 where
  pub keys : map (λ r. r.key) given ≡ asked.keys
  pub rows : (r : RowAt) → Contains given r → RowAtSound top w node time asked r
