-- What a decision tells beside Commit, and what it makes of what is kept.
use Rattle.std.specs.Prelude.{◌≡◌, ℕ, ◌+◌, ◌*◌, if◌then◌else◌, List, [], ◌++◌, map}
use Rattle.logical_time.specs.Stamps.{StampValue, TxnValue}
use Rattle.store.specs.declared.part.Applied.{Applied}
use Rattle.txn_state.specs.Prepared.{PreparedValue}
use Rattle.dependencies.specs.Askers.{askers_of}
use Rattle.messages.specs.declared.envelope.Envelope.{Envelope}
use Rattle.messages.specs.Topology.{TopologyValue, shard_of}
use Rattle.messages.specs.Place.{PlaceValue}
use Rattle.messages.specs.Words.{is_same_txn}
use Rattle.messages.specs.Shard.{ShardState, BegunBallot}
use Rattle.messages.specs.Commits.{announcements, applied_part, dep_oks, stamp_for}
use Rattle.messages.specs.Reads.{part_at}
use Rattle.commit_check.specs.declared.cause.Cause.TheVariants as cause
use Rattle.commit_check.specs.Waiting.{freed, still}
use Rattle.write_txn.specs.Transactions.{KeepsAlso}
use Rattle.shard.specs.declared.kept.ShardKept.{ShardKept}
use Rattle.shard.specs.declared.deciding.Deciding.{Deciding}
use Rattle.shard.specs.Coming.{with_applied}
use Rattle.shard.specs.Effects.{IsWithout}

-- the node of the shard that stands at this place
abbrev pub node_at : PlaceValue → ℕ
node_at p = p.dc * p.shards + p.shard

-- the ballot that is going to be decided
abbrev pub ballot_in : Deciding → BegunBallot
ballot_in d = record { txn = d.txn; rows = d.rows.now; cohorts = d.cohorts.now; dependencies = d.dependencies.now; stamp = d.stamp }

-- the coordinator's own part, as it is applied by the decision
abbrev pub own_applied : TopologyValue → ℕ → ℕ → BegunBallot → Applied
own_applied top me n b = applied_part b.txn (shard_of top me) b.rows n (stamp_for me n b.stamp)

-- what is sent after the Commits: Done and ReplBegin, DepOk, and the answers to the reads that are let go
abbrev pub told : TopologyValue → ℕ → ℕ → ShardState → BegunBallot → List Envelope
told top me n a b =
    announcements top me n b b.stamp ++ dep_oks me n b.txn a.askers
    ++ map (part_at me n (with_applied a (own_applied top me n b))) (freed b.txn cause.Applied a.waiting)

-- A transaction that was decided is settled: its own part is applied with this commit time and this stamp, nothing is kept of
-- it that came early, nor who asked for it, and no read waits for it.
pub record IsSettled (t : TxnValue) (own : PreparedValue) (commit : ℕ) (stamp : StampValue) (k l : ShardKept) : Type 0 where
  pub place : l.place ≡ k.place
  pub clock : l.clock ≡ commit
  pub ledger : l.transactions.ledger ≡ k.transactions.ledger
  pub store : KeepsAlso own commit stamp k.transactions.store l.transactions.store
  pub early : IsWithout t k.transactions.early l.transactions.early
  pub notices : IsWithout t k.notices l.notices
  pub askers : (u : TxnValue) → askers_of l.askers u ≡ (if is_same_txn t u then [] else askers_of k.askers u)
  pub waiting : l.waiting ≡ still t cause.Applied k.waiting
