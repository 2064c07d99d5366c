-- Steps that concern one transaction.
use Rattle.std.specs.Prelude.{◌≡◌, ℕ, Bool, true, List, ◌++◌, Option}
use Rattle.std.specs.List.{list_all}
use Rattle.logical_time.specs.Stamps.{TxnValue}
use Rattle.store.specs.declared.part.Applied.{Applied}
use Rattle.messages.specs.Topology.{TopologyValue}
use Rattle.messages.specs.Words.{is_same_txn}
use Rattle.messages.specs.Shard.{ShardState}
use Rattle.messages.specs.Known.{AreOnce}
use Rattle.write_txn.specs.Ledger.{State}
use Rattle.write_txn.specs.View.{view_of}
use Rattle.write_txn.specs.Stands.{Stands}

-- a list was extended by such elements alone
pub record IsExtended {T : Type 0} (about : T → Bool) (xs ys : List T) : Type 0 where
  pub more : List T
  pub is : ys ≡ xs ++ more
  pub all : list_all about more ≡ true

-- what the second state keeps beside the first is of this transaction
pub record IsAbout (t : TxnValue) (a b : ShardState) : Type 0 where
  pub prepared : IsExtended (λ p. is_same_txn p.txn t) a.prepared b.prepared
  pub ballots : IsExtended (λ x. is_same_txn x.txn t) a.ballots b.ballots
  pub kept_parts : IsExtended (λ k. is_same_txn k.txn t) a.kept_parts b.kept_parts
  pub kept_ballots : IsExtended (λ r. is_same_txn r.txn t) a.kept_ballots b.kept_ballots
  pub decided : IsExtended (λ d. is_same_txn d.txn t) a.decided b.decided
  pub applied : IsExtended (λ x. is_same_txn x.part.writer.txn t) a.applied b.applied
  pub early : IsExtended (λ v. is_same_txn v.txn t) a.early b.early
  pub votes : IsExtended (λ v. is_same_txn v.txn t) a.votes b.votes
  pub notices : IsExtended (λ v. is_same_txn v.txn t) a.notices b.notices
  pub met : IsExtended (λ m. is_same_txn m.waiter t) a.met b.met

-- From the one state to the other this transaction comes to stand so, and these parts are applied; of the others nothing
-- changes.
pub record Moves (top : TopologyValue) (me : ℕ) (t : TxnValue) (s : Option State) (more : List Applied) (a b : ShardState) : Type 0 where
  pub about : IsAbout t a b
  pub own : Stands top me t (view_of t b) s
  pub applied : b.applied ≡ a.applied ++ more
  pub low : b.low ≡ a.low
  pub askers : b.askers ≡ a.askers
  pub once : AreOnce (λ p. p.txn) a.prepared → AreOnce (λ p. p.txn) b.prepared
  pub kept_once : AreOnce (λ k. k.txn) a.kept_parts → AreOnce (λ k. k.txn) b.kept_parts
