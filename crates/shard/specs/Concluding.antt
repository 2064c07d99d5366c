-- What the event of a ballot makes of what is kept, where nothing or the last thing is missing.
use Rattle.std.specs.Prelude.{◌≡◌, ℕ, [], Option, Some, None}
use Rattle.logical_time.specs.Stamps.{StampValue, TxnValue}
use Rattle.store.specs.Stored.{HasRoom}
use Rattle.txn_state.specs.Ballot.{CompleteValue}
use Rattle.write_txn.specs.Ledger.{state_of, decided_in}
use Rattle.shard.specs.declared.kept.ShardKept.{ShardKept}
use Rattle.shard.specs.Deciding.{IsSettled}
use Rattle.shard.specs.Effects.{IsWithout}

-- the transaction is decided with this commit time and this stamp, it has no cohorts, and there is room for its part
pub record MaySettle (t : TxnValue) (commit : ℕ) (stamp : StampValue) (k : ShardKept) (c : CompleteValue) : Type 0 where
  pub own : c.own.part.writer.txn ≡ t
  pub alone : c.cohorts ≡ []
  pub decided : decided_in (state_of k.transactions.ledger t) ≡ Some (commit, stamp)
  pub room : HasRoom k.transactions.store c.own.part.batch

-- the transaction goes on being under way: what came early of it is forgotten, and the clock shows this
pub record IsUnderWay (t : TxnValue) (n : ℕ) (k l : ShardKept) : Type 0 where
  pub place : l.place ≡ k.place
  pub clock : l.clock ≡ n
  pub ledger : l.transactions.ledger ≡ k.transactions.ledger
  pub store : l.transactions.store ≡ k.transactions.store
  pub early : IsWithout t k.transactions.early l.transactions.early
  pub notices : IsWithout t k.notices l.notices
  pub askers : l.askers ≡ k.askers
  pub waiting : l.waiting ≡ k.waiting

-- the event is concluded, by what it completed
abbrev pub IsConcluded : TxnValue → StampValue → ℕ → Option CompleteValue → ShardKept → ShardKept → Type 0
IsConcluded t stamp n None k l = IsUnderWay t n k l
IsConcluded t stamp n (Some c) k l = IsSettled t c.own n stamp k l
