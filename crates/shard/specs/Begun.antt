-- What a Begin says, its votes, and a decision that is noted.
use Rattle.std.specs.Prelude.{◌≡◌, ℕ, Some, None}
use Rattle.logical_time.specs.Stamps.{StampValue, TxnValue}
use Rattle.txn_state.specs.Votes.{VotesValue, votes_after}
use Rattle.messages.specs.Topology.{TopologyValue}
use Rattle.messages.specs.Place.{IsPlace}
use Rattle.messages.specs.Shard.{BegunBallot}
use Rattle.write_txn.specs.Ledger.{IsDecided, Becomes}
use Rattle.write_txn.specs.Transactions.{GoesOnKeeping}
use Rattle.write_txn.specs.View.{near_nodes}
use Rattle.write_txn.specs.Voters.{voters_of}
use Rattle.shard.specs.declared.kept.ShardKept.{ShardKept}
use Rattle.shard.specs.declared.begun.Begun.{Begun}

-- the ballot of a write that was submitted here
abbrev pub ballot_of : Begun → BegunBallot
ballot_of b = record { txn = b.txn; rows = b.rows; cohorts = b.cohorts; dependencies = b.dependencies; stamp = None }

-- the votes are those of the transaction's cohorts, those that came early counted
abbrev pub AreVotes : ShardKept → Begun → VotesValue → Type 0
AreVotes k b votes = (top : TopologyValue) (me : ℕ) → IsPlace top me k.place → votes ≡ votes_after (near_nodes top me b.cohorts) (voters_of k.transactions.early b.txn)

-- the transaction is noted as decided with this commit time and this stamp; room may have been made, and nothing else changed
pub record IsDecidedNow (t : TxnValue) (commit : ℕ) (stamp : StampValue) (k l : ShardKept) : Type 0 where
  pub rest : l ≡ record k { transactions = l.transactions }
  pub becomes : Becomes t (Some (IsDecided commit stamp)) k.transactions.ledger l.transactions.ledger
  pub store : GoesOnKeeping k.transactions.store l.transactions.store
  pub early : l.transactions.early ≡ k.transactions.early
