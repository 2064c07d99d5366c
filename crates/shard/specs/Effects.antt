-- What an event makes of what a shard keeps, as far as one transaction is concerned.
use Rattle.std.specs.Prelude.{◌≡◌, ℕ, true, false, if◌then◌else◌, List, [], ◌∷◌, ◌++◌, Option, Some, None, is_some}
use Rattle.logical_time.specs.Stamps.{TxnValue}
use Rattle.column_family.specs.Normal.{IsNormal}
use Rattle.store.specs.declared.part.Applied.{Applied}
use Rattle.store.specs.Stored as store
use Rattle.store.specs.Keeps.{Keeps, IsNewStamp}
use Rattle.dependencies.specs.Askers.{askers_of}
use Rattle.messages.specs.Words.{is_same_txn}
use Rattle.messages.specs.Shard.{WaitingRead}
use Rattle.write_txn.specs.Ledger.{LedgerValue, State, state_of, Becomes, decided_in}
use Rattle.write_txn.specs.Voters.{VoterList, voters_of}
use Rattle.shard.specs.declared.kept.ShardKept.{ShardKept}

-- the store keeps what it kept, and what is applied, if something is
abbrev pub IsStored : Option Applied → store.StoreValue → store.StoreValue → Type 0
IsStored None old new = (all : List Applied) → Keeps old all → Keeps new all
IsStored (Some x) old new = (all : List Applied) → Keeps old all → IsNormal x.part.batch → IsNewStamp x.stamp all → Keeps new (all ++ x ∷ [])

-- the voters of the other transactions are as they were
abbrev pub OthersHaveSameVoters : TxnValue → VoterList → VoterList → Type 0
OthersHaveSameVoters t old new = (u : TxnValue) → is_same_txn t u ≡ false → voters_of new u ≡ voters_of old u

-- the voters of this transaction are forgotten, and those of the others are as they were
abbrev pub IsWithout : TxnValue → VoterList → VoterList → Type 0
IsWithout t old new = (u : TxnValue) → voters_of new u ≡ (if is_same_txn t u then [] else voters_of old u)

-- no voter of this transaction is left, if none was there where it was known before
abbrev pub HasNoVoters : TxnValue → LedgerValue → VoterList → VoterList → Type 0
HasNoVoters t known old new = (is_some (state_of known t) ≡ true → voters_of old t ≡ []) → voters_of new t ≡ []

-- This transaction comes to be known so, and this part is applied, if one is; the clock shows this and these reads wait. What
-- came early of it is forgotten. Nothing of another transaction changes, nor who asked for one; who asked for this one is kept
-- until it is decided.
pub record IsAfter (t : TxnValue) (s : State) (x : Option Applied) (n : ℕ) (waits : List WaitingRead) (k l : ShardKept) : Type 0 where
  pub place : l.place ≡ k.place
  pub clock : l.clock ≡ n
  pub low : l.transactions.store.low ≡ k.transactions.store.low
  pub state : Becomes t (Some s) k.transactions.ledger l.transactions.ledger
  pub store : IsStored x k.transactions.store l.transactions.store
  pub early : OthersHaveSameVoters t k.transactions.early l.transactions.early
  pub notices : OthersHaveSameVoters t k.notices l.notices
  pub own_early : HasNoVoters t k.transactions.ledger k.transactions.early l.transactions.early
  pub own_notices : HasNoVoters t k.transactions.ledger k.notices l.notices
  pub askers : (u : TxnValue) → is_same_txn t u ≡ false → askers_of l.askers u ≡ askers_of k.askers u
  pub own_askers : decided_in (Some s) ≡ None → askers_of l.askers t ≡ askers_of k.askers t
  pub waiting : l.waiting ≡ waits

-- nothing changed that matters: rooms may have been made
pub record IsSpared (k l : ShardKept) : Type 0 where
  pub place : l.place ≡ k.place
  pub clock : l.clock ≡ k.clock
  pub low : l.transactions.store.low ≡ k.transactions.store.low
  pub states : (u : TxnValue) → state_of l.transactions.ledger u ≡ state_of k.transactions.ledger u
  pub store : (all : List Applied) → Keeps k.transactions.store all → Keeps l.transactions.store all
  pub early : (u : TxnValue) → voters_of l.transactions.early u ≡ voters_of k.transactions.early u
  pub notices : (u : TxnValue) → voters_of l.notices u ≡ voters_of k.notices u
  pub askers : (u : TxnValue) → askers_of l.askers u ≡ askers_of k.askers u
  pub waiting : l.waiting ≡ k.waiting
