-- What a shard holds of transactions: what it knows of each, what it applied, and votes that came early.
use Rattle.std.specs.Prelude.{◌≡◌, ℕ, List, [], ◌∷◌, ◌++◌, Option, Some, None}
use Rattle.logical_time.specs.Stamps.{StampValue, TxnValue}
use Rattle.column_family.specs.declared.batch.Row.{Row}
use Rattle.column_family.specs.Normal.{IsNormal}
use Rattle.store.specs.declared.part.Applied.{Applied}
use Rattle.store.specs.Stored.{StoreValue}
use Rattle.store.specs.Keeps.{Keeps, IsNewStamp}
use Rattle.pending.specs.Marks.{MarkList, time_at}
use Rattle.txn_state.specs.declared.part.WritePart.{WritePart}
use Rattle.txn_state.specs.Prepared.{PreparedValue}
use Rattle.messages.specs.Shard.{PreparedPart, Cohort}
use Rattle.write_txn.specs.Ledger.{LedgerValue, state_of}
use Rattle.write_txn.specs.Stands.{mark_of}
use Rattle.write_txn.specs.Voters.{VoterList, voters_of}

pub record TransactionsValue : Type 0 where
  pub ledger : LedgerValue
  pub store : StoreValue
  pub early : VoterList

-- the marks are those of the parts under way
abbrev pub AreMarksOf : MarkList → LedgerValue → Type 0
AreMarksOf marks l = (r : Row) (t : TxnValue) → time_at marks r t ≡ mark_of (state_of l t) r

-- a part of a write that was submitted here, prepared at this time as a cohort's
abbrev pub cohorts_part : WritePart → ℕ → PreparedPart
cohorts_part part time =
    record { txn = part.writer.txn; rows = part.batch; coordinator = part.writer.shard; time = time; role = Cohort }

-- what the store keeps it goes on keeping, and its horizon stays
pub record GoesOnKeeping (old new : StoreValue) : Type 0 where
  pub low : new.low ≡ old.low
  pub keeps : (all : List Applied) → Keeps old all → Keeps new all

-- a part with this commit time and this stamp was applied: the store keeps it too, if it is in normal form and its stamp
-- is new
pub record KeepsAlso (part : PreparedValue) (commit : ℕ) (stamp : StampValue) (old new : StoreValue) : Type 0 where
  pub low : new.low ≡ old.low
  pub keeps : (all : List Applied) → Keeps old all → IsNormal part.part.batch → IsNewStamp stamp all
      → Keeps new (all ++ record { part = part.part; commit = commit; stamp = stamp } ∷ [])

-- the prepared part was applied, if there is one
abbrev pub KeepsIf : Option PreparedValue → ℕ → StampValue → StoreValue → StoreValue → Type 0
KeepsIf None commit stamp old new = GoesOnKeeping old new
KeepsIf (Some part) commit stamp old new = KeepsAlso part commit stamp old new

-- the early votes are as they were
abbrev pub HaveSameVoters : VoterList → VoterList → Type 0
HaveSameVoters old new = (u : TxnValue) → voters_of new u ≡ voters_of old u
