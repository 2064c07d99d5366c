-- What a shard knows of each transaction, as its code keeps it.
use Rattle.std.specs.Prelude.{◌≡◌, ℕ, ◌%◌, ◌==◌, Bool, false, if◌then◌else◌, List, Option, Some, None, slice_get, option_map}
use Rattle.std.specs.Ordering.{is_eq}
use Rattle.logical_time.specs.Stamps.{StampValue, TxnValue, txn_cmp}
use Rattle.txn_state.specs.declared.part.WritePart.{WritePart}
use Rattle.txn_state.specs.declared.ballot.Voted.{Voted}
use Rattle.txn_state.specs.declared.ballot.Voted.TheVariants.{More, All}
use Rattle.txn_state.specs.declared.remote_ballot.Ready.{Ready}
use Rattle.txn_state.specs.declared.remote_ballot.Ready.TheVariants as in_ready
use Rattle.txn_state.specs.Prepared.{PreparedValue}
use Rattle.txn_state.specs.Ballot.{CompleteValue}
use Rattle.txn_state.specs.Votes.{counted}
use Rattle.txn_state.specs.Answers.{answered}
use Rattle.txn_state.specs.Voted.{voted}
use Rattle.txn_state.specs.Ready.{ready_at}
use Rattle.txn_state.specs.RemoteBallot.{missing_in}
use Rattle.messages.specs.Shard.{PreparedPart, Replica}
use Rattle.messages.specs.Commits.{stamp_for}
use Rattle.write_txn.specs.declared.status.Status.{Status}
use Rattle.write_txn.specs.declared.status.Status.TheVariants as in_status
use Rattle.write_txn.specs.Statuses.{StatusList, slots_of, status_among}
use Rattle.write_txn.specs.declared.open.Open.{Open}
use Rattle.write_txn.specs.declared.open.Open.TheVariants as in_open
use Rattle.write_txn.specs.declared.open.ReplicatedPart.{ReplicatedPart}
use Rattle.write_txn.specs.declared.open.Missing.{Missing}
use Rattle.write_txn.specs.declared.open.Missing.TheVariants as in_missing
use Rattle.write_txn.specs.declared.open.Led.{Led}
use Rattle.write_txn.specs.declared.open.Remote.{Remote}

-- what is under way of transactions, and the status of each known one
pub record LedgerValue : Type 0 where
  pub statuses : StatusList
  pub under_way : List Open

-- what is known of a transaction: something of it is under way, its part is applied, or it is decided, with its commit
-- time here and its stamp
pub data State : Type 0 where
  Holds : (held : Open) → State
  IsApplied : State
  IsDecided : (commit : ℕ) (stamp : StampValue) → State

-- the status of this transaction, if it has one
unfoldable pub status_in : StatusList → TxnValue → Option Status
status_in bs t = status_among (slots_of bs t) (t.number % 256)

-- what a status says, where this is under way
abbrev pub state_at : List Open → Option Status → Option State
state_at os None = None
state_at os (Some (in_status.Open place)) = option_map Holds (slice_get os place)
state_at os (Some in_status.Applied) = Some IsApplied
state_at os (Some (in_status.Decided commit stamp)) = Some (IsDecided commit stamp)

-- what is known of this transaction; nothing, if it was never begun, prepared or kept here
abbrev pub state_of : LedgerValue → TxnValue → Option State
state_of l t = state_at l.under_way (status_in l.statuses t)

-- whose transaction this is
abbrev pub txn_of : Open → TxnValue
txn_of (in_open.Kept k) = k.part.writer.txn
txn_of (in_open.Part p) = p.txn
txn_of (in_open.Led l) = l.ballot.own.part.writer.txn
txn_of (in_open.Remote r) = r.ballot.part.writer.txn

-- the shard's own part
abbrev pub part_of : Open → WritePart
part_of (in_open.Kept k) = k.part
part_of (in_open.Part p) = record { writer = record { txn = p.txn; shard = p.coordinator }; batch = p.rows }
part_of (in_open.Led l) = l.ballot.own.part
part_of (in_open.Remote r) = r.ballot.part

-- each status that names a place names that of its transaction, and what is under way stands where its status says
pub record IsPlaced (l : LedgerValue) : Type 0 where
  pub held : (t : TxnValue) (place : ℕ) → status_in l.statuses t ≡ Some (in_status.Open place)
      → (o : Open) × (slice_get l.under_way place ≡ Some o) × (txn_of o ≡ t)
  pub found : (place : ℕ) (o : Open) → slice_get l.under_way place ≡ Some o → status_in l.statuses (txn_of o) ≡ Some (in_status.Open place)

-- what is under way of a transaction, if something is
abbrev pub open_in : Option State → Option Open
open_in None = None
open_in (Some (Holds o)) = Some o
open_in (Some IsApplied) = None
open_in (Some (IsDecided commit stamp)) = None

-- its commit time and its stamp, if it is decided
abbrev pub decided_in : Option State → Option (ℕ × StampValue)
decided_in None = None
decided_in (Some (Holds o)) = None
decided_in (Some IsApplied) = None
decided_in (Some (IsDecided commit stamp)) = Some (commit, stamp)

-- this transaction's state is the one given, and that of every other one is as it was
abbrev pub Becomes : TxnValue → Option State → LedgerValue → LedgerValue → Type 0
Becomes t s old new = (u : TxnValue) → state_of new u ≡ (if is_eq (txn_cmp t u) then s else state_of old u)

-- every transaction's state is as it was
abbrev pub HaveSameStates : LedgerValue → LedgerValue → Type 0
HaveSameStates old new = (u : TxnValue) → state_of new u ≡ state_of old u

-- ## A part

-- a part that was kept, prepared at this time
abbrev pub replica_of : ReplicatedPart → ℕ → PreparedPart
replica_of k time =
    record { txn = k.part.writer.txn; rows = k.part.batch; coordinator = k.part.writer.shard; time = time; role = Replica }

-- what a kept part becomes once it is prepared; nothing else is prepared
abbrev pub state_prepared : ℕ → Option State → Option State
state_prepared time (Some (Holds (in_open.Kept k))) = Some (Holds (in_open.Part (replica_of k time)))
state_prepared time other = other

-- a prepared part, as what must be spent
abbrev pub prepared_of : PreparedPart → PreparedValue
prepared_of p = record { part = record { writer = record { txn = p.txn; shard = p.coordinator }; batch = p.rows }; time = p.time }

-- the prepared part, if there is one
abbrev pub part_in : Option State → Option PreparedValue
part_in (Some (Holds (in_open.Part p))) = Some (prepared_of p)
part_in other = None

-- what a prepared part becomes once it is applied; nothing else is applied
abbrev pub state_applied : Option State → Option State
state_applied (Some (Holds (in_open.Part p))) = Some IsApplied
state_applied other = other

-- ## A ballot

-- a ballot after a vote: more votes are missing, or the transaction is decided
abbrev pub led_after : Led → ℕ → ℕ → Voted → State
led_after l me commit (More b) = Holds (in_open.Led (record l { ballot = b }))
led_after l me commit (All c) = IsDecided commit (stamp_for me commit l.stamp)

-- what a ballot becomes by a vote, where the last one decides at this time, on the shard with this node
abbrev pub state_voted : ℕ → ℕ → ℕ → Option State → Option State
state_voted me commit node (Some (Holds (in_open.Led l))) = Some (led_after l me commit (voted l.ballot node))
state_voted me commit node other = other

-- the ballot, once it is complete
abbrev pub complete_in : Voted → Option CompleteValue
complete_in (More b) = None
complete_in (All c) = Some c

-- the ballot that this vote completes, if it does
abbrev pub completed_by : ℕ → Option State → Option CompleteValue
completed_by node (Some (Holds (in_open.Led l))) = complete_in (voted l.ballot node)
completed_by node other = None

-- ## A ballot of another data centre's write

-- a ballot that waits, once this is there too
abbrev pub remote_with : Remote → Missing → Remote
remote_with r (in_missing.Notice node) = record r { ballot = record r.ballot { notices = counted r.ballot.notices node } }
remote_with r (in_missing.Answer dependency) = record r { ballot = record r.ballot { answers = answered r.ballot.answers dependency } }

-- what a ballot that waits becomes by that; nothing else changes
abbrev pub state_with : Missing → Option State → Option State
state_with missing (Some (Holds (in_open.Remote r))) = Some (Holds (in_open.Remote (remote_with r missing)))
state_with missing other = other

-- whether a ballot waits of which nothing is missing
abbrev pub lacks_nothing : Option State → Bool
lacks_nothing (Some (Holds (in_open.Remote r))) = missing_in r.ballot == 0
lacks_nothing other = false

-- a ballot of another data centre's write that was made ready: cohorts are to vote, or without any it is decided
abbrev pub remote_after : Remote → ℕ → Ready → State
remote_after r time (in_ready.Ballot b) =
    Holds (in_open.Led (record { ballot = b; cohorts = r.cohorts; dependencies = r.dependencies; stamp = Some r.ballot.stamp }))
remote_after r time (in_ready.Complete c) = IsDecided time r.ballot.stamp

-- what a ballot becomes at this time once nothing is missing: cohorts are to vote, or without any it is decided
abbrev pub state_ready : ℕ → Option State → Option State
state_ready time (Some (Holds (in_open.Remote r))) =
    Some (if missing_in r.ballot == 0 then remote_after r time (ready_at r.ballot time) else Holds (in_open.Remote r))
state_ready time other = other

-- the ballot, if it is complete at once
abbrev pub ready_complete : Ready → Option CompleteValue
ready_complete (in_ready.Ballot b) = None
ready_complete (in_ready.Complete c) = Some c

-- the ballot that is complete at once, if nothing is missing and there are no cohorts
abbrev pub readied_by : ℕ → Option State → Option CompleteValue
readied_by time (Some (Holds (in_open.Remote r))) = if missing_in r.ballot == 0 then ready_complete (ready_at r.ballot time) else None
readied_by time other = None
