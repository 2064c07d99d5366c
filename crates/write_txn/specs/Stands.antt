-- When what is known of a transaction stands for what a shard's state says of it. The state keeps more: parts that were applied,
-- votes that were counted.
use Rattle.std.specs.Prelude.{◌≡◌, ℕ, ◌==◌, Bool, true, false, ◌&&◌, not, if◌then◌else◌, [], Option, Some, None, is_some}
use Rattle.logical_time.specs.Stamps.{StampValue, TxnValue}
use Rattle.column_family.specs.declared.batch.Row.{Row}
use Rattle.txn_state.specs.Answers.{is_unanswered, is_dependency}
use Rattle.txn_state.specs.RemoteBallot.{missing_in}
use Rattle.txn_state.specs.Votes.{counted, are_all_there}
use Rattle.messages.specs.Topology.{TopologyValue, shard_of}
use Rattle.messages.specs.Rows.{touches_row}
use Rattle.messages.specs.Shard.{PreparedPart, Role, Own, Cohort, Replica, BegunBallot, KeptPart, KeptBallot}
use Rattle.write_txn.specs.declared.open.Open.TheVariants as in_open
use Rattle.write_txn.specs.declared.open.ReplicatedPart.{ReplicatedPart}
use Rattle.write_txn.specs.declared.open.Led.{Led}
use Rattle.write_txn.specs.declared.open.Remote.{Remote}
use Rattle.write_txn.specs.Ledger.{State, Holds, IsApplied, IsDecided}
use Rattle.write_txn.specs.View.{View, near_nodes, left_of, is_ready_by}

-- whether a part is a cohort's
abbrev pub is_cohorts : Role → Bool
is_cohorts Own = false
is_cohorts Cohort = true
is_cohorts Replica = true

abbrev pub kept_part_of : ReplicatedPart → KeptPart
kept_part_of k =
    record { txn = k.part.writer.txn; rows = k.part.batch; stamp = k.stamp; coordinator = k.part.writer.shard }

abbrev pub begun_of : Led → BegunBallot
begun_of l =
    record {
      txn = l.ballot.own.part.writer.txn;
      rows = l.ballot.own.part.batch;
      cohorts = l.cohorts;
      dependencies = l.dependencies;
      stamp = l.stamp;
    }

-- the coordinator's own part
abbrev pub own_part : Led → PreparedPart
own_part l =
    record {
      txn = l.ballot.own.part.writer.txn;
      rows = l.ballot.own.part.batch;
      coordinator = l.ballot.own.part.writer.shard;
      time = l.ballot.own.time;
      role = Own;
    }

abbrev pub kept_ballot_of : Remote → KeptBallot
kept_ballot_of r =
    record {
      txn = r.ballot.part.writer.txn;
      rows = r.ballot.part.batch;
      stamp = r.ballot.stamp;
      cohorts = r.cohorts;
      dependencies = r.dependencies;
    }

-- the shard doesn't lead the transaction
pub record IsUnled (v : View) : Type 0 where
  pub ballot : v.ballot ≡ None
  pub kept_ballot : v.kept_ballot ≡ None
  pub decision : v.decision ≡ None

-- nothing is known of the transaction; votes and notices may have come early
pub record IsUnknown (v : View) : Type 0 where
  pub unled : IsUnled v
  pub prepared : v.prepared ≡ None
  pub kept_part : v.kept_part ≡ None
  pub applied : v.applied ≡ false
  pub votes : v.votes ≡ []
  pub met : v.met ≡ []

-- a replicated part is kept
pub record StandsKept (v : View) (k : ReplicatedPart) : Type 0 where
  pub unled : IsUnled v
  pub kept_part : v.kept_part ≡ Some (kept_part_of k)
  pub prepared : v.prepared ≡ None
  pub applied : v.applied ≡ false

-- a cohort's part is prepared; one that is kept beside it has the same coordinator
pub record StandsPart (v : View) (p : PreparedPart) : Type 0 where
  pub unled : IsUnled v
  pub prepared : v.prepared ≡ Some p
  pub cohorts : is_cohorts p.role ≡ true
  pub applied : v.applied ≡ false
  pub kept_part : (k : KeptPart) → v.kept_part ≡ Some k → k.coordinator ≡ p.coordinator

-- a cohort's part is applied
pub record StandsApplied (v : View) : Type 0 where
  pub unled : IsUnled v
  pub prepared : is_some v.prepared ≡ true
  pub cohorts : (p : PreparedPart) → v.prepared ≡ Some p → is_cohorts p.role ≡ true
  pub applied : v.applied ≡ true

-- a ballot stands, and these of its cohorts haven't voted
pub record StandsLed (top : TopologyValue) (me : ℕ) (v : View) (l : Led) : Type 0 where
  pub ballot : v.ballot ≡ Some (begun_of l)
  pub prepared : v.prepared ≡ Some (own_part l)
  pub own : l.ballot.own.part.writer.shard ≡ shard_of top me
  pub cohorts : l.ballot.votes.cohorts ≡ near_nodes top me l.cohorts
  pub missing : l.ballot.votes.missing ≡ left_of (near_nodes top me l.cohorts) v.votes
  pub open_yet : are_all_there l.ballot.votes ≡ false
  pub decision : v.decision ≡ None
  pub applied : v.applied ≡ false
  pub kept_part : v.kept_part ≡ None
  pub readied : (r : KeptBallot) → v.kept_ballot ≡ Some r → is_ready_by top me v r ≡ true

-- a ballot of another data centre's write is kept, and these notices and answers are missing
pub record StandsRemote (top : TopologyValue) (me : ℕ) (v : View) (r : Remote) : Type 0 where
  pub kept_ballot : v.kept_ballot ≡ Some (kept_ballot_of r)
  pub own : r.ballot.part.writer.shard ≡ shard_of top me
  pub cohorts : r.ballot.notices.cohorts ≡ near_nodes top me r.cohorts
  pub missing : r.ballot.notices.missing ≡ left_of (near_nodes top me r.cohorts) v.notices
  pub answers : (t : TxnValue) → is_unanswered r.ballot.answers t ≡ (is_dependency r.dependencies t && not (is_unanswered v.met t))
  pub ballot : v.ballot ≡ None
  pub decision : v.decision ≡ None
  pub prepared : v.prepared ≡ None
  pub kept_part : v.kept_part ≡ None
  pub applied : v.applied ≡ false
  pub votes : v.votes ≡ []

-- something is missing
abbrev pub IsWaiting : Remote → Type 0
IsWaiting r = (missing_in r.ballot == 0) ≡ false

-- the shard decided the transaction, with this commit time and this stamp
pub record StandsDecided (top : TopologyValue) (me : ℕ) (t : TxnValue) (v : View) (commit : ℕ) (stamp : StampValue) : Type 0 where
  pub decision : v.decision ≡ Some (record { txn = t; commit = commit; stamp = stamp })
  pub prepared : (p : PreparedPart) → v.prepared ≡ Some p → p.role ≡ Own
  pub applied : v.applied ≡ true
  pub kept_part : v.kept_part ≡ None
  pub readied : (r : KeptBallot) → v.kept_ballot ≡ Some r → is_ready_by top me v r ≡ true

-- the votes of the ballot once this node's is counted too
abbrev pub with_counted : Led → ℕ → Led
with_counted l node = record l { ballot = record l.ballot { votes = counted l.ballot.votes node } }

-- what is known of a transaction stands for what this shard's state says of it
abbrev pub Stands : TopologyValue → ℕ → TxnValue → View → Option State → Type 0
Stands top me t v None = IsUnknown v
Stands top me t v (Some (Holds (in_open.Kept k))) = StandsKept v k
Stands top me t v (Some (Holds (in_open.Part p))) = StandsPart v p
Stands top me t v (Some (Holds (in_open.Led l))) = StandsLed top me v l
Stands top me t v (Some (Holds (in_open.Remote r))) = StandsRemote top me v r × IsWaiting r
Stands top me t v (Some IsApplied) = StandsApplied v
Stands top me t v (Some (IsDecided commit stamp)) = StandsDecided top me t v commit stamp

-- the mark of a transaction on a row: that of its part, or of the coordinator's own part
abbrev pub mark_of : Option State → Row → Option ℕ
mark_of (Some (Holds (in_open.Part p))) r = if touches_row r p then Some p.time else None
mark_of (Some (Holds (in_open.Led l))) r = if touches_row r (own_part l) then Some l.ballot.own.time else None
mark_of other r = None
