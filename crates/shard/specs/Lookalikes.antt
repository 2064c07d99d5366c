-- Forms that resemble what is promised of one shard and are false: each has one bound changed by one, or asks for honest
-- envelopes without one of the clauses. Worked runs refute them.
use Rattle.std.specs.Prelude.{◌≡◌, ◌≢◌, ℕ, ◌+◌, ◌-◌, ◌<◌, ◌≤◌, List, map, Contains, ◌⊎◌}
use Rattle.column_family.specs.Normal.{IsNormal}
use Rattle.slice.specs.declared.read.Read.{Read}
use Rattle.store.specs.declared.part.Applied.{Applied}
use Rattle.store.specs.Part.{IsRightPart}
use Rattle.messages.specs.declared.rows_now.RowNow.{RowNow}
use Rattle.messages.specs.declared.rows_at.RowAt.{RowAt}
use Rattle.messages.specs.declared.rows_at.AtTime.TheVariants as at
use Rattle.messages.specs.declared.body.Body.TheVariants as body
use Rattle.messages.specs.declared.envelope.Envelope.{Envelope}
use Rattle.messages.specs.Shard.{ShardState, PreparedPart, Decision}
use Rattle.messages.specs.Topology.{TopologyValue}
use Rattle.messages.specs.Honest.{ToldCommit, StampedTxn, all_told, part_in, stamps_met, IsHonest}
use Rattle.slice.specs.Rows.{row_of}
use Rattle.shard.specs.Events.{ShardRun, envelopes_handled}
use Rattle.shard.specs.Right.{part_now, IsRightAt, IsRightShard}

-- ## Rows of a first round

-- a first-round answer, with each row right in this sense
pub record AnswersNowBy (right : Read → RowNow → Type 0) (envelopes : List Envelope) (e : Envelope) (number : ℕ) (rows : List RowNow) : Type 0 where
  pub asked : Envelope
  pub read : Read
  pub handled : Contains envelopes asked
  pub from : asked.from ≡ e.to
  pub body : asked.body ≡ body.Read number read
  pub keys : map (λ r. r.key) rows ≡ read.keys
  pub each : (r : RowNow) → Contains rows r → right read r

-- each is so
abbrev pub RowsAre : (List Applied → Read → RowNow → Type 0) → ShardRun → Type 0
RowsAre right w =
    IsHonest w.state (envelopes_handled w) → (e : Envelope) (number : ℕ) (rows : List RowNow)
    → Contains w.sent e → e.body ≡ body.PartNow number rows → AnswersNowBy (right w.state.applied) (envelopes_handled w) e number rows

-- from one before its earliest valid time on
abbrev pub IsRightEarlier : List Applied → Read → RowNow → Type 0
IsRightEarlier applied read r =
    (time : ℕ) → r.evt ≤ time + 1 → time ≤ r.lvt → IsRightPart applied (row_of read r.key) read.predicate time (part_now r)

-- up to one after its latest valid time
abbrev pub IsRightLater : List Applied → Read → RowNow → Type 0
IsRightLater applied read r =
    (time : ℕ) → r.evt ≤ time → time ≤ r.lvt + 1 → IsRightPart applied (row_of read r.key) read.predicate time (part_now r)

abbrev pub RowsAreRightEarlier : ShardRun → Type 0
RowsAreRightEarlier w = RowsAre IsRightEarlier w

abbrev pub RowsAreRightLater : ShardRun → Type 0
RowsAreRightLater w = RowsAre IsRightLater w

-- ## Rows at a time

-- a second-round answer, with each row right in this sense
pub record AnswersAtBy (right : Read → RowAt → Type 0) (envelopes : List Envelope) (e : Envelope) (number time : ℕ) (rows : List RowAt) : Type 0 where
  pub asked : Envelope
  pub read : Read
  pub handled : Contains envelopes asked
  pub from : asked.from ≡ e.to
  pub body : asked.body ≡ body.ReadAt number time read
  pub keys : map (λ r. r.key) rows ≡ read.keys
  pub each : (r : RowAt) → Contains rows r → right read r

-- each is right at a time that the read's time gives
abbrev pub RowsAreRightAt : (ℕ → ℕ) → ShardRun → Type 0
RowsAreRightAt other w =
    IsHonest w.state (envelopes_handled w) → (e : Envelope) (number time : ℕ) (rows : List RowAt)
    → Contains w.sent e → e.body ≡ body.PartAt number time (at.Rows rows)
    → AnswersAtBy (λ read r. IsRightAt w.state.applied read (other time) r) (envelopes_handled w) e number time rows

-- one time earlier
abbrev pub RowsAtATimeAreRightEarlier : ShardRun → Type 0
RowsAtATimeAreRightEarlier w = RowsAreRightAt (λ time. time - 1) w

-- one time later
abbrev pub RowsAtATimeAreRightLater : ShardRun → Type 0
RowsAtATimeAreRightLater w = RowsAreRightAt (λ time. time + 1) w

-- ## Parts, and reads that are given up

-- a part is applied above the commit time that was told of it, not at it
abbrev pub PartsAreAppliedAbove : ShardRun → Type 0
PartsAreAppliedAbove w =
    IsHonest w.state (envelopes_handled w) → (x : Applied) → Contains w.state.applied x
    → ((y : ToldCommit) × Contains (all_told (envelopes_handled w)) y × (y.txn ≡ x.part.writer.txn) × (y.commit < x.commit) × (y.stamp ≡ x.stamp))
    ⊎ ((d : Decision) × Contains w.state.decided d × (d.txn ≡ x.part.writer.txn) × (d.commit ≡ x.commit) × (d.stamp ≡ x.stamp))

-- a read is given up only where its time is below the horizon by more than one
abbrev pub GivenUpFarBelow : ShardRun → Type 0
GivenUpFarBelow w =
    IsHonest w.state (envelopes_handled w) → (e : Envelope) (number time : ℕ) → Contains w.sent e
    → e.body ≡ body.PartAt number time at.Collected → time + 1 < w.state.low

-- ## Envelopes that are honest but for one clause

-- a clause of `IsHonest`: that commit times are above marks, and above the times of NotBy; that a ReadAt names no time above
-- its envelope's; that two transactions have two stamps
pub data Clause : Type 0 where
  Marks : Clause
  Exclusions : Clause
  TimesOfReads : Clause
  Stamps : Clause

-- envelopes are honest, but for this clause
pub record IsHonestBut (left_out : Clause) (a : ShardState) (es : List Envelope) : Type 0 where
  pub commit : (x y : ToldCommit) → Contains (all_told es) x → Contains (all_told es) y → x.txn ≡ y.txn → x.commit ≡ y.commit
  pub stamp : (x y : ToldCommit) → Contains (all_told es) x → Contains (all_told es) y → x.txn ≡ y.txn → x.stamp ≡ y.stamp
  pub prepared : left_out ≢ Marks
      → (x : ToldCommit) (p : PreparedPart) → Contains (all_told es) x → Contains a.prepared p → p.txn ≡ x.txn → p.time < x.commit
  pub told : (x : ToldCommit) → Contains (all_told es) x → x.commit ≤ x.time
  pub excluded : left_out ≢ Exclusions
      → (x : ToldCommit) (e : Envelope) (time : ℕ) → Contains (all_told es) x → Contains es e → e.body ≡ body.NotBy x.txn time → time < x.commit
  pub stamps : left_out ≢ Stamps
      → (x y : StampedTxn) → Contains (stamps_met a es) x → Contains (stamps_met a es) y → x.stamp ≡ y.stamp → x.txn ≡ y.txn
  pub read : left_out ≢ TimesOfReads
      → (e : Envelope) (number time : ℕ) (r : Read) → Contains es e → e.body ≡ body.ReadAt number time r → time ≤ e.time
  pub parts : (e : Envelope) → Contains es e → IsNormal (part_in e.body)

-- that is enough for a shard to be right
abbrev pub IsRightWithout : Clause → TopologyValue → ℕ → ShardRun → Type 0
IsRightWithout c top me w = IsHonestBut c w.state (envelopes_handled w) → IsRightShard top me w
