-- When what one shard sent is right, judged against all that it applied, later events included.
use Rattle.std.specs.Prelude.{◌≡◌, ℕ, ◌<◌, ◌≤◌, true, false, List, [], ◌∷◌, ◌++◌, map, Contains, ◌⊎◌}
use Rattle.slice.specs.declared.read.Read.{Read}
use Rattle.store.specs.declared.part.Applied.{Applied}
use Rattle.store.specs.declared.part.Part.{Part}
use Rattle.store.specs.Part.{IsRightPart}
use Rattle.store.specs.Keeps.{AreApart}
use Rattle.messages.specs.declared.rows_now.RowNow.{RowNow}
use Rattle.messages.specs.declared.rows_at.RowAt.{RowAt}
use Rattle.messages.specs.declared.rows_at.AtTime.TheVariants as at
use Rattle.messages.specs.declared.body.Body.TheVariants as body
use Rattle.messages.specs.declared.envelope.Envelope.{Envelope}
use Rattle.messages.specs.Topology.{TopologyValue}
use Rattle.messages.specs.Shard.{ShardState, Decision}
use Rattle.messages.specs.Reads.{is_waiting}
use Rattle.messages.specs.Honest.{ToldCommit, all_told}
use Rattle.slice.specs.Rows.{row_of}
use Rattle.messages.specs.declared.event.ActorEvent.{ActorEvent}
use Rattle.messages.specs.declared.event.ActorEvent.TheVariants.{Handle}
use Rattle.shard.specs.Events.{ShardRun, shard_run, envelopes_handled}

-- a row of a first round as a part of what was applied
abbrev pub part_now : RowNow → Part
part_now r = record { columns = r.columns; writers = r.writers; evt = r.evt }

-- a row of a second round in the same way; it names no earliest valid time
abbrev pub part_then : RowAt → Part
part_then r = record { columns = r.columns; writers = r.writers; evt = 0 }

-- a row of a first round is right at each time from its earliest to its latest valid time
abbrev pub IsRightNow : List Applied → Read → RowNow → Type 0
IsRightNow applied read r =
    (time : ℕ) → r.evt ≤ time → time ≤ r.lvt → IsRightPart applied (row_of read r.key) read.predicate time (part_now r)

-- a row of a second round is right at the read's time
abbrev pub IsRightAt : List Applied → Read → ℕ → RowAt → Type 0
IsRightAt applied read time r = IsRightPart applied (row_of read r.key) read.predicate time (part_then r)

-- ## Which read an answer is to

-- after these events, this event adds this to what the shard sent
pub record IsSentBy (top : TopologyValue) (me : ℕ) (before : List ActorEvent) (event : ActorEvent) (e : Envelope) : Type 0 where
  pub sends : List Envelope
  pub added : (shard_run top me (before ++ event ∷ [])).sent ≡ (shard_run top me before).sent ++ sends
  pub has : Contains sends e

-- a Read causes what its own event sends
pub record CausesNow (top : TopologyValue) (me : ℕ) (events : List ActorEvent) (asked e : Envelope) : Type 0 where
  pub before : List ActorEvent
  pub after : List ActorEvent
  pub split : events ≡ before ++ Handle asked ∷ after
  pub sent : IsSentBy top me before (Handle asked) e

-- the read that was asked after those events waits from then on, through further ones, until an event sends this
pub record IsSentWaiting (top : TopologyValue) (me : ℕ) (before : List ActorEvent) (asked : Envelope) (number : ℕ) (after : List ActorEvent) (e : Envelope) : Type 0 where
  pub between : List ActorEvent
  pub event : ActorEvent
  pub rest : List ActorEvent
  pub split : after ≡ between ++ event ∷ rest
  pub waits : (xs ys : List ActorEvent) → between ≡ xs ++ ys → is_waiting (shard_run top me (before ++ Handle asked ∷ xs)).state asked.from number ≡ true
  pub sent : IsSentBy top me (before ++ Handle asked ∷ between) event e

-- A ReadAt causes this: none of its session and number waited before it, and its own event sends it, or the read waits until
-- an event does.
pub record CausesAt (top : TopologyValue) (me : ℕ) (events : List ActorEvent) (asked : Envelope) (number : ℕ) (e : Envelope) : Type 0 where
  pub before : List ActorEvent
  pub after : List ActorEvent
  pub split : events ≡ before ++ Handle asked ∷ after
  pub taken : is_waiting (shard_run top me before).state asked.from number ≡ false
  pub answered : IsSentBy top me before (Handle asked) e ⊎ IsSentWaiting top me before asked number after e

-- ## Answers

-- A first-round answer: it has one row for each key of the read that caused it, in its order, each right against what the
-- shard applied.
pub record AnswersNow (top : TopologyValue) (me : ℕ) (w : ShardRun) (e : Envelope) (number : ℕ) (rows : List RowNow) : Type 0 where
  pub asked : Envelope
  pub read : Read
  pub cause : CausesNow top me w.events asked e
  pub from : asked.from ≡ e.to
  pub body : asked.body ≡ body.Read number read
  pub keys : map (λ r. r.key) rows ≡ read.keys
  pub right : (r : RowNow) → Contains rows r → IsRightNow w.state.applied read r

-- a second-round answer in the same way: it answers the read at this time that caused it
pub record AnswersAt (top : TopologyValue) (me : ℕ) (w : ShardRun) (e : Envelope) (number time : ℕ) (rows : List RowAt) : Type 0 where
  pub asked : Envelope
  pub read : Read
  pub cause : CausesAt top me w.events asked number e
  pub from : asked.from ≡ e.to
  pub body : asked.body ≡ body.ReadAt number time read
  pub keys : map (λ r. r.key) rows ≡ read.keys
  pub right : (r : RowAt) → Contains rows r → IsRightAt w.state.applied read time r

-- ## The shard

-- an applied part has the commit time and the stamp that one of these envelopes told of its transaction, or that the shard
-- itself decided
abbrev pub IsAppliedAsDecided : ShardState → List Envelope → Applied → Type 0
IsAppliedAsDecided a envelopes x =
    ((y : ToldCommit) × Contains (all_told envelopes) y × (y.txn ≡ x.part.writer.txn) × (y.commit ≡ x.commit) × (y.stamp ≡ x.stamp))
    ⊎ ((d : Decision) × Contains a.decided d × (d.txn ≡ x.part.writer.txn) × (d.commit ≡ x.commit) × (d.stamp ≡ x.stamp))

-- The shard is right: of all that it sent, each answer of a first round is right at each time for which it says so, each
-- answer at a time is right at that time, both against all that it ever applied; a read is given up only below the
-- horizon; and parts are applied as they were decided, in normal form, no two with one stamp.
pub record IsRightShard (top : TopologyValue) (me : ℕ) (w : ShardRun) : Type 0 where
  pub apart : AreApart w.state.applied
  pub applied : (x : Applied) → Contains w.state.applied x → IsAppliedAsDecided w.state (envelopes_handled w) x
  pub now : (e : Envelope) (number : ℕ) (rows : List RowNow) → Contains w.sent e → e.body ≡ body.PartNow number rows
      → AnswersNow top me w e number rows
  pub then : (e : Envelope) (number time : ℕ) (rows : List RowAt) → Contains w.sent e → e.body ≡ body.PartAt number time (at.Rows rows)
      → AnswersAt top me w e number time rows
  pub collected : (e : Envelope) (number time : ℕ) → Contains w.sent e → e.body ≡ body.PartAt number time at.Collected
      → time < w.state.low

-- ## What one event sends

-- of this envelope holds what of all that a right shard sent: an answer is right, and a read is given up only below the horizon
pub record IsRightlySent (top : TopologyValue) (me : ℕ) (w : ShardRun) (e : Envelope) : Type 0 where
  pub now : (number : ℕ) (rows : List RowNow) → e.body ≡ body.PartNow number rows → AnswersNow top me w e number rows
  pub then : (number time : ℕ) (rows : List RowAt) → e.body ≡ body.PartAt number time (at.Rows rows) → AnswersAt top me w e number time rows
  pub collected : (number time : ℕ) → e.body ≡ body.PartAt number time at.Collected → time < w.state.low

-- what was added to what was sent is right in this run, in which further events may come after it
pub record SendsRight (top : TopologyValue) (me : ℕ) (w : ShardRun) (before after : List Envelope) : Type 0 where
  pub sends : List Envelope
  pub added : after ≡ before ++ sends
  pub each : (e : Envelope) → Contains sends e → IsRightlySent top me w e
