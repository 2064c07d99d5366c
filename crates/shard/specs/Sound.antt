-- What holds of a shard that handles honest envelopes, and of what it sent. Each fact speaks of what only grows, so that it
-- goes on holding.
use Rattle.std.specs.Prelude.{◌≡◌, ℕ, ◌<◌, ◌≤◌, true, List, [], ◌++◌, map, Contains, ◌⊎◌, ⊤}
use Rattle.std.specs.List.{AllByRecursion}
use Rattle.logical_time.specs.Stamps.{TxnValue}
use Rattle.column_family.specs.declared.batch.Row.{Row}
use Rattle.column_family.specs.Normal.{IsNormal}
use Rattle.slice.specs.declared.read.Read.{Read}
use Rattle.store.specs.declared.part.Applied.{Applied}
use Rattle.store.specs.Part.{has_row, IsNewestPart, IsRightPart}
use Rattle.store.specs.Keeps.{AreApart}
use Rattle.messages.specs.declared.rows_now.RowNow.{RowNow}
use Rattle.messages.specs.declared.rows_at.RowAt.{RowAt}
use Rattle.messages.specs.declared.rows_at.AtTime.TheVariants as at_time
use Rattle.messages.specs.declared.body.Body.{Body}
use Rattle.messages.specs.declared.body.Body.TheVariants as body
use Rattle.messages.specs.declared.envelope.Envelope.{Envelope}
use Rattle.messages.specs.Topology.{TopologyValue}
use Rattle.messages.specs.Shard.{ShardState, ShardStep, Own, PreparedPart, BegunBallot, Vote, Decision, KeptPart, KeptBallot, Met, Asker, WaitingRead}
use Rattle.messages.specs.Known.{is_applied}
use Rattle.slice.specs.Rows.{row_of}
use Rattle.messages.specs.Rows.{touches_row}
use Rattle.messages.specs.Replication.{is_ready}
use Rattle.messages.specs.Honest.{ToldCommit, all_told, stamps_met}
use Rattle.shard.specs.Right.{part_now, part_then, IsAppliedAsDecided}

-- ## What is complete

-- a NotBy among these envelopes excludes the transaction at the time: whatever they tell of it, it commits above
pub record IsExcluded (es : List Envelope) (t : TxnValue) (time : ℕ) : Type 0 where
  pub told : Envelope
  pub among : Contains es told
  pub bound : ℕ
  pub body : told.body ≡ body.NotBy t bound
  pub bounded : time ≤ bound
  pub above : (x : ToldCommit) → Contains (all_told es) x → x.txn ≡ t → time < x.commit

-- Each part that is prepared in the row is applied, or marked at or after the time, or excluded at it, or one of these
-- transactions.
abbrev pub IsSettled : List Envelope → ShardState → Row → ℕ → List TxnValue → Type 0
IsSettled es a r time left =
    (p : PreparedPart) → Contains a.prepared p → touches_row r p ≡ true
    → (is_applied p.txn a ≡ true) ⊎ (time ≤ p.time) ⊎ IsExcluded es p.txn time ⊎ Contains left p.txn

-- Of the row, these parts are all that will ever be committed up to the time: what was applied after them in the row is
-- committed above it, and so will be what is still to be applied.
pub record IsComplete (es : List Envelope) (a : ShardState) (r : Row) (time : ℕ) (seen : List Applied) : Type 0 where
  pub later : List Applied
  pub split : a.applied ≡ seen ++ later
  pub above : (x : Applied) → Contains later x → has_row r x.part.batch ≡ true → time < x.commit
  pub clock : time ≤ a.clock
  pub settled : IsSettled es a r time []

-- From the one state to the other the clock and the horizon don't fall, and what is settled or complete stays so.
pub record Grows (es : List Envelope) (a b : ShardState) : Type 0 where
  pub clock : a.clock ≤ b.clock
  pub low : a.low ≤ b.low
  pub settled : (r : Row) (time : ℕ) (left : List TxnValue) → time ≤ a.clock → IsSettled es a r time left → IsSettled es b r time left
  pub complete : (r : Row) (time : ℕ) (seen : List Applied) → IsComplete es a r time seen → IsComplete es b r time seen

-- ## What is sent

-- The envelopes that the shard handled, later ones included, and which reads it is asked at an event: in a first round, and at
-- a time, by a session under a number.
pub record Seen : Type 1 where
  pub envelopes : List Envelope
  pub asks_now : (session number : ℕ) (read : Read) → Type 0
  pub asks_at : (session number time : ℕ) (read : Read) → Type 0

-- a row of a first round shows the newest of parts that are complete up to its latest valid time
pub record RowNowSound (es : List Envelope) (a : ShardState) (read : Read) (r : RowNow) : Type 0 where
  pub seen : List Applied
  pub newest : IsNewestPart seen (row_of read r.key) read.predicate (part_now r)
  pub complete : IsComplete es a (row_of read r.key) r.lvt seen
  pub stamped_apart : AreApart seen

-- a row of a second round is right by parts that are complete up to the read's time
pub record RowAtSound (es : List Envelope) (a : ShardState) (read : Read) (time : ℕ) (r : RowAt) : Type 0 where
  pub seen : List Applied
  pub right : IsRightPart seen (row_of read r.key) read.predicate time (part_then r)
  pub complete : IsComplete es a (row_of read r.key) time seen

-- rows for this node answer a read that it asked, in its order, and each is sound
pub record NowSound (es : Seen) (a : ShardState) (to number : ℕ) (rows : List RowNow) : Type 0 where
  pub read : Read
  pub asked : es.asks_now to number read
  pub keys : map (λ r. r.key) rows ≡ read.keys
  pub each : (r : RowNow) → Contains rows r → RowNowSound es.envelopes a read r

-- the same of rows at a time
pub record AtSound (es : Seen) (a : ShardState) (to number time : ℕ) (rows : List RowAt) : Type 0 where
  pub read : Read
  pub asked : es.asks_at to number time read
  pub keys : map (λ r. r.key) rows ≡ read.keys
  pub each : (r : RowAt) → Contains rows r → RowAtSound es.envelopes a read time r

-- a read that it asked is given up: its time is below the horizon
pub record GivenUpSound (es : Seen) (a : ShardState) (to number time : ℕ) : Type 0 where
  pub low : time < a.low
  pub read : Read
  pub asked : es.asks_at to number time read

-- what is sent to this node is sound: of other kinds than answers nothing is said
abbrev pub BodySound : Seen → ShardState → ℕ → Body → Type 0
BodySound es a to (body.PartNow number rows) = NowSound es a to number rows
BodySound es a to (body.PartAt number time (at_time.Rows rows)) = AtSound es a to number time rows
BodySound es a to (body.PartAt number time at_time.Collected) = GivenUpSound es a to number time
BodySound es a to other = ⊤

-- each of these is sound
abbrev pub AreSound : Seen → ShardState → List Envelope → Type 0
AreSound es a sends = AllByRecursion (λ e. BodySound es a e.to e.body) sends

-- a read that waits was asked, and its rows are settled but for what it waits for
pub record WaitSound (es : Seen) (a : ShardState) (x : WaitingRead) : Type 0 where
  pub asked : es.asks_at x.session x.number x.time x.read
  pub clock : x.time ≤ a.clock
  pub settled : (key : List ℕ) → Contains x.read.keys key → IsSettled es.envelopes a (row_of x.read key) x.time x.left

-- ## What the shard knows

-- a ballot of the transaction was begun
abbrev pub IsBallot : ShardState → TxnValue → Type 0
IsBallot a t = (b : BegunBallot) × Contains a.ballots b × (b.txn ≡ t)

-- the shard decided the transaction
abbrev pub IsDecided : ShardState → TxnValue → Type 0
IsDecided a t = (d : Decision) × Contains a.decided d × (d.txn ≡ t)

-- a replicated ballot of the transaction is kept
abbrev pub IsKeptBallot : ShardState → TxnValue → Type 0
IsKeptBallot a t = (b : KeptBallot) × Contains a.kept_ballots b × (b.txn ≡ t)

-- a replicated part of the transaction is kept
abbrev pub IsKeptPart : ShardState → TxnValue → Type 0
IsKeptPart a t = (k : KeptPart) × Contains a.kept_parts k × (k.txn ≡ t)

-- a cohort's part of the transaction is prepared
abbrev pub IsCohorts : ShardState → TxnValue → Type 0
IsCohorts a t = (p : PreparedPart) × Contains a.prepared p × (p.txn ≡ t) × (p.role ≡ Own → ⊥)

-- the shard coordinates the transaction
abbrev pub IsLed : ShardState → TxnValue → Type 0
IsLed a t = IsBallot a t ⊎ IsDecided a t ⊎ IsKeptBallot a t

-- the shard is a cohort of the transaction
abbrev pub IsFollowed : ShardState → TxnValue → Type 0
IsFollowed a t = IsCohorts a t ⊎ IsKeptPart a t

-- Where this is the last state and each handled envelope is among these: no transaction is led and followed, each has one
-- kept ballot, and one that is begun or decided has all notices and answers; a coordinator's own part is of a ballot that
-- was begun; what is applied was decided here or is a cohort's part; all parts are in normal form; parts that are applied
-- have stamps that were met, no two the same, and are applied as they were decided; and the waiting reads are sound.
pub record Holds (top : TopologyValue) (me : ℕ) (last : ShardState) (es : Seen) (a : ShardState) : Type 0 where
  pub sides : (t : TxnValue) → IsLed a t → IsFollowed a t → ⊥
  pub one : (r s : KeptBallot) → Contains a.kept_ballots r → Contains a.kept_ballots s → r.txn ≡ s.txn → r ≡ s
  pub readied : (r : KeptBallot) → Contains a.kept_ballots r → IsBallot a r.txn ⊎ IsDecided a r.txn → is_ready top me a r ≡ true
  pub own : (p : PreparedPart) → Contains a.prepared p → p.role ≡ Own → IsBallot a p.txn
  pub origin : (x : Applied) → Contains a.applied x → IsDecided a x.part.writer.txn ⊎ IsCohorts a x.part.writer.txn
  pub prepared : (p : PreparedPart) → Contains a.prepared p → IsNormal p.rows
  pub ballots : (b : BegunBallot) → Contains a.ballots b → IsNormal b.rows
  pub kept_parts : (k : KeptPart) → Contains a.kept_parts k → IsNormal k.rows
  pub kept_ballots : (r : KeptBallot) → Contains a.kept_ballots r → IsNormal r.rows
  pub stamped_apart : AreApart a.applied
  pub met : (x : Applied) → Contains a.applied x → Contains (stamps_met last es.envelopes) (record { txn = x.part.writer.txn; stamp = x.stamp })
  pub decided_so : (x : Applied) → Contains a.applied x → IsAppliedAsDecided last es.envelopes x
  pub waiting : (x : WaitingRead) → Contains a.waiting x → WaitSound es a x

-- the state that comes of this one: it holds all of this, and what was complete stays so
pub record Onward (top : TopologyValue) (me : ℕ) (last : ShardState) (es : Seen) (a b : ShardState) : Type 0 where
  pub grows : Grows es.envelopes a b
  pub holds : Holds top me last es b

-- a step leads onward, and what it sends is sound
pub record Able (top : TopologyValue) (me : ℕ) (last : ShardState) (es : Seen) (a : ShardState) (step : ShardStep) : Type 0 where
  pub onward : Onward top me last es a step.state
  pub sends : AreSound es step.state step.sends

-- what is kept in the one state is kept in the other
pub record IsWithin (a b : ShardState) : Type 0 where
  pub prepared : (y : PreparedPart) → Contains a.prepared y → Contains b.prepared y
  pub ballots : (y : BegunBallot) → Contains a.ballots y → Contains b.ballots y
  pub early : (y : Vote) → Contains a.early y → Contains b.early y
  pub votes : (y : Vote) → Contains a.votes y → Contains b.votes y
  pub decided : (y : Decision) → Contains a.decided y → Contains b.decided y
  pub applied : (y : Applied) → Contains a.applied y → Contains b.applied y
  pub kept_parts : (y : KeptPart) → Contains a.kept_parts y → Contains b.kept_parts y
  pub kept_ballots : (y : KeptBallot) → Contains a.kept_ballots y → Contains b.kept_ballots y
  pub notices : (y : Vote) → Contains a.notices y → Contains b.notices y
  pub met : (y : Met) → Contains a.met y → Contains b.met y
  pub askers : (y : Asker) → Contains a.askers y → Contains b.askers y
