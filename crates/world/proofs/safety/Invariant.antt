-- What holds of every run: of each envelope, each shard, each session, and each completed operation.
use Rattle.std.specs.Prelude.{◌≡◌, ℕ, ◌+◌, ◌<◌, ◌≤◌, true, List, map, None, Contains, ◌⊎◌}
use Rattle.std.specs.Option.{unwrap_or}
use Rattle.logical_time.specs.Stamps.{StampValue, TxnValue, WriterValue}
use Rattle.column_family.specs.declared.batch.Change.{Change}
use Rattle.slice.specs.declared.read.Read.{Read}
use Rattle.slice.specs.declared.read.AnsweredRow.{AnsweredRow}
use Rattle.store.specs.declared.part.Applied.{Applied}
use Rattle.planner.specs.Partition.{shard_of as shard_of_key}
use Rattle.planner.specs.Plan.{coordinator_of, cohorts_of}
use Rattle.messages.specs.declared.rows_now.RowNow.{RowNow}
use Rattle.messages.specs.declared.rows_at.RowAt.{RowAt}
use Rattle.messages.specs.declared.rows_at.AtTime.{AtTime}
use Rattle.messages.specs.declared.rows_at.AtTime.TheVariants as at
use Rattle.messages.specs.declared.op.Op.{Op}
use Rattle.messages.specs.declared.op.Op.TheVariants as op
use Rattle.messages.specs.declared.outcome.Outcome.{Outcome}
use Rattle.messages.specs.declared.outcome.Outcome.TheVariants as outcome
use Rattle.messages.specs.declared.body.Body.{Body}
use Rattle.messages.specs.declared.body.Body.TheVariants.{Begin, Prepare, Yes, Commit, At, NotBy, Check, Read as ReadNow, ReadAt, ReplBegin, ReplPart, Notify, PrepareRemote, DepCheck, DepOk, Done, PartNow, PartAt}
use Rattle.messages.specs.declared.envelope.Envelope.{Envelope}
use Rattle.messages.specs.declared.event.ActorEvent.{ActorEvent}
use Rattle.messages.specs.Topology.{TopologyValue, dc_of, shard_of, shard_node, home_of}
use Rattle.messages.specs.Shard.{ShardState, PreparedPart, BegunBallot, Vote, Decision, KeptPart, KeptBallot, Met, Asker}
use Rattle.messages.specs.Session.{SessionState, Open, Idle, Writing, FirstRound, SecondRound, Moving, HeardNow, HeardAt}
use Rattle.messages.specs.Submitting.{share_of, plan_fault}
use Rattle.messages.specs.Rounds.{asked_nodes, all_heard, effective_time, late_keys, late_nodes, answer_of}
use Rattle.shard.specs.Events.{shard_run, envelopes_handled}
use Rattle.world.specs.Run.{Run, Submission, Completed}
use Rattle.world.specs.Promises.{Fits}
use Rattle.world.proofs.growing.Growth.{AskedNow, AskedAt}
use Rattle.world.proofs.safety.Facts.{txn_of, IsWritten, lead, part_on, IsDecided, IsDone, DecidedOnce, PreparedBefore, PreparedSound, BallotSound, KeptBallotSound, KeptPartSound, DecisionSound, AppliedSound, Excluded, RowAtSound, AnswersNow, AnswersAt}

-- the home of the session with this node
abbrev pub home : TopologyValue → ℕ → ℕ
home top node = unwrap_or (home_of top node) 0

-- ## Messages

-- the transaction was submitted, and this shard coordinates it in this data centre
pub record IsLead (top : TopologyValue) (w : Run) (dc node : ℕ) (t : TxnValue) : Type 0 where
  pub submission : Submission
  pub batch : List Change
  pub written : IsWritten w t submission batch
  pub here : node ≡ lead top dc batch

-- the transaction was submitted by a session that was then at home in the data centre of this shard
pub record IsAtHome (top : TopologyValue) (w : Run) (node : ℕ) (t : TxnValue) : Type 0 where
  pub submission : Submission
  pub batch : List Change
  pub written : IsWritten w t submission batch
  pub here : dc_of top node ≡ submission.home

-- a cohort's part, where the write was submitted
pub record PrepareSound (top : TopologyValue) (w : Run) (node : ℕ) (t : TxnValue) (changes : List Change) (c : ℕ) : Type 0 where
  pub submission : Submission
  pub batch : List Change
  pub written : IsWritten w t submission batch
  pub coordinator : c ≡ coordinator_of top.shards batch
  pub rows : changes ≡ part_on top batch node
  pub cohort : Contains (cohorts_of top.shards batch) (shard_of top node)
  pub origin : dc_of top node ≡ submission.home

-- the sender decided so, not above this time
pub record TellsDecision (w : Run) (from n : ℕ) (t : TxnValue) (commit : ℕ) (stamp : StampValue) : Type 0 where
  pub decided : IsDecided w from t commit stamp
  pub time : commit ≤ n

-- the sender decided it with this commit time, not above this time
abbrev pub TellsCommit : Run → ℕ → ℕ → TxnValue → ℕ → Type 0
TellsCommit w from n t commit = (stamp : StampValue) × TellsDecision w from n t commit stamp

-- the operation moves its session to this data centre
abbrev pub MovesTo : ℕ → Op → Type 0
MovesTo dc (op.Batch batch) = ⊥
MovesTo dc (op.Read read) = ⊥
MovesTo dc (op.Move there) = there ≡ dc

-- who waits for a decision of the shard: a shard of its data centre, for a write, or the session whose move to there
-- the waiter is
pub data MayWait (top : TopologyValue) (w : Run) (node : ℕ) (waiter : TxnValue) (from : ℕ) : Type 0 where
  of_shard : (b : Submission) (batch : List Change) → IsWritten w waiter b batch → dc_of top from ≡ dc_of top node → MayWait top w node waiter from
  of_move : (b : Submission) → Contains w.submitted b → txn_of b ≡ waiter → b.session ≡ from → MovesTo (dc_of top node) b.op → MayWait top w node waiter from

-- rows that answer what a session asked in its first round
pub record TellsNow (top : TopologyValue) (w : Run) (from to time number : ℕ) (rows : List RowNow) : Type 0 where
  pub read : Read
  pub asked : AskedNow top (w.sessions to) number from read
  pub answers : AnswersNow top w from time read rows

-- rows that answer what a session asked in its second round
pub record TellsAt (top : TopologyValue) (w : Run) (from to number bound : ℕ) (rows : List RowAt) : Type 0 where
  pub read : Read
  pub asked : AskedAt (w.sessions to) number bound from read
  pub answers : AnswersAt top w from bound read rows

-- it gave up what a session asked in its second round: the time is below its horizon
pub record TellsCollected (w : Run) (from to number bound : ℕ) : Type 0 where
  pub low : bound < (w.shards from).low
  pub read : Read
  pub asked : AskedAt (w.sessions to) number bound from read

abbrev pub TellsThen : AtTime → TopologyValue → Run → ℕ → ℕ → ℕ → ℕ → Type 0
TellsThen at.Collected top w from to number bound = TellsCollected w from to number bound
TellsThen (at.Rows rows) top w from to number bound = TellsAt top w from to number bound rows

-- what each body says by itself, from this sender to this receiver, in an envelope of this time
abbrev pub Says : TopologyValue → Run → ℕ → ℕ → ℕ → Body → Type 0
Says top w from to time (Begin t rows cohorts dependencies) =
    BallotSound top w to time (record { txn = t; rows = rows; cohorts = cohorts; dependencies = dependencies; stamp = None })
Says top w from to time (Prepare t rows coordinator) = PrepareSound top w to t rows coordinator
Says top w from to time (Yes t) = PreparedBefore w from t (time + 1)
Says top w from to time (Commit t commit stamp) = TellsDecision w from time t commit stamp × (dc_of top from ≡ dc_of top to)
Says top w from to time (At t commit stamp) = TellsDecision w from time t commit stamp × (dc_of top from ≡ dc_of top to)
Says top w from to time (NotBy t bound) = Excluded w from t bound × IsLead top w (dc_of top to) from t
Says top w from to time (Check t bound) = (bound ≤ time) × (dc_of top from ≡ dc_of top to) × IsLead top w (dc_of top from) to t
Says top w from to time (ReadNow number read) = AskedNow top (w.sessions from) number to read
Says top w from to time (ReadAt number bound read) = (bound ≤ time) × AskedAt (w.sessions from) number bound to read
Says top w from to time (ReplBegin cohorts t rows stamp dependencies) =
    KeptBallotSound top w to time (record { txn = t; rows = rows; stamp = stamp; cohorts = cohorts; dependencies = dependencies })
Says top w from to time (ReplPart t rows stamp coordinator) =
    KeptPartSound top w to (record { txn = t; rows = rows; stamp = stamp; coordinator = coordinator })
Says top w from to time (Notify t) = Unit {0}
Says top w from to time (PrepareRemote t) = Unit {0}
Says top w from to time (DepCheck dependency waiter) = MayWait top w to waiter from
Says top w from to time (DepOk dependency waiter commit) = TellsCommit w from time dependency commit × MayWait top w from waiter to
Says top w from to time (Done t commit stamp) = TellsDecision w from time t commit stamp × IsAtHome top w from t
Says top w from to time (PartNow number rows) = (r : RowNow) → Contains rows r → r.evt ≤ time
Says top w from to time (PartAt number bound answer) = Unit {0}

-- and what a session hears of it: answers are right besides, which follows from what holds of their shard
abbrev pub Hears : TopologyValue → Run → ℕ → ℕ → ℕ → Body → Type 0
Hears top w from to time (PartNow number rows) = TellsNow top w from to time number rows
Hears top w from to time (PartAt number bound answer) = TellsThen answer top w from to number bound
Hears top w from to time other = Says top w from to time other

abbrev pub EnvelopeSound : TopologyValue → Run → Envelope → Type 0
EnvelopeSound top w e = Says top w e.from e.to e.time e.body

-- ## Shards

pub record ShardSound (top : TopologyValue) (w : Run) (node : ℕ) (a : ShardState) : Type 0 where
  pub prepared : (p : PreparedPart) → Contains a.prepared p → PreparedSound top w node p
  pub ballots : (b : BegunBallot) → Contains a.ballots b → BallotSound top w node (w.shards node).clock b
  pub early : (v : Vote) → Contains a.early v → PreparedBefore w v.node v.txn (w.shards node).clock
  pub votes : (v : Vote) → Contains a.votes v → PreparedBefore w v.node v.txn (w.shards node).clock
  pub decided : (d : Decision) → Contains a.decided d → DecisionSound top w node d
  pub once : DecidedOnce a.decided
  pub applied : (v : Applied) → Contains a.applied v → AppliedSound top w node v
  pub kept_parts : (k : KeptPart) → Contains a.kept_parts k → KeptPartSound top w node k
  pub kept_ballots : (r : KeptBallot) → Contains a.kept_ballots r → KeptBallotSound top w node (w.shards node).clock r
  pub met : (m : Met) → Contains a.met m → IsDone top w (dc_of top node) m.dependency (w.shards node).clock
  pub askers : (k : Asker) → Contains a.askers k → MayWait top w node k.waiter k.from

-- none of these is of the transaction
pub record Untouched (ballots : List BegunBallot) (prepared : List PreparedPart) (decided : List Decision) (t : TxnValue) : Type 0 where
  pub unbegun : (b : BegunBallot) → Contains ballots b → b.txn ≡ t → ⊥
  pub unprepared : (p : PreparedPart) → Contains prepared p → p.txn ≡ t → ⊥
  pub undecided : (d : Decision) → Contains decided d → d.txn ≡ t → ⊥

-- a body that answers a read
abbrev pub IsAnswer : Body → Type 0
IsAnswer (PartNow number rows) = Unit {0}
IsAnswer (PartAt number bound answer) = Unit {0}
IsAnswer other = ⊥

-- The shard with this node is what events make of a shard: what it handled was sent to it, and what was sent of its answers
-- it sent.
pub record Played (top : TopologyValue) (w : Run) (node : ℕ) : Type 0 where
  pub events : List ActorEvent
  pub state : (shard_run top node events).state ≡ w.shards node
  pub handled : (e : Envelope) → Contains (envelopes_handled (shard_run top node events)) e → Contains w.sent e × (e.to ≡ node)
  pub answers : (e : Envelope) → Contains w.sent e → e.from ≡ node → IsAnswer e.body → Contains (shard_run top node events).sent e

-- ## Sessions

-- the operation of this number is this one
pub record IsOpen (w : Run) (node m dc : ℕ) (o : Op) : Type 0 where
  pub submission : Submission
  pub among : Contains w.submitted submission
  pub session : submission.session ≡ node
  pub number : submission.number ≡ m
  pub home : submission.home ≡ dc
  pub op : submission.op ≡ o

-- an answer of a first round that was kept
pub record HeardNowSound (top : TopologyValue) (w : Run) (a : SessionState) (read : Read) (h : HeardNow) : Type 0 where
  pub asked : Contains (asked_nodes top a read) h.from
  pub answers : AnswersNow top w h.from a.clock (share_of top read (shard_of top h.from)) h.rows

-- an answer of a second round that was kept
pub record HeardAtSound (top : TopologyValue) (w : Run) (a : SessionState) (read : Read) (time : ℕ) (first : List HeardNow) (h : HeardAt) : Type 0 where
  pub asked : Contains (late_nodes (asked_nodes top a read) time first) h.from
  pub answers : AnswersAt top w h.from time (record read { keys = late_keys time first h.from }) h.rows

pub record WritingSound (top : TopologyValue) (w : Run) (node : ℕ) (a : SessionState) (c : ℕ) : Type 0 where
  pub batch : List Change
  pub opened : IsOpen w node a.count a.home (op.Batch batch)
  pub coordinator : c ≡ coordinator_of top.shards batch

pub record FirstSound (top : TopologyValue) (w : Run) (node : ℕ) (a : SessionState) (read : Read) (hs : List HeardNow) : Type 0 where
  pub opened : IsOpen w node a.count a.home (op.Read read)
  pub depends : opened.submission.dependencies ≡ a.dependencies
  pub heard : (h : HeardNow) → Contains hs h → HeardNowSound top w a read h

pub record SecondSound (top : TopologyValue) (w : Run) (node : ℕ) (a : SessionState) (read : Read) (n : ℕ) (fs : List HeardNow) (hs : List HeardAt) : Type 0 where
  pub opened : IsOpen w node a.count a.home (op.Read read)
  pub depends : opened.submission.dependencies ≡ a.dependencies
  pub first : (h : HeardNow) → Contains fs h → HeardNowSound top w a read h
  pub all : all_heard (asked_nodes top a read) fs ≡ true
  pub time : n ≡ effective_time a.floor fs
  pub clock : n ≤ a.clock
  pub heard : (h : HeardAt) → Contains hs h → HeardAtSound top w a read n fs h

-- an open move: each dependency is still to be answered, or is decided in the new data centre by the greatest time so far
pub record MovingSound (top : TopologyValue) (w : Run) (node : ℕ) (a : SessionState) (dc : ℕ) (left : List WriterValue) (floor : ℕ) : Type 0 where
  pub opened : IsOpen w node a.count a.home (op.Move dc)
  pub depends : opened.submission.dependencies ≡ a.dependencies
  pub below : dc < top.dcs
  -- it leaves the present home
  pub away : dc ≡ a.home → ⊥
  pub clock : floor ≤ a.clock
  pub answered : (k : WriterValue) → Contains a.dependencies k → Contains left k ⊎ IsDone top w dc k.txn (floor + 1)

abbrev pub OpenSound : TopologyValue → Run → ℕ → SessionState → Open → Type 0
OpenSound top w node a Idle = Unit {0}
OpenSound top w node a (Writing coordinator) = WritingSound top w node a coordinator
OpenSound top w node a (FirstRound read heard) = FirstSound top w node a read heard
OpenSound top w node a (SecondRound read time first heard) = SecondSound top w node a read time first heard
OpenSound top w node a (Moving dc left floor) = MovingSound top w node a dc left floor

pub record SessionSound (top : TopologyValue) (w : Run) (node : ℕ) (a : SessionState) : Type 0 where
  pub floor : a.floor ≤ a.clock
  pub current : OpenSound top w node a a.current
  pub dependencies : (k : WriterValue) → Contains a.dependencies k → IsDone top w a.home k.txn (a.floor + 1)
  -- each is of a shard that there is
  pub placed : (k : WriterValue) → Contains a.dependencies k → k.shard < top.shards
  -- its last outcome was taken
  pub taken : a.untaken ≡ None

-- ## Submissions and completed operations

pub record SubmittedSound (top : TopologyValue) (w : Run) : Type 0 where
  pub accepted : (b : Submission) → Contains w.submitted b → plan_fault top b.home b.op ≡ None
  pub number : (b : Submission) → Contains w.submitted b → b.number ≤ (w.sessions b.session).count
  pub one : (b c : Submission) → Contains w.submitted b → Contains w.submitted c → txn_of b ≡ txn_of c → b ≡ c
  -- each write depends on transactions of shards that there are
  pub placed : (b : Submission) (k : WriterValue) → Contains w.submitted b → Contains b.dependencies k → k.shard < top.shards

-- A read was answered from these rows: each asked key has one, and each is right at the effective time, on the shard of its
-- key.
pub record AnsweredFrom (top : TopologyValue) (w : Run) (dc : ℕ) (read : Read) (time : ℕ) (rows : List RowAt) : Type 0 where
  pub given : (key : List ℕ) → Contains read.keys key → Contains (map (λ r. r.key) rows) key
  pub right : (r : RowAt) → Contains rows r → RowAtSound top w (shard_node top dc (shard_of_key top.shards r.key)) time read r

-- what the operation depends on is decided in this data centre below this time
pub record DependsOnDone (top : TopologyValue) (w : Run) (dc : ℕ) (t : TxnValue) (n : ℕ) : Type 0 where
  pub submission : Submission
  pub among : Contains w.submitted submission
  pub txn : txn_of submission ≡ t
  pub done : (k : WriterValue) → Contains submission.dependencies k → IsDone top w dc k.txn n

pub record AnsweredSound (top : TopologyValue) (w : Run) (dc : ℕ) (t : TxnValue) (read : Read) (time : ℕ) (shown : List AnsweredRow) : Type 0 where
  pub rows : List RowAt
  pub answer : shown ≡ answer_of read rows
  pub from : AnsweredFrom top w dc read time rows
  pub depends : DependsOnDone top w dc t (time + 1)

-- what came of an operation, by what was submitted
abbrev pub EndSound : Op → Outcome → TopologyValue → Run → ℕ → TxnValue → Type 0
EndSound (op.Batch batch) (outcome.Wrote commit stamp) top w dc t = IsDecided w (lead top dc batch) t commit stamp
EndSound (op.Read read) (outcome.Read time answer) top w dc t = AnsweredSound top w dc t read time answer
EndSound (op.Move to) (outcome.Moved there floor) top w dc t = DependsOnDone top w there t (floor + 1)
EndSound o r top w dc t = Unit {0}

pub record CompletedSound (top : TopologyValue) (w : Run) (c : Completed) : Type 0 where
  pub opened : IsOpen w c.node c.number c.home c.op
  pub fits : Fits c.op c.outcome
  pub came : EndSound c.op c.outcome top w c.home (record { session = c.node; number = c.number })

-- ## Runs

pub record Inv (top : TopologyValue) (w : Run) : Type 0 where
  pub shards : (node : ℕ) → ShardSound top w node (w.shards node)
  pub played : (node : ℕ) → Played top w node
  pub sessions : (node : ℕ) → SessionSound top w node (w.sessions node)
  pub sent : (e : Envelope) → Contains w.sent e → EnvelopeSound top w e
  pub submitted : SubmittedSound top w
  pub transcript : (c : Completed) → Contains w.transcript c → CompletedSound top w c
