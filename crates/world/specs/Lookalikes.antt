-- Forms that resemble the promises and are false. Each is a promise with one bound, one premise or one data centre changed,
-- and worked runs refute it.
use Rattle.std.specs.Prelude.{◌≡◌, ◌≢◌, ℕ, ◌+◌, ◌-◌, ◌<◌, ◌≤◌, true, List, ◌++◌, length, map, slice_get, Some, None, ◌⊎◌, Contains, AllPairs}
use Rattle.std.specs.List.{list_any}
use Rattle.logical_time.specs.Stamps.{StampValue, TxnValue, is_older}
use Rattle.column_family.specs.declared.batch.Change.{Change}
use Rattle.column_family.specs.declared.batch.Committed.{Committed}
use Rattle.column_family.specs.Location.{Location, touches}
use Rattle.column_family.specs.History.{History, Stamped, newest_at, table_at}
use Rattle.column_family.specs.Normal.{committed}
use Rattle.slice.specs.declared.read.Read.{Read}
use Rattle.slice.specs.declared.read.AnsweredRow.{AnsweredRow}
use Rattle.slice.specs.Slice.{is_asked}
use Rattle.store.specs.declared.part.Applied.{Applied}
use Rattle.slice.specs.Rows.{row_of}
use Rattle.table.specs.Meaning.{meaning}
use Rattle.planner.specs.Plan.{coordinator_of}
use Rattle.messages.specs.declared.envelope.Envelope.{Envelope}
use Rattle.messages.specs.declared.op.Op.TheVariants as op
use Rattle.messages.specs.declared.outcome.Outcome.TheVariants as outcome
use Rattle.messages.specs.declared.body.Body.{Body}
use Rattle.messages.specs.declared.body.Body.TheVariants as body
use Rattle.messages.specs.Topology.{TopologyValue, is_shard, shard_count, shard_node, home_of}
use Rattle.messages.specs.declared.event.ActorEvent.TheVariants.{Handle}
use Rattle.messages.specs.Actors.{outcomes_by}
use Rattle.messages.specs.Honest.{IsHonest}
use Rattle.messages.specs.Shard.{Decision}
use Rattle.messages.specs.Session.{Finished, Idle}
use Rattle.shard.specs.Events.{shard_run}
use Rattle.world.specs.Run.{Run, RunEvent, Deliver, Submission, Completed, step, run}
use Rattle.world.specs.Journals.{journal_in}
use Rattle.world.specs.Histories.{batch_submitted, decisions_in, history_of, IsHistory}
use Rattle.world.specs.Quiet.{handled, IsQuiet, WasHandled}
use Rattle.world.specs.Before.{completes, IsSubmitted, Past}
use Rattle.world.specs.Met.{envelopes_to}
use Rattle.world.specs.Fresh.{IsKept, WasApplied, IsNoOlder}
use Rattle.world.specs.Committed.{IsCommittedBy, time_of, IsNotBelow}
use Rattle.world.specs.Entries.{named_by, IsOf, IsKeptIn}
use Rattle.world.specs.Promises.{number_of, IsAnswered, TouchesAsked}
use Rattle.world.specs.Settled.{IsCommittedIn, Settled}
use Rattle.world.specs.Local.{IsLocallyQuiet, AllAnswered}
use Rattle.world.specs.Each.{IsRightInRun}
use Rattle.world.specs.Refusals.{refusal_of}
use Rattle.world.specs.Drains.{rank, total, HasSame, deliveries_left, drained}

-- ## One table, and the past

-- the table of one time earlier
abbrev pub ReadsShowEarlierTable : TopologyValue → Run → Type 0
ReadsShowEarlierTable top w =
    (c : Completed) (read : Read) (time : ℕ) (answer : List AnsweredRow) (h : History)
    → IsAnswered w c read time answer → IsHistory top w c.home h → answer ≡ meaning read h (time - 1)

-- the table of one time later
abbrev pub ReadsShowLaterTable : TopologyValue → Run → Type 0
ReadsShowLaterTable top w =
    (c : Completed) (read : Read) (time : ℕ) (answer : List AnsweredRow) (h : History)
    → IsAnswered w c read time answer → IsHistory top w c.home h → answer ≡ meaning read h (time + 1)

-- the table of the first data centre, whatever the home
abbrev pub ReadsShowFirstCentre : TopologyValue → Run → Type 0
ReadsShowFirstCentre top w =
    (c : Completed) (read : Read) (time : ℕ) (answer : List AnsweredRow) (h : History)
    → IsAnswered w c read time answer → IsHistory top w 0 h → answer ≡ meaning read h time

-- the past is committed strictly below the effective time
abbrev pub PastIsBelow : TopologyValue → Run → Type 0
PastIsBelow top w =
    (c : Completed) (read : Read) (time : ℕ) (answer : List AnsweredRow) (u : TxnValue)
    → IsAnswered w c read time answer → Past top w (number_of c) u
    → (d : Decision) × Contains (decisions_in top w c.home) d × (d.txn ≡ u) × (d.commit < time)

-- the past is committed by then in the first data centre, whatever the home
abbrev pub PastIsInFirstCentre : TopologyValue → Run → Type 0
PastIsInFirstCentre top w =
    (c : Completed) (read : Read) (time : ℕ) (answer : List AnsweredRow) (u : TxnValue)
    → IsAnswered w c read time answer → Past top w (number_of c) u → IsCommittedBy top w 0 u time

-- what a read shows at an asked location is of each write of its past that touches it, so no newer one hides it
abbrev pub PastIsShown : TopologyValue → Run → Type 0
PastIsShown top w =
    (c : Completed) (read : Read) (time : ℕ) (answer : List AnsweredRow) (u : TxnValue) (d : Decision) (batch : List Change) (key name : List ℕ)
    → IsAnswered w c read time answer → Past top w (number_of c) u
    → Contains (decisions_in top w c.home) d → d.txn ≡ u → batch_submitted w u ≡ Some batch
    → Contains read.keys key → is_asked read.predicate name ≡ true
    → list_any (touches (record { row = row_of read key; name = name })) batch ≡ true
    → (n : Stamped) × (newest_at (history_of top w c.home) time (record { row = row_of read key; name = name }) ≡ Some n)
    × (n.stamp ≡ d.stamp)

-- ## What is committed in the home of a read

-- all of it, also what was there when the read was answered, is above the effective time
abbrev pub CommitsAreAbove : TopologyValue → List RunEvent → List RunEvent → Type 0
CommitsAreAbove top before after =
    (c : Completed) (read : Read) (time : ℕ) (answer : List AnsweredRow) (d : Decision)
    → IsAnswered (run top before) c read time answer
    → Contains (decisions_in top (run top (before ++ after)) c.home) d
    → TouchesAsked (run top (before ++ after)) d.txn read → time < d.commit

-- what is committed later is above the effective time, whatever rows it touches
abbrev pub LaterCommitsOfAnyRowAreAbove : TopologyValue → List RunEvent → List RunEvent → Type 0
LaterCommitsOfAnyRowAreAbove top before after =
    (c : Completed) (read : Read) (time : ℕ) (answer : List AnsweredRow) (d : Decision)
    → IsAnswered (run top before) c read time answer
    → Contains (decisions_in top (run top (before ++ after)) c.home) d → (Contains (decisions_in top (run top before) c.home) d → ⊥)
    → time < d.commit

-- what is committed later in an asked row is above it by more than one
abbrev pub LaterCommitsAreFarAbove : TopologyValue → List RunEvent → List RunEvent → Type 0
LaterCommitsAreFarAbove top before after =
    (c : Completed) (read : Read) (time : ℕ) (answer : List AnsweredRow) (d : Decision)
    → IsAnswered (run top before) c read time answer
    → Contains (decisions_in top (run top (before ++ after)) c.home) d → (Contains (decisions_in top (run top before) c.home) d → ⊥)
    → TouchesAsked (run top (before ++ after)) d.txn read → time + 1 < d.commit

-- no commit time of the home is above the effective time
abbrev pub ReadsAreAboveTheirHome : TopologyValue → Run → Type 0
ReadsAreAboveTheirHome top w =
    (c : Completed) (read : Read) (time : ℕ) (answer : List AnsweredRow) (d : Decision)
    → IsAnswered w c read time answer → Contains (decisions_in top w c.home) d → d.commit ≤ time

-- A write that is completed is in the table of each read of its rows that is submitted afterwards in the same data centre,
-- by whatever session
abbrev pub CompletedWritesAreShown : TopologyValue → List RunEvent → List RunEvent → Type 0
CompletedWritesAreShown top before after =
    (c e : Completed) (commit : ℕ) (stamp : StampValue) (read : Read) (time : ℕ) (answer : List AnsweredRow)
    → Contains (run top before).transcript c → c.outcome ≡ outcome.Wrote commit stamp
    → IsAnswered (run top (before ++ after)) e read time answer → (IsSubmitted (run top before) (number_of e) → ⊥)
    → e.home ≡ c.home → TouchesAsked (run top (before ++ after)) (number_of c) read
    → IsCommittedBy top (run top (before ++ after)) e.home (number_of c) time

-- ## Freshness

-- what a read shows is newer than what the asked shard had applied, not as new
abbrev pub ReadsAreNewer : TopologyValue → Run → Type 0
ReadsAreNewer top w =
    (c : Completed) (read : Read) (time : ℕ) (answer : List AnsweredRow) (k : ℕ) (e : Envelope) (x : Applied) (key name : List ℕ)
    → IsAnswered w c read time answer → IsKept top w c.node c.number k e → WasApplied top w e.from k x
    → Contains read.keys key → is_asked read.predicate name ≡ true
    → list_any (touches (record { row = row_of read key; name = name })) x.part.batch ≡ true
    → (n : Stamped) × (newest_at (history_of top w c.home) time (record { row = row_of read key; name = name }) ≡ Some n)
    × (is_older x.stamp n.stamp ≡ true)

-- nothing older is in the table either at rows that aren't asked for
abbrev pub OtherRowsAreFresh : TopologyValue → Run → Type 0
OtherRowsAreFresh top w =
    (c : Completed) (read : Read) (time : ℕ) (answer : List AnsweredRow) (k : ℕ) (e : Envelope) (x : Applied) (key name : List ℕ)
    → IsAnswered w c read time answer → IsKept top w c.node c.number k e → WasApplied top w e.from k x
    → is_asked read.predicate name ≡ true
    → list_any (touches (record { row = row_of read key; name = name })) x.part.batch ≡ true
    → IsNoOlder top w c.home time (record { row = row_of read key; name = name }) x

-- nor at columns of these rows that aren't asked for
abbrev pub OtherColumnsAreFresh : TopologyValue → Run → Type 0
OtherColumnsAreFresh top w =
    (c : Completed) (read : Read) (time : ℕ) (answer : List AnsweredRow) (k : ℕ) (e : Envelope) (x : Applied) (key name : List ℕ)
    → IsAnswered w c read time answer → IsKept top w c.node c.number k e → WasApplied top w e.from k x
    → Contains read.keys key
    → list_any (touches (record { row = row_of read key; name = name })) x.part.batch ≡ true
    → IsNoOlder top w c.home time (record { row = row_of read key; name = name }) x

-- nothing older than what the asked shard had applied when its answer came, not when it was sent
abbrev pub ReadsAreFreshAtDelivery : TopologyValue → Run → Type 0
ReadsAreFreshAtDelivery top w =
    (c : Completed) (read : Read) (time : ℕ) (answer : List AnsweredRow) (k : ℕ) (e : Envelope) (x : Applied) (key name : List ℕ)
    → IsAnswered w c read time answer → (kept : IsKept top w c.node c.number k e)
    → Contains ((run top kept.before).shards e.from).applied x
    → Contains read.keys key → is_asked read.predicate name ≡ true
    → list_any (touches (record { row = row_of read key; name = name })) x.part.batch ≡ true
    → IsNoOlder top w c.home time (record { row = row_of read key; name = name }) x

-- ## Histories

-- further events add no entry
abbrev pub HistoriesNeverGrow : TopologyValue → List RunEvent → List RunEvent → Type 0
HistoriesNeverGrow top before after =
    (dc : ℕ) (g h : History) → IsHistory top (run top before) dc g → IsHistory top (run top (before ++ after)) dc h → IsKeptIn h g

-- each batch that was submitted has its entry
abbrev pub SubmittedBatchesHaveEntries : TopologyValue → Run → Type 0
SubmittedBatchesHaveEntries top w =
    (dc : ℕ) (h : History) (t : TxnValue) (batch : List Change)
    → IsHistory top w dc h → batch_submitted w t ≡ Some batch → (c : Committed) × Contains h c × (c.batch ≡ batch)

-- no two entries have one commit time
abbrev pub EntriesHaveOwnTimes : TopologyValue → Run → Type 0
EntriesHaveOwnTimes top w = (dc : ℕ) (h : History) → IsHistory top w dc h → AllPairs (λ c e. c.commit ≢ e.commit) h

-- whatever is decided, a shard of the first data centre decides it
abbrev pub FirstCentreDecides : TopologyValue → Run → Type 0
FirstCentreDecides top w =
    (node : ℕ) (d : Decision) → Contains (w.shards node).decided d
    → (batch : List Change) × (batch_submitted w d.txn ≡ Some batch) × (node ≡ shard_node top 0 (coordinator_of top.shards batch))

-- ## Stamps and commit times

-- a transaction has one commit time in all data centres
abbrev pub CommitTimesAgree : TopologyValue → Run → Type 0
CommitTimesAgree top w =
    (dc ec : ℕ) (d e : Decision) → Contains (decisions_in top w dc) d → Contains (decisions_in top w ec) e → d.txn ≡ e.txn → d.commit ≡ e.commit

-- the time of a stamp is the commit time in each data centre
abbrev pub StampsAreCommitTimes : TopologyValue → Run → Type 0
StampsAreCommitTimes top w = (dc : ℕ) (d : Decision) → Contains (decisions_in top w dc) d → d.stamp.time ≡ d.commit

-- where the write was submitted it is below the commit time
abbrev pub StampsAreBelowCommitTimes : TopologyValue → Run → Type 0
StampsAreBelowCommitTimes top w =
    (d : Decision) (s : Submission) → Contains (decisions_in top w s.home) d → IsOf w d s → d.stamp.time < d.commit

-- if one write is before another, its commit time is less, wherever they are decided
abbrev pub CommitTimesFollowCauses : TopologyValue → Run → Type 0
CommitTimesFollowCauses top w =
    (u v : TxnValue) (dc ec : ℕ) (d e : Decision) → Past top w v u
    → Contains (decisions_in top w dc) d → d.txn ≡ u → Contains (decisions_in top w ec) e → e.txn ≡ v → d.commit < e.commit

-- if the stamp of one write is less than that of another, it is before it
abbrev pub StampsTellCauses : TopologyValue → Run → Type 0
StampsTellCauses top w =
    (dc ec : ℕ) (d e : Decision)
    → Contains (decisions_in top w dc) d → Contains (decisions_in top w ec) e → is_older d.stamp e.stamp ≡ true → Past top w e.txn d.txn

-- ## What sessions are told

-- a completed write stands, with the commit time and the stamp that its session was told, in the first data centre
abbrev pub WritesAreToldInFirstCentre : TopologyValue → Run → Type 0
WritesAreToldInFirstCentre top w =
    (c : Completed) (commit : ℕ) (stamp : StampValue) (batch : List Change) (h : History)
    → Contains w.transcript c → c.op ≡ op.Batch batch → c.outcome ≡ outcome.Wrote commit stamp
    → IsHistory top w 0 h → Contains h (committed batch stamp commit)

-- a completed write is committed in every data centre
abbrev pub CompletedWritesAreEverywhere : TopologyValue → Run → Type 0
CompletedWritesAreEverywhere top w =
    (c : Completed) (commit : ℕ) (stamp : StampValue) (dc : ℕ)
    → Contains w.transcript c → c.outcome ≡ outcome.Wrote commit stamp → dc < top.dcs → IsCommittedIn top w dc (number_of c)

-- the times of a session rise
abbrev pub TimesRise : Run → Type 0
TimesRise w =
    (c e : Completed) → Contains w.transcript c → Contains w.transcript e → c.node ≡ e.node → c.number < e.number
    → IsNotBelow e.outcome (time_of c.outcome + 1)

-- the times of a session never fall, wherever it moves
abbrev pub TimesNeverFallAnywhere : Run → Type 0
TimesNeverFallAnywhere w =
    (c e : Completed) → Contains w.transcript c → Contains w.transcript e → c.node ≡ e.node → c.number < e.number
    → IsNotBelow e.outcome (time_of c.outcome)

-- a session ends all its operations in one home
abbrev pub SessionsStayAtHome : Run → Type 0
SessionsStayAtHome w = (c e : Completed) → Contains w.transcript c → Contains w.transcript e → c.node ≡ e.node → c.home ≡ e.home

-- the times of all sessions of a data centre never fall, in the order in which operations end
abbrev pub TimesOfACentreNeverFall : Run → Type 0
TimesOfACentreNeverFall w = AllPairs (λ c e. c.home ≡ e.home → IsNotBelow e.outcome (time_of c.outcome)) w.transcript

-- a session ends one operation
abbrev pub SessionsEndOnce : Run → Type 0
SessionsEndOnce w = AllPairs (λ c e. c.node ≢ e.node) w.transcript

-- a session submits one operation
abbrev pub SessionsSubmitOnce : Run → Type 0
SessionsSubmitOnce w = AllPairs (λ s t. s.session ≢ t.session) w.submitted

-- no operation ends without being completed
abbrev pub NothingIsGivenUp : Run → Type 0
NothingIsGivenUp w = (c : Completed) → Contains w.transcript c → completes c.outcome ≡ true

-- each operation ends as a write does, whatever its kind
abbrev pub AllEndAsWrites : Run → Type 0
AllEndAsWrites w =
    (c : Completed) → Contains w.transcript c → (commit : ℕ) × (stamp : StampValue) × (c.outcome ≡ outcome.Wrote commit stamp)

-- each operation that was submitted stands in the transcript
abbrev pub SubmissionsEnd : Run → Type 0
SubmissionsEnd w =
    (s : Submission) → Contains w.submitted s → (c : Completed) × Contains w.transcript c × (number_of c ≡ named_by s)

-- what a session finished stands there under the next number
abbrev pub OutcomesAreListedNext : TopologyValue → Run → Type 0
OutcomesAreListedNext top w =
    (session : ℕ) (f : Finished) → Contains (outcomes_by top session (journal_in w session)) f
    → (c : Completed) × Contains w.transcript c × (c.node ≡ session) × (c.number ≡ f.number + 1)

-- a run keeps all events, also those that are refused
abbrev pub RunsKeepAllEvents : TopologyValue → List RunEvent → Type 0
RunsKeepAllEvents top events = (run top events).events ≡ events

-- ## Shards

-- all that was sent, to whatever shard, is honest towards each, not only what it handled
abbrev pub SentIsHonest : TopologyValue → Run → Type 0
SentIsHonest top w = (node : ℕ) → IsHonest (w.shards node) w.sent

-- each shard is what the envelopes that it handled make of a shard, without its collections
abbrev pub EnvelopesMakeShards : TopologyValue → Run → Type 0
EnvelopesMakeShards top w =
    (node : ℕ) → is_shard top node ≡ true → (shard_run top node (map Handle (envelopes_to w node))).state ≡ w.shards node

-- each node is a shard that is right, also those of sessions
abbrev pub EachNodeIsRight : TopologyValue → Run → Type 0
EachNodeIsRight top w = (node : ℕ) → IsRightInRun top w node

-- ## Quiet runs

-- every message that was sent, but for the last, has been handled
abbrev pub IsNearlyQuiet : Run → Type 0
IsNearlyQuiet w = (k : ℕ) → k + 1 < length w.sent → Contains (handled w) k

-- that is enough
abbrev pub NearlyQuietMeansDone : TopologyValue → Run → Type 0
NearlyQuietMeansDone top w = IsNearlyQuiet w → Settled top w

-- it holds also where the topology is none that there is
abbrev pub QuietMeansDoneAnywhere : TopologyValue → Run → Type 0
QuietMeansDoneAnywhere top w = IsQuiet w → Settled top w

-- tables are equal at each time that isn't below the commit times of one data centre, not of both
abbrev pub TablesAreEqualOnceOneIsDone : TopologyValue → Run → Type 0
TablesAreEqualOnceOneIsDone top w =
    (dc other : ℕ) (time : ℕ) (h g : History) (l : Location)
    → IsQuiet w → dc < top.dcs → other < top.dcs → IsHistory top w dc h → IsHistory top w other g
    → ((c : Committed) → Contains h c → c.commit ≤ time)
    → table_at h time l ≡ table_at g time l

-- and from one time before their last commits
abbrev pub TablesAreEqualOneBefore : TopologyValue → Run → Type 0
TablesAreEqualOneBefore top w =
    (dc other : ℕ) (time : ℕ) (h g : History) (l : Location)
    → IsQuiet w → dc < top.dcs → other < top.dcs → IsHistory top w dc h → IsHistory top w other g
    → ((c : Committed) → Contains h c → c.commit ≤ time + 1) → ((c : Committed) → Contains g c → c.commit ≤ time + 1)
    → table_at h time l ≡ table_at g time l

-- each operation is completed, so no read is given up
abbrev pub QuietMeansCompleted : Run → Type 0
QuietMeansCompleted w = IsQuiet w → (c : Completed) → Contains w.transcript c → completes c.outcome ≡ true

-- ## Local answers

-- where a data centre is quiet, no session that is at home there has anything open, not even a move
abbrev pub LocallyQuietMeansIdle : TopologyValue → Run → ℕ → ℕ → Type 0
LocallyQuietMeansIdle top w dc session =
    IsLocallyQuiet top dc w → home_of top session ≡ Some dc → (w.sessions session).home ≡ dc → (w.sessions session).current ≡ Idle

-- each session that was opened there is answered, wherever it is at home now
abbrev pub LocallyQuietAnswersAway : TopologyValue → Run → ℕ → ℕ → Type 0
LocallyQuietAnswersAway top w dc session = IsLocallyQuiet top dc w → home_of top session ≡ Some dc → AllAnswered w session

-- it is enough that what a session sent, and what was sent to it, was handled
abbrev pub OwnMessagesAreEnough : Run → ℕ → Type 0
OwnMessagesAreEnough w session =
    ((e : Envelope) → Contains w.sent e → (e.from ≡ session) ⊎ (e.to ≡ session) → WasHandled w e) → AllAnswered w session

-- ## Drains

-- Yes is of a rank above that of ReplBegin
abbrev pub rank_with_yes_above : Body → ℕ
rank_with_yes_above (body.Yes txn) = 5
rank_with_yes_above other = rank other

-- with such ranks, too, all is of a lower rank that is sent where nothing is decided
abbrev pub LowerWithYesAbove : TopologyValue → Run → Type 0
LowerWithYesAbove top w =
    (k : ℕ) (e f : Envelope) (sends : List Envelope)
    → slice_get w.sent k ≡ Some e → (step top w (Deliver k)).sent ≡ w.sent ++ sends → HasSame w (step top w (Deliver k)) → Contains sends f
    → rank_with_yes_above f.body < rank_with_yes_above e.body

-- all that is sent is of a lower rank, also by a decision
abbrev pub SendsAreLower : TopologyValue → Run → Type 0
SendsAreLower top w =
    (k : ℕ) (e f : Envelope) (sends : List Envelope)
    → slice_get w.sent k ≡ Some e → (step top w (Deliver k)).sent ≡ w.sent ++ sends → Contains sends f → rank f.body < rank e.body

-- how many deliveries are left, if one forgets the reads that wait
abbrev pub left_without_waiting : TopologyValue → Run → ℕ
left_without_waiting top w = deliveries_left top w - total (λ node. length (w.shards node).waiting) (shard_count top)

-- each delivery of what wasn't handled leaves fewer of those
abbrev pub FewerWithoutWaiting : TopologyValue → Run → Type 0
FewerWithoutWaiting top w =
    (k : ℕ) → k < length w.sent → (Contains (handled w) k → ⊥) → refusal_of top w (Deliver k) ≡ None
    → left_without_waiting top (step top w (Deliver k)) < left_without_waiting top w

-- so many deliveries are enough as there are messages that weren't handled
abbrev pub UnhandledAreEnough : TopologyValue → Run → Type 0
UnhandledAreEnough top w = (n : ℕ) → length w.sent ≤ length (handled w) + n → IsQuiet (drained top n w)

-- each clock is below the number of events
abbrev pub ClocksAreBelowEvents : Run → Type 0
ClocksAreBelowEvents w = (node : ℕ) → (w.sessions node).clock < length w.events
