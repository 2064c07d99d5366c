-- What is under way in every run: what was sent for each entry, what each handled message left, and that nothing stands
-- still.
use Rattle.std.specs.Prelude.{◌≡◌, ℕ, ◌<◌, ◌≤◌, true, false, List, [], ◌∷◌, ◌++◌, None, Some, ◌⊎◌, slice_get, Contains}
use Rattle.logical_time.specs.Stamps.{TxnValue, WriterValue}
use Rattle.column_family.specs.declared.batch.Change.{Change}
use Rattle.store.specs.declared.part.Applied.{Applied}
use Rattle.planner.specs.Plan.{coordinator_of, cohorts_of}
use Rattle.messages.specs.declared.op.Op.TheVariants as op
use Rattle.messages.specs.declared.envelope.Envelope.{Envelope}
use Rattle.messages.specs.Topology.{TopologyValue, dc_of, shard_of, shard_node}
use Rattle.messages.specs.Words.{other_dcs}
use Rattle.messages.specs.Shard.{ShardState, Role, Own, Cohort, Replica, PreparedPart, BegunBallot, Vote, Decision, KeptPart, KeptBallot, Met, Asker, WaitingRead}
use Rattle.messages.specs.Session.{SessionState, Open, Idle, Writing, FirstRound, SecondRound, Moving, is_idle}
use Rattle.messages.specs.Rounds.{asked_nodes, is_missing, is_missing_at}
use Rattle.messages.specs.SessionEvents.{is_left}
use Rattle.shard.specs.Sound.{IsWithin}
use Rattle.world.specs.Run.{Run, Submission, Completed}
use Rattle.world.specs.Quiet.{handled}
use Rattle.world.proofs.safety.Facts.{txn_of, IsWritten, near, lead, Sees}
use Rattle.world.proofs.safety.Invariant.{IsLead, MovesTo}
use Rattle.world.proofs.causal.Causal.{txn_ended}
use Rattle.world.proofs.envelopes.About.{Kind, OfBegin, OfPrepare, OfYes, OfCommit, OfRead, OfReadAt, OfReplBegin, OfReplPart, OfNotify, OfPrepareRemote, OfDepCheck, OfDepOk, OfDone, OfPartNow, OfPartAt, kind_of, Sent}

-- ## What a shard has of a transaction

abbrev pub HasPrepared : ShardState → TxnValue → Type 0
HasPrepared a t = (p : PreparedPart) × Contains a.prepared p × (p.txn ≡ t)

abbrev pub HasBallot : ShardState → TxnValue → Type 0
HasBallot a t = (b : BegunBallot) × Contains a.ballots b × (b.txn ≡ t)

abbrev pub HasDecision : ShardState → TxnValue → Type 0
HasDecision a t = (d : Decision) × Contains a.decided d × (d.txn ≡ t)

abbrev pub HasKeptPart : ShardState → TxnValue → Type 0
HasKeptPart a t = (k : KeptPart) × Contains a.kept_parts k × (k.txn ≡ t)

abbrev pub HasKeptBallot : ShardState → TxnValue → Type 0
HasKeptBallot a t = (r : KeptBallot) × Contains a.kept_ballots r × (r.txn ≡ t)

-- it was prepared or decided
abbrev pub Knows : ShardState → TxnValue → Type 0
Knows a t = HasPrepared a t ⊎ HasDecision a t

-- a kept ballot of the waiter names the dependency
pub record Awaits (a : ShardState) (waiter dependency : TxnValue) : Type 0 where
  pub ballot : KeptBallot
  pub among : Contains a.kept_ballots ballot
  pub txn : ballot.txn ≡ waiter
  pub writer : WriterValue
  pub named : Contains ballot.dependencies writer
  pub is : writer.txn ≡ dependency

-- who waits for the dependency in this data centre: a kept ballot of the waiter that names it, or the session whose move to
-- there the waiter is, which depends on it
pub data WaitsFor (top : TopologyValue) (w : Run) (dc from : ℕ) (waiter dependency : TxnValue) : Type 0 where
  of_ballot : Awaits (w.shards from) waiter dependency → WaitsFor top w dc from waiter dependency
  of_moving : (b : Submission) → Contains w.submitted b → txn_of b ≡ waiter → b.session ≡ from → MovesTo dc b.op → (k : WriterValue) → Contains b.dependencies k
      → k.txn ≡ dependency → WaitsFor top w dc from waiter dependency

abbrev pub vote_of : TxnValue → ℕ → Vote
vote_of t node = record { txn = t; node = node }

abbrev pub met_of : TxnValue → TxnValue → Met
met_of waiter dependency = record { waiter = waiter; dependency = dependency }

-- ## Where a transaction belongs

-- the shard is one of the transaction's cohorts
pub record Aside (top : TopologyValue) (w : Run) (node : ℕ) (t : TxnValue) : Type 0 where
  pub submission : Submission
  pub batch : List Change
  pub written : IsWritten w t submission batch
  pub cohort : Contains (cohorts_of top.shards batch) (shard_of top node)

-- the shard is in another data centre than the transaction's own
pub record Away (top : TopologyValue) (w : Run) (node : ℕ) (t : TxnValue) : Type 0 where
  pub submission : Submission
  pub batch : List Change
  pub written : IsWritten w t submission batch
  pub away : dc_of top node ≡ submission.home → ⊥

-- the shard is in the data centre where the transaction was submitted
pub record AtOrigin (top : TopologyValue) (w : Run) (node : ℕ) (t : TxnValue) : Type 0 where
  pub submission : Submission
  pub batch : List Change
  pub written : IsWritten w t submission batch
  pub here : dc_of top node ≡ submission.home

abbrev pub Leads : TopologyValue → Run → ℕ → TxnValue → Type 0
Leads top w node t = IsLead top w (dc_of top node) node t

-- a dependency names a submitted write and its coordinator
pub record Placed (top : TopologyValue) (w : Run) (k : WriterValue) : Type 0 where
  pub submission : Submission
  pub batch : List Change
  pub written : IsWritten w k.txn submission batch
  pub coordinator : k.shard ≡ coordinator_of top.shards batch

-- ## What only grows

-- the open first round misses no answer of this shard
abbrev pub FirstHas : TopologyValue → SessionState → Open → ℕ → Type 0
FirstHas top a (FirstRound read heard) node = is_missing (asked_nodes top a read) heard node ≡ false
FirstHas top a Idle node = Unit {0}
FirstHas top a (Writing coordinator) node = Unit {0}
FirstHas top a (SecondRound read time first heard) node = Unit {0}
FirstHas top a (Moving dc left floor) node = Unit {0}

-- the session's operation of this number misses no first answer of this shard, now or later
pub record NotMissing (top : TopologyValue) (a : SessionState) (m node : ℕ) : Type 0 where
  pub number : m ≤ a.count
  pub round : m ≡ a.count → FirstHas top a a.current node

-- the open read is past its first round, and its second has this time
abbrev pub SecondIs : Open → ℕ → Type 0
SecondIs (SecondRound read effective first heard) time = effective ≡ time
SecondIs (FirstRound read heard) time = ⊥
SecondIs Idle time = Unit {0}
SecondIs (Writing coordinator) time = Unit {0}
SecondIs (Moving dc left floor) time = Unit {0}

-- the session's operation of this number began a second round at this time
pub record Round (a : SessionState) (m time : ℕ) : Type 0 where
  pub number : m ≤ a.count
  pub round : m ≡ a.count → SecondIs a.current time

-- the open second round misses no answer of this shard; none is in its first round
abbrev pub SecondHas : TopologyValue → SessionState → Open → ℕ → Type 0
SecondHas top a (SecondRound read time first heard) node = is_missing_at (asked_nodes top a read) time first heard node ≡ false
SecondHas top a (FirstRound read heard) node = ⊥
SecondHas top a Idle node = Unit {0}
SecondHas top a (Writing coordinator) node = Unit {0}
SecondHas top a (Moving dc left floor) node = Unit {0}

-- the session's operation of this number misses no second answer of this shard, now or later
pub record NotAwaited (top : TopologyValue) (a : SessionState) (m node : ℕ) : Type 0 where
  pub number : m ≤ a.count
  pub round : m ≡ a.count → SecondHas top a a.current node

-- the open move misses no answer about this transaction
abbrev pub IsNotLeft : Open → TxnValue → Type 0
IsNotLeft (Moving dc left floor) t = is_left t left ≡ false
IsNotLeft Idle t = Unit {0}
IsNotLeft (Writing coordinator) t = Unit {0}
IsNotLeft (FirstRound read heard) t = Unit {0}
IsNotLeft (SecondRound read time first heard) t = Unit {0}

-- the session's operation of this number misses no answer about this transaction, now or later
pub record NotLeft (a : SessionState) (m : ℕ) (t : TxnValue) : Type 0 where
  pub number : m ≤ a.count
  pub round : m ≡ a.count → IsNotLeft a.current t

pub record SessionOnward (top : TopologyValue) (a b : SessionState) : Type 0 where
  pub count : a.count ≤ b.count
  pub missing : (m node : ℕ) → NotMissing top a m node → NotMissing top b m node
  pub rounds : (m time : ℕ) → Round a m time → Round b m time
  pub awaited : (m node : ℕ) → NotAwaited top a m node → NotAwaited top b m node
  pub left : (m : ℕ) (t : TxnValue) → NotLeft a m t → NotLeft b m t

-- the shard keeps this read waiting
abbrev pub HasWait : ShardState → ℕ → ℕ → ℕ → Type 0
HasWait b session number time = (y : WaitingRead) × Contains b.waiting y × (y.session ≡ session) × (y.number ≡ number) × (y.time ≡ time)

-- what a waiting read waits for is prepared and not applied, and there is some
abbrev pub Waiting : ShardState → Type 0
Waiting b =
    (y : WaitingRead) → Contains b.waiting y
    → ((t : TxnValue) × Contains y.left t) × ((t : TxnValue) → Contains y.left t → HasPrepared b t × (Sees b.applied t → ⊥))

-- a step keeps each read that waits, or answers it; a new one is what the message asked
pub record WaitStep (node : ℕ) (a b : ShardState) (sends : List Envelope) (from : ℕ) (k : Kind) : Type 0 where
  pub waiting : Waiting a → Waiting b
  pub old : (y : WaitingRead) → Contains b.waiting y → HasWait a y.session y.number y.time ⊎ ((y.session ≡ from) × (k ≡ OfReadAt y.number y.time))
  pub kept : (y : WaitingRead) → Contains a.waiting y → HasWait b y.session y.number y.time ⊎ Sent sends node y.session (OfPartAt y.number y.time)

pub record Onward (top : TopologyValue) (w x : Run) : Type 0 where
  pub shards : (node : ℕ) → IsWithin (w.shards node) (x.shards node)
  pub sessions : (node : ℕ) → SessionOnward top (w.sessions node) (x.sessions node)
  pub waits : (node : ℕ) (y : WaitingRead) → Contains (w.shards node).waiting y → HasWait (x.shards node) y.session y.number y.time ⊎ Sent x.sent node y.session (OfPartAt y.number y.time)
  pub sent : (e : Envelope) → Contains w.sent e → Contains x.sent e
  pub submitted : (b : Submission) → Contains w.submitted b → Contains x.submitted b
  pub transcript : (c : Completed) → Contains w.transcript c → Contains x.transcript c

-- ## What was sent for each entry

-- a part has its vote, or its own ballot; a replicated part was kept
abbrev pub RoleLive : Role → Run → ℕ → ℕ → TxnValue → Type 0
RoleLive Own w node coordinator t = HasBallot (w.shards node) t
RoleLive Cohort w node coordinator t = Sent w.sent node coordinator (OfYes t)
RoleLive Replica w node coordinator t = Sent w.sent node coordinator (OfYes t) × HasKeptPart (w.shards node) t

abbrev pub PreparedLive : TopologyValue → Run → ℕ → PreparedPart → Type 0
PreparedLive top w node p = RoleLive p.role w node (near top node p.coordinator) p.txn

-- a ballot has its own part prepared, and that of another data centre has asked its cohorts
abbrev pub BallotLive : TopologyValue → Run → ℕ → BegunBallot → Type 0
BallotLive top w node b =
    HasPrepared (w.shards node) b.txn
    × ((b.stamp ≡ None) ⊎ (Away top w node b.txn × ((c : ℕ) → Contains b.cohorts c → Sent w.sent node (near top node c) (OfPrepareRemote b.txn))))

pub record KeptPartLive (top : TopologyValue) (w : Run) (node : ℕ) (k : KeptPart) : Type 0 where
  pub away : Away top w node k.txn
  pub here : dc_of top node < top.dcs
  pub told : Sent w.sent node (near top node k.coordinator) (OfNotify k.txn)

pub record KeptBallotLive (top : TopologyValue) (w : Run) (node : ℕ) (r : KeptBallot) : Type 0 where
  pub away : Away top w node r.txn
  pub here : dc_of top node < top.dcs
  pub asked : (k : WriterValue) → Contains r.dependencies k → Sent w.sent node (near top node k.shard) (OfDepCheck k.txn r.txn)

pub record DecisionLive (top : TopologyValue) (w : Run) (node : ℕ) (d : Decision) : Type 0 where
  pub submission : Submission
  pub batch : List Change
  pub written : IsWritten w d.txn submission batch
  pub cohorts : (c : ℕ) → Contains (cohorts_of top.shards batch) c → Sent w.sent node (near top node c) (OfCommit d.txn)
  pub done : dc_of top node ≡ submission.home → Sent w.sent node d.txn.session (OfDone d.txn)
  pub copies : dc_of top node ≡ submission.home → (dc : ℕ) → Contains (other_dcs top node) dc → Sent w.sent node (shard_node top dc (shard_of top node)) (OfReplBegin d.txn)

-- a cohort's part was replicated from where it was submitted
abbrev pub AppliedLive : TopologyValue → Run → ℕ → Applied → Type 0
AppliedLive top w node v =
    (v.part.writer.shard ≡ shard_of top node) ⊎ Away top w node v.part.writer.txn
    ⊎ ((dc : ℕ) → Contains (other_dcs top node) dc → Sent w.sent node (shard_node top dc (shard_of top node)) (OfReplPart v.part.writer.txn))

pub record AskerLive (top : TopologyValue) (w : Run) (node : ℕ) (k : Asker) : Type 0 where
  pub leads : Leads top w node k.dependency
  pub here : dc_of top node < top.dcs
  pub awaits : WaitsFor top w (dc_of top node) k.from k.waiter k.dependency

-- a vote that came before Begin is for the coordinator, where the write was submitted
abbrev pub EarlyLive : TopologyValue → Run → ℕ → Vote → Type 0
EarlyLive top w node v = AtOrigin top w node v.txn × Leads top w node v.txn

-- a notice is of a part that is kept in the same data centre, and for the coordinator
abbrev pub NoticeLive : TopologyValue → Run → ℕ → Vote → Type 0
NoticeLive top w node v = HasKeptPart (w.shards v.node) v.txn × Leads top w node v.txn × (dc_of top v.node ≡ dc_of top node)

-- ## A shard

-- what each entry of the shard b has, in the run
pub record Entries (top : TopologyValue) (w : Run) (node : ℕ) (b : ShardState) : Type 0 where
  pub prepared : (p : PreparedPart) → Contains b.prepared p → PreparedLive top w node p
  pub ballots : (u : BegunBallot) → Contains b.ballots u → BallotLive top w node u
  pub kept_parts : (k : KeptPart) → Contains b.kept_parts k → KeptPartLive top w node k
  pub kept_ballots : (r : KeptBallot) → Contains b.kept_ballots r → KeptBallotLive top w node r
  -- nobody votes before the coordinator of another data centre asks
  pub early : (v : Vote) → Contains b.early v → EarlyLive top w node v
  -- votes are counted for a ballot
  pub votes : (v : Vote) → Contains b.votes v → HasBallot (w.shards node) v.txn
  pub notices : (v : Vote) → Contains b.notices v → NoticeLive top w node v
  pub decided : (d : Decision) → Contains b.decided d → DecisionLive top w node d
  pub applied : (v : Applied) → Contains b.applied v → AppliedLive top w node v
  pub askers : (k : Asker) → Contains b.askers k → AskerLive top w node k
  pub told : (k : Asker) (d : Decision) → Contains b.askers k → Contains b.decided d → d.txn ≡ k.dependency → Sent w.sent node k.from (OfDepOk k.dependency k.waiter)

-- early votes are counted once their ballot has begun where it was submitted
abbrev pub EarlyCounted : ShardState → Type 0
EarlyCounted b = (u : BegunBallot) (v : Vote) → Contains b.ballots u → u.stamp ≡ None → Contains b.early v → v.txn ≡ u.txn → Contains b.votes v

-- a ballot with all votes is decided
abbrev pub Voted : TopologyValue → ℕ → ShardState → Type 0
Voted top node b =
    (u : BegunBallot) → Contains b.ballots u → ((c : ℕ) → Contains u.cohorts c → Contains b.votes (vote_of u.txn (near top node c))) → HasDecision b u.txn

-- a kept ballot with nothing missing is known
abbrev pub Ready : TopologyValue → ℕ → ShardState → Type 0
Ready top node b =
    (r : KeptBallot) → Contains b.kept_ballots r
    → ((c : ℕ) → Contains r.cohorts c → Contains b.notices (vote_of r.txn (near top node c)))
    → ((k : WriterValue) → Contains r.dependencies k → Contains b.met (met_of r.txn k.txn)) → Knows b r.txn

pub record ShardLive (top : TopologyValue) (w : Run) (node : ℕ) (b : ShardState) : Type 0 where
  pub entries : Entries top w node b
  pub counted : EarlyCounted b
  pub voted : Voted top node b
  pub ready : Ready top node b

-- ## Messages

-- what a message rests on
abbrev pub SaysLive : TopologyValue → Run → ℕ → ℕ → Kind → Type 0
SaysLive top w from to (OfPrepare t) = Aside top w to t × AtOrigin top w to t
SaysLive top w from to (OfYes t) = (AtOrigin top w to t ⊎ Knows (w.shards to) t) × Aside top w from t × Leads top w to t × (dc_of top from ≡ dc_of top to)
SaysLive top w from to (OfCommit t) = HasPrepared (w.shards to) t × Aside top w to t
SaysLive top w from to (OfDone t) = to ≡ t.session
SaysLive top w from to (OfReplBegin t) = Away top w to t × (dc_of top to < top.dcs)
SaysLive top w from to (OfReplPart t) = Aside top w to t × Away top w to t × (dc_of top to < top.dcs)
SaysLive top w from to (OfNotify t) = HasKeptPart (w.shards from) t × Leads top w to t × (dc_of top from ≡ dc_of top to)
SaysLive top w from to (OfPrepareRemote t) = HasKeptPart (w.shards to) t × Knows (w.shards from) t × Leads top w from t × (dc_of top from ≡ dc_of top to)
SaysLive top w from to (OfDepCheck dependency waiter) = Leads top w to dependency × (dc_of top to < top.dcs) × WaitsFor top w (dc_of top to) from waiter dependency
SaysLive top w from to (OfDepOk dependency waiter) = WaitsFor top w (dc_of top from) to waiter dependency
SaysLive top w from to (OfRead number) = (number ≤ (w.sessions from).count) × (dc_of top to < top.dcs)
SaysLive top w from to (OfPartNow number) = number ≤ (w.sessions to).count
SaysLive top w from to (OfReadAt number time) = Round (w.sessions from) number time × (dc_of top to < top.dcs)
SaysLive top w from to (OfPartAt number time) = Round (w.sessions to) number time
SaysLive top w from to other = Unit {0}

abbrev pub HasEnded : Run → TxnValue → Type 0
HasEnded w t = (c : Completed) × Contains w.transcript c × (txn_ended c ≡ t)

-- an answer about a dependency was counted: by the ballot that waited for it, or by the move that did
pub data WasCounted (w : Run) (to : ℕ) (waiter dependency : TxnValue) : Type 0 where
  by_ballot : HasKeptBallot (w.shards to) waiter → Contains (w.shards to).met (met_of waiter dependency) → WasCounted w to waiter dependency
  by_move : (b : Submission) → Contains w.submitted b → txn_of b ≡ waiter → (dc : ℕ) → MovesTo dc b.op → NotLeft (w.sessions to) waiter.number dependency
      → WasCounted w to waiter dependency

-- what a handled message left
abbrev pub Acted : TopologyValue → Run → ℕ → ℕ → Kind → Type 0
Acted top w from to (OfBegin t) = Knows (w.shards to) t
Acted top w from to (OfPrepare t) = Knows (w.shards to) t
Acted top w from to (OfYes t) = Contains (w.shards to).votes (vote_of t from) ⊎ Contains (w.shards to).early (vote_of t from) ⊎ HasDecision (w.shards to) t
Acted top w from to (OfCommit t) = Sees (w.shards to).applied t
Acted top w from to (OfDone t) = HasEnded w t
Acted top w from to (OfReplBegin t) = HasKeptBallot (w.shards to) t ⊎ Knows (w.shards to) t
Acted top w from to (OfReplPart t) = HasKeptPart (w.shards to) t ⊎ HasKeptBallot (w.shards to) t ⊎ Knows (w.shards to) t
Acted top w from to (OfNotify t) = Contains (w.shards to).notices (vote_of t from) ⊎ Knows (w.shards to) t
Acted top w from to (OfPrepareRemote t) = Knows (w.shards to) t
Acted top w from to (OfDepCheck dependency waiter) =
    Sent w.sent to from (OfDepOk dependency waiter)
    ⊎ ((k : Asker) × Contains (w.shards to).askers k × (k.dependency ≡ dependency) × (k.waiter ≡ waiter) × (k.from ≡ from))
Acted top w from to (OfDepOk dependency waiter) = WasCounted w to waiter dependency
Acted top w from to (OfRead number) = Sent w.sent to from (OfPartNow number)
Acted top w from to (OfPartNow number) = NotMissing top (w.sessions to) number from
-- it was answered, or it waits, or that round is over
Acted top w from to (OfReadAt number time) =
    Sent w.sent to from (OfPartAt number time) ⊎ HasWait (w.shards to) from number time
    ⊎ ((other : ℕ) × (other ≡ time → ⊥) × Round (w.sessions from) number other)
Acted top w from to (OfPartAt number time) = NotAwaited top (w.sessions to) number from
Acted top w from to other = Unit {0}

-- ## Submissions and sessions

-- a write that was submitted has sent its parts, and its dependencies name submitted writes
pub record SubmissionLive (top : TopologyValue) (w : Run) (b : Submission) (batch : List Change) : Type 0 where
  pub home : b.home < top.dcs
  pub begun : Sent w.sent b.session (lead top b.home batch) (OfBegin (txn_of b))
  pub prepared : (c : ℕ) → Contains (cohorts_of top.shards batch) c → Sent w.sent b.session (shard_node top b.home c) (OfPrepare (txn_of b))
  pub dependencies : (k : WriterValue) → Contains b.dependencies k → Placed top w k

-- what an operation depends on was submitted before it; in the order of submission
abbrev pub Earlier : List Submission → List Submission → Type 0
Earlier before [] = Unit {0}
Earlier before (b ∷ bs) = ((k : WriterValue) → Contains b.dependencies k → (c : Submission) × Contains before c × (txn_of c ≡ k.txn)) × Earlier (before ++ b ∷ []) bs

-- the open read misses some answer, and has asked for each that it misses
pub record FirstLive (top : TopologyValue) (w : Run) (node : ℕ) (missing : ℕ → Type 0) (k : Kind) : Type 0 where
  pub some : (shard : ℕ) × missing shard
  pub asked : (shard : ℕ) → missing shard → Sent w.sent node shard k

-- the open move misses some answer, and has asked for each that it misses, in a data centre that there is
pub record MovingLive (top : TopologyValue) (w : Run) (node : ℕ) (a : SessionState) (dc : ℕ) (left : List WriterValue) : Type 0 where
  pub there : dc < top.dcs
  pub some : (k : WriterValue) × Contains left k
  pub asked : (k : WriterValue) → Contains left k
      → Sent w.sent node (shard_node top dc k.shard) (OfDepCheck k.txn (record { session = node; number = a.count }))

abbrev pub OpenLive : TopologyValue → Run → ℕ → SessionState → Open → Type 0
OpenLive top w node a Idle = Unit {0}
OpenLive top w node a (Writing coordinator) = Unit {0}
OpenLive top w node a (FirstRound read heard) =
    FirstLive top w node (λ shard. is_missing (asked_nodes top a read) heard shard ≡ true) (OfRead a.count)
OpenLive top w node a (SecondRound read time first heard) =
    FirstLive top w node (λ shard. is_missing_at (asked_nodes top a read) time first heard shard ≡ true) (OfReadAt a.count time)
OpenLive top w node a (Moving dc left floor) = MovingLive top w node a dc left

-- the session's operation of this submission is open
pub record StillOpen (w : Run) (b : Submission) : Type 0 where
  pub number : b.number ≡ (w.sessions b.session).count
  pub current : is_idle (w.sessions b.session).current ≡ false

pub record Live (top : TopologyValue) (w : Run) : Type 0 where
  pub shards : (node : ℕ) → ShardLive top w node (w.shards node)
  pub sent : (e : Envelope) → Contains w.sent e → SaysLive top w e.from e.to (kind_of e.body)
  pub acted : (k : ℕ) (e : Envelope) → Contains (handled w) k → slice_get w.sent k ≡ Some e → Acted top w e.from e.to (kind_of e.body)
  pub submitted : (b : Submission) (batch : List Change) → Contains w.submitted b → b.op ≡ op.Batch batch → SubmissionLive top w b batch
  pub earlier : Earlier [] w.submitted
  pub dependencies : (node : ℕ) (k : WriterValue) → Contains (w.sessions node).dependencies k → Placed top w k
  pub homes : (node : ℕ) → (w.sessions node).home < top.dcs
  pub current : (node : ℕ) → OpenLive top w node (w.sessions node) (w.sessions node).current
  pub waiting : (node : ℕ) → Waiting (w.shards node)
  pub rounds : (node : ℕ) (y : WaitingRead) → Contains (w.shards node).waiting y → Round (w.sessions y.session) y.number y.time
  -- a submitted operation is open or has ended
  pub ends : (b : Submission) → Contains w.submitted b → StillOpen w b ⊎ HasEnded w (txn_of b)
