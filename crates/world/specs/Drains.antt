-- Why deliveries of what wasn't handled come to an end, and after how many: each handled message is a step down a ladder of
-- ranks, but for decisions, and there are only so many.
use Rattle.std.specs.Prelude.{◌≡◌, ◌≢◌, ℕ, zero, suc, ◌+◌, ◌-◌, ◌*◌, ◌^◌, ◌<◌, ◌≤◌, ◌==◌, max, Bool, true, false, not, if◌then◌else◌, ◌⊎◌, List, [], ◌∷◌, ◌++◌, length, filter, slice_get, Option, Some, None, is_some, Contains}
use Rattle.std.specs.List.{list_any, sum_by}
use Rattle.logical_time.specs.declared.fault.Fault.TheVariants.{ClockSpent}
use Rattle.messages.specs.declared.body.Body.{Body}
use Rattle.messages.specs.declared.body.Body.TheVariants.{Begin, Prepare, Yes, Commit, At, NotBy, Check, Read, ReadAt, ReplBegin, ReplPart, Notify, PrepareRemote, DepCheck, DepOk, Done, PartNow, PartAt}
use Rattle.messages.specs.declared.envelope.Envelope.{Envelope}
use Rattle.messages.specs.declared.op.Op.{Op}
use Rattle.messages.specs.declared.op.Op.TheVariants as op
use Rattle.planner.specs.Plan.{coordinator_of}
use Rattle.messages.specs.Topology.{TopologyValue, shard_of, is_shard, shard_count}
use Rattle.messages.specs.Shard.{ShardState, Decision}
use Rattle.messages.specs.Known.{decision_of}
use Rattle.world.specs.Run.{Run, Submission, Deliver, step}
use Rattle.world.specs.Quiet.{handled, IsQuiet}
use Rattle.world.specs.Lookups.{first_unhandled}
use Rattle.world.specs.Settled.{Settled}
use Rattle.world.specs.Refusals.{Refused, refusal_of, clock_at}

-- ## Ranks

-- How far a message is from those that lead to no other. Beside each stands what handling it sends where nothing is
-- decided, and that stands further down. So only a decision closes a cycle: Commit and ReplBegin go up.
abbrev pub rank : Body → ℕ
rank (Read number read) = 8  -- PartNow
rank (PartNow number rows) = 7  -- ReadAt
rank (ReadAt number time read) = 6  -- Check, PartAt
rank (Check txn time) = 5  -- At, NotBy
rank (At txn commit stamp) = 4  -- ReplPart, PartAt
rank (Commit txn commit stamp) = 4  -- ReplPart, PartAt
rank (ReplBegin cohorts txn rows stamp dependencies) = 4  -- DepCheck, PrepareRemote
rank (ReplPart txn rows stamp coordinator) = 3  -- Notify
rank (DepCheck dependency waiter) = 3  -- DepOk
rank (Notify txn) = 2  -- PrepareRemote
rank (DepOk dependency waiter commit) = 2  -- PrepareRemote
rank (PrepareRemote txn) = 1  -- Yes
rank (Prepare txn rows coordinator) = 1  -- Yes
rank (NotBy txn time) = 1  -- PartAt
rank (Begin txn rows cohorts dependencies) = 0
rank (Yes txn) = 0
rank (Done txn commit stamp) = 0
rank (PartAt number time answer) = 0

-- all of these are of a lower rank
abbrev pub AreLower : ℕ → List Envelope → Type 0
AreLower r sends = (e : Envelope) → Contains sends e → rank e.body < r

-- ## Decisions

-- the sum of what this gives of each of the first so many nodes
abbrev pub total : (ℕ → ℕ) → ℕ → ℕ
total f zero = 0
total f (suc n) = total f n + f n

-- how many decisions all shards took
abbrev pub decisions_taken : TopologyValue → Run → ℕ
decisions_taken top w = total (λ node. length (w.shards node).decided) (shard_count top)

-- whether the shard with this node coordinates the operation in its data centre: a batch whose first row is its
abbrev pub is_led : TopologyValue → ℕ → Op → Bool
is_led top node (op.Batch batch) = coordinator_of top.shards batch == shard_of top node
is_led top node (op.Read read) = false
is_led top node (op.Move dc) = false

-- how many decisions all shards can take: of each submitted batch one in each data centre
abbrev pub decisions_to_take : TopologyValue → List Submission → ℕ
decisions_to_take top submitted = total (λ node. length (filter (λ s. is_led top node s.op) submitted)) (shard_count top)

-- one shard has one decision more, and no other has another
pub record HasOneMore (top : TopologyValue) (before after : Run) : Type 0 where
  pub node : ℕ
  pub is_one : is_shard top node ≡ true
  pub decision : Decision
  pub here : (after.shards node).decided ≡ (before.shards node).decided ++ decision ∷ []
  pub others : (m : ℕ) → m ≢ node → (after.shards m).decided ≡ (before.shards m).decided

-- each shard has the same decisions
abbrev pub HasSame : Run → Run → Type 0
HasSame before after = (m : ℕ) → (after.shards m).decided ≡ (before.shards m).decided

-- ## Deliveries

-- The message of this number was delivered and handled: then one shard has one decision more, or none has another and all
-- that is sent is of a lower rank.
pub record ComesNearer (top : TopologyValue) (before after : Run) (k : ℕ) (e : Envelope) : Type 0 where
  pub handled : handled after ≡ handled before ++ k ∷ []
  pub sends : List Envelope
  pub sent : after.sent ≡ before.sent ++ sends
  pub nearer : HasOneMore top before after ⊎ (HasSame before after × AreLower (rank e.body) sends)

-- its delivery is refused, since it would take the receiver's clock out of its range
pub record MeetsSpentClock (top : TopologyValue) (w : Run) (k : ℕ) (e : Envelope) : Type 0 where
  pub refused : refusal_of top w (Deliver k) ≡ Some (Refused ClockSpent)
  pub spent : 2 ^ 48 ≤ max (clock_at top w e.to) e.time + 1

-- each message that was sent, whether handled before or not
abbrev pub DeliveriesComeNearer : TopologyValue → Run → Type 0
DeliveriesComeNearer top w = (k : ℕ) (e : Envelope) → slice_get w.sent k ≡ Some e → ComesNearer top w (step top w (Deliver k)) k e ⊎ MeetsSpentClock top w k e

-- no more decisions are taken than there are
abbrev pub DecisionsAreCapped : TopologyValue → Run → Type 0
DecisionsAreCapped top w = decisions_taken top w ≤ decisions_to_take top w.submitted

-- ## Clocks

-- each event moves a clock, so no clock and no time of a message is above the number of events
pub record ClocksCountEvents (w : Run) : Type 0 where
  pub shards : (node : ℕ) → (w.shards node).clock ≤ length w.events
  pub sessions : (node : ℕ) → (w.sessions node).clock ≤ length w.events
  pub messages : (e : Envelope) → Contains w.sent e → e.time ≤ length w.events

-- ## Costs

-- what the costs of messages depend on beside the topology: how many operations were submitted, and how many transactions
-- one of them depends on at most
pub record Sizes : Type 0 where
  pub operations : ℕ
  pub dependencies : ℕ

-- the longest list of dependencies of a submission
abbrev pub most_dependencies : List Submission → ℕ
most_dependencies [] = 0
most_dependencies (s ∷ ss) = max (length s.dependencies) (most_dependencies ss)

abbrev pub sizes_of : List Submission → Sizes
sizes_of submitted = record { operations = length submitted; dependencies = most_dependencies submitted }

-- Notify, DepOk: the last one that was missing sends PrepareRemote to each cohort, and each of these sends Yes
abbrev pub cost_of_notice : TopologyValue → ℕ
cost_of_notice top = 1 + top.shards * 2

-- ReplPart, DepCheck: one of them
abbrev pub cost_of_part : TopologyValue → ℕ
cost_of_part top = 1 + cost_of_notice top

-- Commit, At: a ReplPart to each other data centre
abbrev pub cost_of_commit : TopologyValue → ℕ
cost_of_commit top = 1 + top.dcs * cost_of_part top

-- Check: one At
abbrev pub cost_of_check : TopologyValue → ℕ
cost_of_check top = 1 + cost_of_commit top

-- ReadAt: a Check for each transaction, and in the end PartAt
abbrev pub cost_of_read_at : TopologyValue → Sizes → ℕ
cost_of_read_at top s = 2 + s.operations * cost_of_check top

-- PartNow: a ReadAt to each shard
abbrev pub cost_of_part_now : TopologyValue → Sizes → ℕ
cost_of_part_now top s = 1 + top.shards * cost_of_read_at top s

-- ReplBegin with so many dependencies: a DepCheck for each, and PrepareRemote to each cohort
abbrev pub cost_of_ballot : TopologyValue → ℕ → ℕ
cost_of_ballot top dependencies = 1 + top.shards * 2 + dependencies * cost_of_part top

-- How many deliveries a message leads to at most until something is decided, its own included. What waits for it on a shard
-- is counted there.
abbrev pub cost : TopologyValue → Sizes → Body → ℕ
cost top s (Read number read) = 1 + cost_of_part_now top s
cost top s (PartNow number rows) = cost_of_part_now top s
cost top s (ReadAt number time read) = cost_of_read_at top s
cost top s (Check txn time) = cost_of_check top
cost top s (At txn commit stamp) = cost_of_commit top
cost top s (Commit txn commit stamp) = cost_of_commit top
cost top s (ReplBegin cohorts txn rows stamp dependencies) = cost_of_ballot top (length dependencies)
cost top s (ReplPart txn rows stamp coordinator) = cost_of_part top
cost top s (DepCheck dependency waiter) = cost_of_part top
cost top s (Notify txn) = cost_of_notice top
cost top s (DepOk dependency waiter commit) = cost_of_notice top
cost top s (PrepareRemote txn) = 2
cost top s (Prepare txn rows coordinator) = 2
cost top s (NotBy txn time) = 1
cost top s (Begin txn rows cohorts dependencies) = 1
cost top s (Yes txn) = 1
cost top s (Done txn commit stamp) = 1
cost top s (PartAt number time answer) = 1

abbrev pub cost_of_all : TopologyValue → Sizes → List Envelope → ℕ
cost_of_all top s sends = sum_by (λ e. cost top s e.body) sends

-- a decision: Commit to each cohort, Done, and ReplBegin to each other data centre
abbrev pub cost_of_decision : TopologyValue → Sizes → ℕ
cost_of_decision top s = 1 + top.shards * cost_of_commit top + top.dcs * cost_of_ballot top s.dependencies

-- ## A bound

-- what the messages cost that are numbered from here on and weren't handled
abbrev pub cost_of_unhandled : TopologyValue → Sizes → List ℕ → ℕ → List Envelope → ℕ
cost_of_unhandled top s handled k [] = 0
cost_of_unhandled top s handled k (e ∷ es) =
    (if list_any (λ j. j == k) handled then 0 else cost top s e.body) + cost_of_unhandled top s handled (k + 1) es

-- What a shard will still send: PartAt to each read that waits, and DepOk to each that asked for what isn't decided
abbrev pub cost_of_waiting : TopologyValue → ShardState → ℕ
cost_of_waiting top a =
    length a.waiting + length (filter (λ k. not (is_some (decision_of k.dependency a))) a.askers) * cost_of_notice top

-- How many deliveries of what wasn't handled can follow at most, in whatever order: by the messages that weren't handled,
-- what waits on shards, and the decisions that are left.
abbrev pub deliveries_left : TopologyValue → Run → ℕ
deliveries_left top w =
    cost_of_unhandled top (sizes_of w.submitted) (handled w) 0 w.sent + total (λ node. cost_of_waiting top (w.shards node)) (shard_count top)
    + (decisions_to_take top w.submitted - decisions_taken top w) * cost_of_decision top (sizes_of w.submitted)

-- ## Drains

-- a run with this message delivered, if there is one
abbrev pub with_delivered : TopologyValue → Run → Option ℕ → Run
with_delivered top w None = w
with_delivered top w (Some k) = step top w (Deliver k)

-- so many deliveries at most, each of the first message that wasn't handled then
abbrev pub drained : TopologyValue → ℕ → Run → Run
drained top zero w = w
drained top (suc n) w = drained top n (with_delivered top w (first_unhandled w))

-- A drain has ended: all is handled and done, by no more deliveries than were left
pub record HasEnded (top : TopologyValue) (before after : Run) : Type 0 where
  pub quiet : IsQuiet after
  pub settled : Settled top after
  pub deliveries : length after.events ≤ length before.events + deliveries_left top before

-- as long as clocks have room for them, so many deliveries as are left are enough, and so are more
abbrev pub DrainsEnd : TopologyValue → Run → Type 0
DrainsEnd top w =
    (n : ℕ) → deliveries_left top w ≤ n → length w.events + deliveries_left top w < 2 ^ 48 → HasEnded top w (drained top n w)

-- as long as clocks have room for them, none of these deliveries is refused
abbrev pub DeliveriesAreAllowed : TopologyValue → Run → Type 0
DeliveriesAreAllowed top w =
    (k : ℕ) → k < length w.sent → (Contains (handled w) k → ⊥) → length w.events + deliveries_left top w < 2 ^ 48
    → refusal_of top w (Deliver k) ≡ None

-- each of them leaves fewer, whichever it is
abbrev pub DeliveriesLeaveFewer : TopologyValue → Run → Type 0
DeliveriesLeaveFewer top w =
    (k : ℕ) → k < length w.sent → (Contains (handled w) k → ⊥) → refusal_of top w (Deliver k) ≡ None
    → deliveries_left top (step top w (Deliver k)) < deliveries_left top w
