-- What a request of a session makes of a world, and how it is answered. A session is named by its node.
use Rattle.std.specs.Prelude.{◌≡◌, ℕ, ◌+◌, ◌≤◌, true, false, List, [], ◌∷◌, ◌++◌, Option, Some, None, Result, Ok, Err, Contains, ◌⊎◌}
use Rattle.logical_time.specs.declared.fault.Fault.{Fault}
use Rattle.logical_time.specs.declared.fault.Fault.TheVariants.{Busy, Memory}
use Rattle.messages.specs.declared.op.Op.{Op}
use Rattle.messages.specs.declared.outcome.Outcome.{Outcome}
use Rattle.messages.specs.declared.outcome.Outcome.TheVariants as outcome
use Rattle.slice.specs.declared.read.AnsweredRow.{AnsweredRow}
use Rattle.messages.specs.Topology.{TopologyValue, is_session}
use Rattle.wire.specs.Replies.{Reply}
use Rattle.world.specs.declared.run_event.RunEvent.{RunEvent}
use Rattle.world.specs.declared.run_event.RunEvent.TheVariants.{Submit}
use Rattle.world.specs.declared.completed.Completed.{Completed}
use Rattle.world.specs.Run.{Run, run}
use Rattle.world.specs.Refusals.{Refusal, refusal_of}
use Rattle.world.specs.World.{IsRefusedAs}
use Rattle.drains.specs.Drain.{IsDrained, IsDrainedUntil, LeavesNothing}
use Rattle.service.specs.declared.asking.Unanswered.{Unanswered}
use Rattle.service.specs.declared.asking.Unanswered.TheVariants.{TurnedAway, Untold}
use Rattle.service.specs.declared.port.WorldPort.{WorldPort}

-- ## Submissions

-- why the run of these events refuses the session's operation, if it does
abbrev pub refused_at : TopologyValue → ℕ → Op → List RunEvent → Option Refusal
refused_at top session op events = refusal_of top (run top events) (Submit session op)

-- a drain came first, and all is handled and done
pub record IsReady (top : TopologyValue) (before ready : List RunEvent) : Type 0 where
  pub count : ℕ
  pub drained : IsDrained top before ready count
  pub left : LeavesNothing top ready

-- the drain before the submission delivered as many messages as it may: Busy
pub record IsFull (top : TopologyValue) (before : List RunEvent) (fault : Fault) (after : List RunEvent) : Type 0 where
  pub count : ℕ
  pub drained : IsDrained top before after count
  pub most : 1000000 ≤ count
  pub busy : fault ≡ Busy

-- the operation is submitted, when all is done, and has this number among the session's
pub record IsSubmitted (top : TopologyValue) (session : ℕ) (op : Op) (before : List RunEvent) (number : ℕ) (after : List RunEvent) : Type 0 where
  pub ready : List RunEvent
  pub is_ready : IsReady top before ready
  pub allowed : refused_at top session op ready ≡ None
  pub numbered : number ≡ ((run top ready).sessions session).count + 1
  pub happened : after ≡ ready ++ Submit session op ∷ []

-- when all is done, the submission is refused, as the run refuses it, else for want of memory; so never with Busy
pub record IsDeclined (top : TopologyValue) (session : ℕ) (op : Op) (before : List RunEvent) (fault : Fault) (after : List RunEvent) : Type 0 where
  pub is_ready : IsReady top before after
  pub refused : IsRefusedAs (refused_at top session op after) fault
  pub other : fault ≡ Busy → ⊥

-- The operation isn't submitted: the drain before it was refused, or delivered as many messages as it may, or the submission was
-- refused.
abbrev pub IsTurnedAway : TopologyValue → ℕ → Op → List RunEvent → Fault → List RunEvent → Type 0
IsTurnedAway top session op before fault after = IsDrainedUntil top before after fault ⊎ (IsFull top before fault after ⊎ IsDeclined top session op before fault after)

-- ## Outcomes

-- this is the end of the session's operation of this number
pub record IsEndOf (w : Run) (session number : ℕ) (c : Completed) : Type 0 where
  pub listed : Contains w.transcript c
  pub node : c.node ≡ session
  pub numbered : c.number ≡ number

-- the operation ended so
pub record EndedWith (w : Run) (session number : ℕ) (outcome : Outcome) : Type 0 where
  pub entry : Completed
  pub is_end : IsEndOf w session number entry
  pub outcome_is : entry.outcome ≡ outcome

-- the operation has not ended
abbrev pub IsOpen : Run → ℕ → ℕ → Type 0
IsOpen w session number = (c : Completed) → IsEndOf w session number c → ⊥

-- what came of the operation: it ended so, or has not ended
abbrev pub CameTo : Run → ℕ → ℕ → Option Outcome → Type 0
CameTo w session number None = IsOpen w session number
CameTo w session number (Some outcome) = EndedWith w session number outcome

-- the operation is a read and ended with an answer, and memory was refused for a copy of that
pub record HasNoCopy (w : Run) (session number : ℕ) (fault : Fault) : Type 0 where
  pub time : ℕ
  pub answer : List AnsweredRow
  pub ended : EndedWith w session number (outcome.Read time answer)
  pub memory : fault ≡ Memory

-- ## Answers

-- what was submitted is drained
pub record IsHandled (top : TopologyValue) (session : ℕ) (op : Op) (before : List RunEvent) (number : ℕ) (after : List RunEvent) : Type 0 where
  pub submitted : List RunEvent
  pub is_submitted : IsSubmitted top session op before number submitted
  pub count : ℕ
  pub drained : IsDrained top submitted after count

-- the drain after the submission is refused, and the operation stays open
pub record IsStopped (top : TopologyValue) (session : ℕ) (op : Op) (before : List RunEvent) (fault : Fault) (after : List RunEvent) : Type 0 where
  pub number : ℕ
  pub submitted : List RunEvent
  pub is_submitted : IsSubmitted top session op before number submitted
  pub stopped : IsDrainedUntil top submitted after fault

-- the drain delivered as many messages as it may, and the operation is still open: Busy
pub record IsLeftOpen (top : TopologyValue) (session : ℕ) (op : Op) (before : List RunEvent) (fault : Fault) (after : List RunEvent) : Type 0 where
  pub number : ℕ
  pub handled : IsHandled top session op before number after
  pub still : IsOpen (run top after) session number
  pub most : 1000000 ≤ handled.count
  pub busy : fault ≡ Busy

-- the read is answered, and memory was refused for a copy of the answer
pub record IsUncopied (top : TopologyValue) (session : ℕ) (op : Op) (before : List RunEvent) (fault : Fault) (after : List RunEvent) : Type 0 where
  pub number : ℕ
  pub handled : IsHandled top session op before number after
  pub time : ℕ
  pub answer : List AnsweredRow
  pub ended : EndedWith (run top after) session number (outcome.Read time answer)
  pub memory : fault ≡ Memory

-- the operation was submitted and drained, and ended so
pub record IsAnswered (top : TopologyValue) (session : ℕ) (op : Op) (before : List RunEvent) (result : Outcome) (after : List RunEvent) : Type 0 where
  pub number : ℕ
  pub handled : IsHandled top session op before number after
  pub ended : EndedWith (run top after) session number result

-- the operation was submitted, and there is no outcome of it to tell
abbrev pub IsUntold : TopologyValue → ℕ → Op → List RunEvent → Fault → List RunEvent → Type 0
IsUntold top session op before fault after =
    IsStopped top session op before fault after ⊎ (IsLeftOpen top session op before fault after ⊎ IsUncopied top session op before fault after)

-- A session's request and its answer: the outcome that the transcript has for the operation that it submitted, or why
-- there is none.
abbrev pub Asks : TopologyValue → ℕ → List RunEvent → Op → Reply → List RunEvent → Type 0
Asks top session before op (Ok result) after = IsAnswered top session op before result after
Asks top session before op (Err fault) after = IsTurnedAway top session op before fault after ⊎ IsUntold top session op before fault after

-- the same, where it is told whether the operation was submitted
abbrev pub AsksTelling : TopologyValue → ℕ → List RunEvent → Op → Result Outcome Unanswered → List RunEvent → Type 0
AsksTelling top session before op (Ok result) after = IsAnswered top session op before result after
AsksTelling top session before op (Err (TurnedAway fault)) after = IsTurnedAway top session op before fault after
AsksTelling top session before op (Err (Untold fault)) after = IsUntold top session op before fault after

-- A step of the port: its world and its session stay, and the request is answered on that world.
pub record IsPortStep (old : WorldPort) (op : Op) (answer : Reply) (new : WorldPort) : Type 0 where
  pub same_world : new.world.ghost_name ≡ old.world.ghost_name
  pub session : new.session ≡ old.session
  pub topology : new.world.now.top ≡ old.world.now.top
  pub asks : is_session old.world.now.top old.session ≡ true → Asks old.world.now.top old.session old.world.now.events op answer new.world.now.events
  pub otherwise : is_session old.world.now.top old.session ≡ false → (answer ≡ Err Busy) × (new.world.now ≡ old.world.now)
