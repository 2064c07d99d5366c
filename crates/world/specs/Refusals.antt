-- Why events are refused, and lists of events none of which is.
use Rattle.std.specs.Prelude.{◌≡◌, ℕ, if◌then◌else◌, List, ◌∷◌, ◌++◌, slice_get, Option, Some, None, Result, Ok, Err, ◌⊎◌}
use Rattle.logical_time.specs.declared.fault.Fault.{Fault}
use Rattle.logical_time.specs.declared.fault.Fault.TheVariants.{ClockSpent}
use Rattle.messages.specs.declared.op.Op.{Op}
use Rattle.messages.specs.declared.envelope.Envelope.{Envelope}
use Rattle.messages.specs.Topology.{TopologyValue, is_shard, is_session}
use Rattle.messages.specs.Clock.{ticked}
use Rattle.messages.specs.ShardEvents.{shard_handle, shard_collect}
use Rattle.messages.specs.SessionEvents.{session_handle}
use Rattle.messages.specs.Submitting.{submit_fault, session_submit}
use Rattle.world.specs.Run.{Run, RunEvent, Submit, Deliver, Collect, run}

-- its actor refuses the event, no message of this number was sent yet, or the node is no such actor
pub data Refusal : Type 0 where
  Refused : (fault : Fault) → Refusal
  NotSent : Refusal
  NoSuchActor : Refusal

-- an actor's refusal of its step, if it refuses
abbrev pub refused_by : {X : Type 0} → Result X Fault → Option Refusal
refused_by (Err e) = Some (Refused e)
refused_by (Ok s) = None

-- why the delivery of this envelope is refused, if it is
abbrev pub refusal_of_envelope : TopologyValue → Run → Envelope → Option Refusal
refusal_of_envelope top w e =
    if is_shard top e.to then refused_by (shard_handle top e.to (w.shards e.to) e)
    else if is_session top e.to then refused_by (session_handle top e.to (w.sessions e.to) e) else Some NoSuchActor

abbrev pub refusal_of_message : TopologyValue → Run → Option Envelope → Option Refusal
refusal_of_message top w None = Some NotSent
refusal_of_message top w (Some e) = refusal_of_envelope top w e

-- why a run refuses an event, if it does
abbrev pub refusal_of : TopologyValue → Run → RunEvent → Option Refusal
refusal_of top w (Submit node op) = if is_session top node then refused_by (session_submit top node (w.sessions node) op) else Some NoSuchActor
refusal_of top w (Deliver k) = refusal_of_message top w (slice_get w.sent k)
refusal_of top w (Collect node time) = if is_shard top node then refused_by (shard_collect (w.shards node) time) else Some NoSuchActor

-- the clock of the actor with this node
abbrev pub clock_at : TopologyValue → Run → ℕ → ℕ
clock_at top w node = if is_shard top node then (w.shards node).clock else (w.sessions node).clock

-- The reasons of actors: a submission is refused for the session's open operation or for what it asks; if for neither,
-- and any other event at all, only where the actor's clock would leave its range.
pub record HaveReasons (top : TopologyValue) (w : Run) : Type 0 where
  pub submissions : (node : ℕ) (o : Op) (e : Fault) → refusal_of top w (Submit node o) ≡ Some (Refused e)
      → (submit_fault top (w.sessions node) o ≡ Some e)
      ⊎ ((submit_fault top (w.sessions node) o ≡ None)
      × (ticked (w.sessions node).clock (w.sessions node).clock ≡ None) × (e ≡ ClockSpent))
  pub deliveries : (k : ℕ) (e : Fault) → refusal_of top w (Deliver k) ≡ Some (Refused e)
      → (f : Envelope) × (slice_get w.sent k ≡ Some f) × (ticked (clock_at top w f.to) f.time ≡ None) × (e ≡ ClockSpent)
  pub collections : (node time : ℕ) (e : Fault) → refusal_of top w (Collect node time) ≡ Some (Refused e)
      → (ticked (w.shards node).clock (w.shards node).clock ≡ None) × (e ≡ ClockSpent)

-- a list of events none of which is refused by the run of those before it
abbrev pub IsRun : TopologyValue → List RunEvent → Type 0
IsRun top events = (before : List RunEvent) (x : RunEvent) (after : List RunEvent) → events ≡ before ++ x ∷ after → refusal_of top (run top before) x ≡ None
