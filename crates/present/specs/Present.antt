-- When what is kept is the present of a run: its actors, and the messages that weren't handled.
use Rattle.std.specs.Prelude.{◌≡◌, ℕ, ◌+◌, true, List, ◌∷◌, [], ◌++◌, length, slice_get, Option, Some, None, Result, Ok, Err}
use Rattle.std.specs.List.{range_with_len}
use Rattle.messages.specs.declared.envelope.Envelope.{Envelope}
use Rattle.messages.specs.Topology.{TopologyValue, shard_count, is_topology}
use Rattle.logical_time.specs.declared.fault.Fault.{Fault}
use Rattle.messages.specs.declared.outcome.Outcome.{Outcome}
use Rattle.messages.specs.Session.{SessionState, SessionStep}
use Rattle.messages.specs.SessionEvents.{session_taken}
use Rattle.client.specs.declared.kept.SessionKept.{SessionKept}
use Rattle.client.specs.Represents as session
use Rattle.client.specs.State.{finished_of}
use Rattle.world.specs.declared.run_event.RunEvent.{RunEvent}
use Rattle.world.specs.declared.completed.Completed.{Completed}
use Rattle.world.specs.Run.{Run, with_actor, step, run}
use Rattle.world.specs.Holds.{AreShards}
use Rattle.world.specs.Refusals.{refusal_of}
use Rattle.world.specs.Quiet.{handled}
use Rattle.present.specs.declared.actors.Actors.{Actors}
use Rattle.present.specs.declared.ended.Ended.{Ended}
use Rattle.present.specs.Waiting.{waiting_of}

-- the session stands for the state of this node
pub record IsAt (top : TopologyValue) (states : ℕ → SessionState) (me : ℕ) (k : SessionKept) : Type 0 where
  pub stands : session.Represents k top (states me)
  pub node : k.node ≡ me

-- the sessions stand for these states, each by its node: these follow each other from this one on
abbrev pub AreSessions : TopologyValue → ℕ → (ℕ → SessionState) → List SessionKept → Type 0
AreSessions top from states kept = (i : ℕ) (k : SessionKept) → slice_get kept i ≡ Some k → IsAt top states (from + i) k

-- One session did this step, and its outcome was taken, and no other changed; what it sends was added.
abbrev pub DidSession : TopologyValue → ℕ → (ℕ → SessionState) → ℕ → Result SessionStep Fault → List SessionKept → List Envelope → List Envelope → Option (ℕ × Outcome) → Type 0
DidSession top from states place (Ok s) kept before after told =
    AreSessions top from (with_actor states (from + place) (session_taken s.state)) kept × (after ≡ before ++ s.sends) × (finished_of told ≡ s.state.untaken)
DidSession top from states place (Err e) kept before after told = ⊥

-- Messages were handled in the order of sending, each once, and these are left.
pub record AreLeft (w : Run) (left : List Envelope) : Type 0 where
  pub past : List Envelope
  pub sent : w.sent ≡ past ++ left
  pub handled : handled w ≡ range_with_len 0 (length past)

-- These actors of the topology, and what waits, are the present of the run.
pub record IsPresentOf (top : TopologyValue) (w : Run) (a : Actors) : Type 0 where
  pub topology : a.topology ≡ top
  pub sound : is_topology top.dcs top.shards top.homes ≡ true
  pub shards : AreShards top w.shards a.shards.items
  pub count : length a.sessions.items ≡ length top.homes
  pub sessions : AreSessions top (shard_count top) w.sessions a.sessions.items
  pub left : AreLeft w (waiting_of a.waiting)

-- the run of these events doesn't refuse this one, and the actors are the present of the run with it
pub record HasTaken (top : TopologyValue) (events : List RunEvent) (x : RunEvent) (a : Actors) : Type 0 where
  pub allowed : refusal_of top (run top events) x ≡ None
  pub present : IsPresentOf top (step top (run top events) x) a

-- What is kept is the present of the run of these events, of which it refuses none.
pub record Holds (top : TopologyValue) (told : List RunEvent) (a : Actors) : Type 0 where
  pub events : (run top told).events ≡ told
  pub present : IsPresentOf top (run top told) a

-- what a session finished, as it is told
abbrev pub ended_of : ℕ → Option (ℕ × Outcome) → Option Ended
ended_of session None = None
ended_of session (Some p) = Some (record { session = session; number = p.0; outcome = p.1 })

-- what an event ended is the transcript's last entry after it
abbrev pub IsEnd : Run → Run → Option Ended → Type 0
IsEnd before after None = after.transcript ≡ before.transcript
IsEnd before after (Some x) =
    (c : Completed) × (after.transcript ≡ before.transcript ++ c ∷ []) × (c.node ≡ x.session) × (c.number ≡ x.number) × (c.outcome ≡ x.outcome)
