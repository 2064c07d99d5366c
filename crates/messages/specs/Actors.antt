-- One actor, a shard or a session: its step at an event, and the replay of its journal, which is the list of its events.
use Rattle.std.specs.Prelude.{ℕ, if◌then◌else◌, nat_lt, List, [], ◌∷◌, ◌++◌, Option, Some, None, option_map, option_and_then, Result, Ok, Err}
use Rattle.std.specs.List.{cons_option}
use Rattle.std.specs.Option.{unwrap_or}
use Rattle.logical_time.specs.declared.fault.Fault.{Fault}
use Rattle.messages.specs.declared.envelope.Envelope.{Envelope}
use Rattle.messages.specs.declared.outcome.Outcome.{Outcome}
use Rattle.messages.specs.declared.outcome.Outcome.TheVariants as outcome
use Rattle.messages.specs.declared.event.ActorEvent.{ActorEvent}
use Rattle.messages.specs.declared.event.ActorEvent.TheVariants.{Submit, Handle, Collect}
use Rattle.messages.specs.Topology.{TopologyValue, is_shard, home_of}
use Rattle.messages.specs.Shard.{ShardState, ShardStep, new_shard}
use Rattle.messages.specs.Session.{SessionState, SessionStep, Finished, new_session}
use Rattle.messages.specs.ShardEvents.{shard_handle, shard_collect}
use Rattle.messages.specs.SessionEvents.{session_handle, session_taken}
use Rattle.messages.specs.Submitting.{session_submit}

-- the envelope of an event, if it handles one
abbrev pub envelope_of : ActorEvent → Option Envelope
envelope_of (Submit o) = None
envelope_of (Handle e) = Some e
envelope_of (Collect time) = None

pub data ActorState : Type 0 where
  OfShard : (state : ShardState) → ActorState
  OfSession : (state : SessionState) → ActorState

abbrev pub clock_of : ActorState → ℕ
clock_of (OfShard a) = a.clock
clock_of (OfSession a) = a.clock

-- an actor before its first event: a shard, or a session at its first home
abbrev pub opening_actor : TopologyValue → ℕ → ActorState
opening_actor top node =
    if is_shard top node then OfShard new_shard else OfSession (new_session (unwrap_or (home_of top node) 0))

-- An actor after an event, what the event sends, in order, and what it finishes, if it ends an operation. The outcome is
-- taken at the event.
pub record ActorStep : Type 0 where
  pub state : ActorState
  pub sends : List Envelope
  pub finishes : Option Finished

abbrev pub of_shard : Result ShardStep Fault → Option ActorStep
of_shard (Err e) = None
of_shard (Ok s) = Some (record { state = OfShard s.state; sends = s.sends; finishes = None })

abbrev pub of_session : Result SessionStep Fault → Option ActorStep
of_session (Err e) = None
of_session (Ok s) = Some (record { state = OfSession (session_taken s.state); sends = s.sends; finishes = s.state.untaken })

-- the step of an event, unless it is refused or of the other kind of actor
abbrev pub actor_step : TopologyValue → ℕ → ActorState → ActorEvent → Option ActorStep
actor_step top me (OfShard a) (Submit o) = None
actor_step top me (OfShard a) (Handle e) = of_shard (shard_handle top me a e)
actor_step top me (OfShard a) (Collect time) = of_shard (shard_collect a time)
actor_step top me (OfSession a) (Submit o) = of_session (session_submit top me a o)
actor_step top me (OfSession a) (Handle e) = of_session (session_handle top me a e)
actor_step top me (OfSession a) (Collect time) = None

-- an actor after its events, all that they sent and all that they finished, oldest first
pub record Replayed : Type 0 where
  pub state : ActorState
  pub sent : List Envelope
  pub finished : List Finished

-- this step came before the rest
abbrev pub before_rest : ActorStep → Replayed → Replayed
before_rest s r = record { state = r.state; sent = s.sends ++ r.sent; finished = cons_option s.finishes r.finished }

-- what these events make of an actor, in order, if none is refused
abbrev pub replay : TopologyValue → ℕ → ActorState → List ActorEvent → Option Replayed
replay top me a [] = Some (record { state = a; sent = []; finished = [] })
replay top me a (x ∷ xs) = option_and_then (λ (s : ActorStep). option_map (before_rest s) (replay top me s.state xs)) (actor_step top me a x)

-- the replay of a journal, from the actor's opening state
abbrev pub replay_of : TopologyValue → ℕ → List ActorEvent → Option Replayed
replay_of top node journal = replay top node (opening_actor top node) journal

abbrev pub sent_in : Option Replayed → List Envelope
sent_in None = []
sent_in (Some r) = r.sent

-- all that a journal's events send, in order
abbrev pub sent_by : TopologyValue → ℕ → List ActorEvent → List Envelope
sent_by top node journal = sent_in (replay_of top node journal)

abbrev pub finished_in : Option Replayed → List Finished
finished_in None = []
finished_in (Some r) = r.finished

-- all that a journal's events finish, in order: the outcomes of a session
abbrev pub outcomes_by : TopologyValue → ℕ → List ActorEvent → List Finished
outcomes_by top node journal = finished_in (replay_of top node journal)

-- ## Homes

-- the data centre of a session before its first event
abbrev pub opening_home : TopologyValue → ℕ → ℕ
opening_home top node = unwrap_or (home_of top node) 0

-- the home after an outcome: a move's is the new one
abbrev pub home_after : ℕ → Outcome → ℕ
home_after home (outcome.Moved dc floor) = dc
home_after home (outcome.Wrote commit stamp) = home
home_after home (outcome.Read time answer) = home
home_after home outcome.Collected = home

-- the home of a session when it submitted the operation of this number, by its first home and what it finished: where the last
-- move before left it
abbrev pub home_before : ℕ → List Finished → ℕ → ℕ
home_before home [] number = home
home_before home (f ∷ fs) number = home_before (if nat_lt f.number number then home_after home f.outcome else home) fs number
