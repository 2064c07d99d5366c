-- Journals: each actor's own events in a run, and when journals are those of a run.
use Rattle.std.specs.Prelude.{◌≡◌, ℕ, ◌<◌, ◌^◌, ◌==◌, if◌then◌else◌, List, [], ◌∷◌, ◌++◌, map, filter, filter_map, slice_get, Option, Some, None, option_map, option_and_then, AllPairs, Contains}
use Rattle.std.specs.Option.{unwrap_or}
use Rattle.messages.specs.declared.envelope.Envelope.{Envelope}
use Rattle.messages.specs.declared.event.ActorEvent.{ActorEvent}
use Rattle.messages.specs.declared.event.ActorEvent.TheVariants.{Submit as SubmitHere, Handle, Collect as CollectHere}
use Rattle.messages.specs.Topology.{TopologyValue, is_shard, node_count}
use Rattle.messages.specs.Session.{Finished}
use Rattle.messages.specs.Actors.{ActorState, OfShard, OfSession, clock_of, opening_actor, ActorStep, actor_step, envelope_of, Replayed, replay_of, sent_by}
use Rattle.world.specs.Run.{Run, Completed, RunEvent, Submit, Deliver, Collect, run}
use Rattle.world.specs.Refusals.{IsRun}

-- ## The actors of every run

-- the actor with this node in a run
abbrev pub actor_in : TopologyValue → Run → ℕ → ActorState
actor_in top w node = if is_shard top node then OfShard (w.shards node) else OfSession (w.sessions node)

-- what an event of a run is to the actor with this node, if it is one of its events
abbrev pub event_at : Run → ℕ → RunEvent → Option ActorEvent
event_at w node (Submit session o) = if session == node then Some (SubmitHere o) else None
event_at w node (Deliver k) = option_and_then (λ (e : Envelope). if e.to == node then Some (Handle e) else None) (slice_get w.sent k)
event_at w node (Collect shard time) = if shard == node then Some (CollectHere time) else None

-- the journal of an actor in a run: its events, oldest first
abbrev pub journal_in : Run → ℕ → List ActorEvent
journal_in w node = filter_map (event_at w node) w.events

-- an entry of the transcript, as its session has it
abbrev pub finished_as : Completed → Finished
finished_as c = record { number = c.number; outcome = c.outcome }

-- what a run has from the node of an actor, in order
abbrev pub sent_from : Run → ℕ → List Envelope
sent_from w node = filter (λ (e : Envelope). e.from == node) w.sent

-- what the transcript has of an actor, in order
abbrev pub ended_at : Run → ℕ → List Finished
ended_at w node = map finished_as (filter (λ (c : Completed). c.node == node) w.transcript)

-- what a run has of an actor: its state, all that it sent and all that it finished
abbrev pub held_in : TopologyValue → Run → ℕ → Replayed
held_in top w node = record { state = actor_in top w node; sent = sent_from w node; finished = ended_at w node }

-- what the run has of the actor is the replay of its own journal there
abbrev pub IsItsJournal : TopologyValue → Run → ℕ → Type 0
IsItsJournal top w node = replay_of top node (journal_in w node) ≡ Some (held_in top w node)

-- The clock rises, and stays a time. What is sent is from this node, at the clock after the event; what is handled is older.
pub record Ticks (me : ℕ) (a : ActorState) (x : ActorEvent) (s : ActorStep) : Type 0 where
  pub rises : clock_of a < clock_of s.state
  pub bounded : clock_of s.state < 2 ^ 48
  pub sends : (e : Envelope) → Contains s.sends e → (e.from ≡ me) × (e.time ≡ clock_of s.state)
  pub handled : (e : Envelope) → x ≡ Handle e → e.time < clock_of s.state

-- each step of the actor keeps time so
abbrev pub KeepsTime : TopologyValue → ℕ → Type 0
KeepsTime top me = (a : ActorState) (x : ActorEvent) (s : ActorStep) → actor_step top me a x ≡ Some s → Ticks me a x s

-- the clocks of an actor after each of these events, up to one that is refused
abbrev pub clocks_from : TopologyValue → ℕ → ActorState → List ActorEvent → List ℕ
clocks_from top me a [] = []
clocks_from top me a (x ∷ xs) =
    unwrap_or (option_map (λ (s : ActorStep). clock_of s.state ∷ clocks_from top me s.state xs) (actor_step top me a x)) []

-- along a journal the clock rises
abbrev pub ClocksRise : TopologyValue → ℕ → Type 0
ClocksRise top me = (journal : List ActorEvent) → AllPairs (λ m n. m < n) (clocks_from top me (opening_actor top me) journal)

-- ## Journals that are a run

-- The journals, one for each node, are those of the run of these events: none of its events is refused, and each actor's
-- journal in it is exactly that node's.
pub record IsRunOf (top : TopologyValue) (journals : ℕ → List ActorEvent) (events : List RunEvent) : Type 0 where
  pub is_run : IsRun top events
  pub each : (node : ℕ) → node < node_count top → journal_in (run top events) node ≡ journals node

-- Journals are a threaded run: there is a run whose journals they are
abbrev pub IsThreadedRun : TopologyValue → (ℕ → List ActorEvent) → Type 0
IsThreadedRun top journals = (events : List RunEvent) × IsRunOf top journals events

-- each journal replays without a refusal
abbrev pub DoReplay : TopologyValue → (ℕ → List ActorEvent) → Type 0
DoReplay top journals = (node : ℕ) → node < node_count top → (r : Replayed) × (replay_of top node (journals node) ≡ Some r)

-- an envelope that a journal handles is for its node, and was sent by the journal of an actor
pub record IsReceived (top : TopologyValue) (journals : ℕ → List ActorEvent) (node : ℕ) (e : Envelope) : Type 0 where
  pub here : e.to ≡ node
  pub sender : e.from < node_count top
  pub sent : Contains (sent_by top e.from (journals e.from)) e

-- The journals fit together: each replays without a refusal, and what each handles was sent.
pub record DoFit (top : TopologyValue) (journals : ℕ → List ActorEvent) : Type 0 where
  pub replays : DoReplay top journals
  pub received : (node : ℕ) (e : Envelope) → node < node_count top → Contains (journals node) (Handle e) → IsReceived top journals node e

-- ## Links

-- what a journal handled from this node, in order
abbrev pub receipts_from : ℕ → List ActorEvent → List Envelope
receipts_from node journal = filter (λ (e : Envelope). e.from == node) (filter_map envelope_of journal)

-- what was sent to this node, in order
abbrev pub sends_to : ℕ → List Envelope → List Envelope
sends_to node sent = filter (λ (e : Envelope). e.to == node) sent

-- the first list is a beginning of the second
abbrev pub IsBeginning : {X : Type 0} → List X → List X → Type 0
IsBeginning {X} xs ys = (more : List X) × (ys ≡ xs ++ more)

-- The journals fit link by link: each replays without a refusal, what each handles is from an actor, and on each link the
-- receipts are a beginning of what the sender's journal sent to that node.
pub record DoLinksFit (top : TopologyValue) (journals : ℕ → List ActorEvent) : Type 0 where
  pub replays : DoReplay top journals
  pub senders : (node : ℕ) (e : Envelope) → node < node_count top → Contains (journals node) (Handle e) → e.from < node_count top
  pub begins : (from to : ℕ) → from < node_count top → to < node_count top
      → IsBeginning (receipts_from from (journals to)) (sends_to to (sent_by top from (journals from)))
