-- When a shard or a session came from a journal: where stamps stay apart, it stands for the journal's replay. And with which
-- fault it refuses an event then.
use Rattle.std.specs.Prelude.{◌≡◌, ℕ, Bool, true, false, not, List, [], ◌∷◌, ◌++◌, map, Option, Some, None, option_to_list, Result, Ok, Err}
use Rattle.logical_time.specs.declared.fault.Fault.{Fault}
use Rattle.logical_time.specs.declared.fault.Fault.TheVariants.{StrangerEnd}
use Rattle.store.specs.Keeps.{AreApart}
use Rattle.messages.specs.declared.envelope.Envelope.{Envelope}
use Rattle.messages.specs.declared.outcome.Outcome.{Outcome}
use Rattle.messages.specs.declared.event.ActorEvent.{ActorEvent}
use Rattle.messages.specs.declared.event.ActorEvent.TheVariants.{Submit, Handle, Collect}
use Rattle.messages.specs.Topology.{TopologyValue, is_shard}
use Rattle.messages.specs.Session.{Finished, is_idle}
use Rattle.messages.specs.ShardEvents.{shard_handle, shard_collect}
use Rattle.messages.specs.SessionEvents.{session_handle}
use Rattle.messages.specs.Submitting.{session_submit}
use Rattle.messages.specs.Actors.{ActorState, OfShard, OfSession, Replayed, replay_of}
use Rattle.shard.specs.Kept as shard
use Rattle.client.specs.Represents as session
use Rattle.client.specs.Current.{open_of}
use Rattle.client.specs.State.{finished_of}
use Rattle.actors.specs.Journals.{submissions}
use Rattle.threaded.specs.declared.actor.Actor.{Actor}
use Rattle.threaded.specs.declared.actor.Actor.TheVariants as actor

-- ## What is asked of stamps

-- The parts that a shard applied are in normal form and have their stamps apart. Nothing is asked of a session.
abbrev pub HasPartsApart : ActorState → Type 0
HasPartsApart (OfShard a) = AreApart a.applied
HasPartsApart (OfSession a) = Unit {0}

-- so it is wherever the replay of a journal comes
abbrev pub StaysApart : TopologyValue → ℕ → List ActorEvent → Type 0
StaysApart top node journal =
    (before after : List ActorEvent) (r : Replayed) → journal ≡ before ++ after → replay_of top node before ≡ Some r → HasPartsApart r.state

-- ## What a machine keeps

-- whether it is a shard
abbrev pub is_of_shard : Actor → Bool
is_of_shard (actor.Shard k) = true
is_of_shard (actor.Session k waits ended) = false

-- the outcome that wasn't taken yet, with the number of its operation
abbrev pub untaken_of : Actor → Option (ℕ × Outcome)
untaken_of (actor.Shard k) = None
untaken_of (actor.Session k waits ended) = ended

-- a shard is always free for an event, a session while it waits for no operation
abbrev pub is_free : Actor → Bool
is_free (actor.Shard k) = true
is_free (actor.Session k waits ended) = not waits

-- A session waits exactly while an operation of it is open, and keeps no outcome beside the one that wasn't taken.
abbrev pub WaitsAsOpen : Actor → Type 0
WaitsAsOpen (actor.Shard k) = Unit {0}
WaitsAsOpen (actor.Session k waits ended) = (waits ≡ not (is_idle (open_of k.current))) × (k.untaken ≡ None)

-- no operation of the actor is open
abbrev pub has_none_open : ActorState → Bool
has_none_open (OfShard a) = true
has_none_open (OfSession a) = is_idle a.current

-- how many operations it accepted
abbrev pub accepted_by : Actor → ℕ
accepted_by (actor.Shard k) = 0
accepted_by (actor.Session k waits ended) = k.count

-- what it keeps stands for this state of the actor with a node
abbrev pub Stands : TopologyValue → ℕ → Actor → ActorState → Type 0
Stands top node (actor.Shard k) (OfShard a) = shard.Represents top node k a
Stands top node (actor.Shard k) (OfSession a) = ⊥
Stands top node (actor.Session k waits ended) (OfShard a) = ⊥
Stands top node (actor.Session k waits ended) (OfSession a) = (k.node ≡ node) × session.Represents k top a

-- ## What a journal made of it

-- an outcome with the number of its operation, as a replay tells it
abbrev pub as_finished : (ℕ × Outcome) → Finished
as_finished p = record { number = p.0; outcome = p.1 }

-- The machine stands for where the replay of the journal leads, and is free where no operation is open there; what that sent is
-- what was sent, in order; and what it finished are the outcomes that were taken, and then the one that wasn't.
pub record IsReplay (top : TopologyValue) (node : ℕ) (journal : List ActorEvent) (sent : List Envelope) (outcomes : List (ℕ × Outcome))
    (machine : Actor) : Type 0 where
  pub replay : Replayed
  pub replays : replay_of top node journal ≡ Some replay
  pub stands : Stands top node machine replay.state
  pub free : is_free machine ≡ has_none_open replay.state
  pub sends : sent ≡ replay.sent
  pub finishes : replay.finished ≡ map as_finished outcomes ++ option_to_list (finished_of (untaken_of machine))

-- The machine came from the journal of the actor with a node. No event of it was refused: where stamps stay apart up to an
-- event, the replay goes on with that. Where they stay apart to the end, the machine is its replay.
pub record CameFrom (top : TopologyValue) (node : ℕ) (journal : List ActorEvent) (sent : List Envelope) (outcomes : List (ℕ × Outcome))
    (machine : Actor) : Type 0 where
  pub kind : is_shard top node ≡ is_of_shard machine
  pub accepted : accepted_by machine ≡ submissions journal
  pub waits : WaitsAsOpen machine
  pub goes : (before : List ActorEvent) (x : ActorEvent) (after : List ActorEvent) → journal ≡ before ++ x ∷ after → StaysApart top node before
      → (r : Replayed) × (replay_of top node (before ++ x ∷ []) ≡ Some r)
  pub comes : StaysApart top node journal → IsReplay top node journal sent outcomes machine

-- ## What it refuses then

abbrev pub fault_of : {X : Type 0} → Result X Fault → Option Fault
fault_of (Ok x) = None
fault_of (Err e) = Some e

-- With which fault an actor in a state refuses an event, if it does: as its step is refused by the protocol, and with
-- `StrangerEnd` what is for the other kind of actor.
abbrev pub refusal_at : TopologyValue → ℕ → ActorState → ActorEvent → Option Fault
refusal_at top node (OfShard a) (Submit o) = Some StrangerEnd
refusal_at top node (OfShard a) (Handle e) = fault_of (shard_handle top node a e)
refusal_at top node (OfShard a) (Collect time) = fault_of (shard_collect a time)
refusal_at top node (OfSession a) (Submit o) = fault_of (session_submit top node a o)
refusal_at top node (OfSession a) (Handle e) = fault_of (session_handle top node a e)
refusal_at top node (OfSession a) (Collect time) = Some StrangerEnd

-- the event is for the other kind of actor
abbrev pub is_strange : TopologyValue → ℕ → ActorEvent → Bool
is_strange top node (Submit o) = is_shard top node
is_strange top node (Handle e) = false
is_strange top node (Collect time) = not (is_shard top node)

-- After a journal the actor with a node refuses an event with this fault: with `StrangerEnd` what is for the other kind of
-- actor, and, where stamps stay apart, as the state to which the journal's replay leads refuses it. Nothing is asked of a
-- session's.
pub record Refuses (top : TopologyValue) (node : ℕ) (journal : List ActorEvent) (event : ActorEvent) (fault : Fault) : Type 0 where
  pub stranger : is_strange top node event ≡ true → fault ≡ StrangerEnd
  pub refused : StaysApart top node journal
      → (r : Replayed) × (replay_of top node journal ≡ Some r) × (refusal_at top node r.state event ≡ Some fault)
