-- What a script asks of each actor, and when an actor did it.
use Rattle.std.specs.Prelude.{◌≡◌, ℕ, ◌+◌, ◌==◌, if◌then◌else◌, List, [], ◌∷◌, ◌++◌, filter, filter_map, Option, Some, None, option_map, option_to_list}
use Rattle.std.specs.Option.{is_none}
use Rattle.logical_time.specs.declared.fault.Fault.{Fault}
use Rattle.messages.specs.declared.op.Op.{Op}
use Rattle.messages.specs.declared.op.Op.TheVariants.{Batch, Read, Move}
use Rattle.messages.specs.declared.event.ActorEvent.{ActorEvent}
use Rattle.messages.specs.declared.event.ActorEvent.TheVariants as event
use Rattle.messages.specs.Topology.{TopologyValue}
use Rattle.messages.specs.Submitting.{plan_fault}
use Rattle.messages.specs.Actors.{envelope_of, opening_home}
use Rattle.actors.specs.Journals.{submissions}
use Rattle.actors.specs.Seats.{SeatValue}
use Rattle.workload.specs.declared.script.ScriptEvent.{ScriptEvent}
use Rattle.workload.specs.declared.script.ScriptEvent.TheVariants.{Submit, Deliver, Collect, Drain}
use Rattle.workload.specs.declared.script.Script.{Script}

-- what an event of a script asks of the actor with a node, if it asks it for something; deliveries and drains are left to the
-- threads
abbrev pub asked_by : ℕ → ScriptEvent → Option ActorEvent
asked_by node (Submit session o) = if session == node then Some (event.Submit o) else None
asked_by node (Deliver number) = None
asked_by node (Collect shard time) = if shard == node then Some (event.Collect time) else None
asked_by node Drain = None

-- what these events ask of it, in order
abbrev pub asked_in : ℕ → List ScriptEvent → List ActorEvent
asked_in node events = filter_map (asked_by node) events

abbrev pub asked_of : Script → ℕ → List ActorEvent
asked_of s node = asked_in node s.events

-- why it is refused for what it asks, if it is: an operation as that of a session that is at this home then
abbrev pub fault_of : TopologyValue → ℕ → ActorEvent → Option Fault
fault_of top home (event.Submit o) = plan_fault top home o
fault_of top home (event.Handle e) = None
fault_of top home (event.Collect time) = None

-- the home after an operation that is accepted
abbrev pub home_by : ℕ → Op → ℕ
home_by home (Batch batch) = home
home_by home (Read read) = home
home_by home (Move dc) = dc

-- the home after what was asked, by whether it is refused
abbrev pub home_if : Option Fault → ℕ → ActorEvent → ℕ
home_if (Some f) home x = home
home_if None home (event.Submit o) = home_by home o
home_if None home (event.Handle e) = home
home_if None home (event.Collect time) = home

abbrev pub home_next : TopologyValue → ℕ → ActorEvent → ℕ
home_next top home x = home_if (fault_of top home x) home x

-- the home after all of this
abbrev pub home_through : TopologyValue → ℕ → List ActorEvent → ℕ
home_through top home [] = home
home_through top home (x ∷ xs) = home_through top (home_next top home x) xs

-- what is asked, if it isn't refused
abbrev pub accepted_one : TopologyValue → ℕ → ActorEvent → List ActorEvent
accepted_one top home x = if is_none (fault_of top home x) then x ∷ [] else []

-- those that aren't refused, in order, where this is the home before the first
abbrev pub accepted_of : TopologyValue → ℕ → List ActorEvent → List ActorEvent
accepted_of top home [] = []
accepted_of top home (x ∷ xs) = accepted_one top home x ++ accepted_of top (home_next top home x) xs

-- the refusals of the others, where so many operations were accepted before: each with how many were until there
abbrev pub refusals_from : TopologyValue → ℕ → ℕ → List ActorEvent → List (ℕ × Fault)
refusals_from top home count [] = []
refusals_from top home count (x ∷ xs) =
    option_to_list (option_map (λ f. (count, f)) (fault_of top home x))
    ++ refusals_from top (home_next top home x) (count + submissions (accepted_one top home x)) xs

-- the events of a journal that no message brought, in order
abbrev pub own_events : List ActorEvent → List ActorEvent
own_events journal = filter (λ x. is_none (envelope_of x)) journal

-- The actor of a seat, which had this home at first, did all that was asked of it: what was accepted of that is its own events, and
-- what wasn't is its refusals.
pub record HasTaken (top : TopologyValue) (home : ℕ) (asked : List ActorEvent) (s : SeatValue) : Type 0 where
  pub own : own_events s.journal ≡ accepted_of top home asked
  pub refused : s.refusals ≡ refusals_from top home 0 asked

-- the actor with a node did all that the script asks of it
abbrev pub DidAsked : Script → ℕ → SeatValue → Type 0
DidAsked s node seat = HasTaken s.topology (opening_home s.topology node) (asked_of s node) seat
