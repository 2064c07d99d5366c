-- How far an actor came with what was asked of it.
use Rattle.std.specs.Prelude.{◌≡◌, ◌≤◌, ℕ, List, ◌∷◌, ◌++◌, Option, Some, take, length}
use Rattle.messages.specs.declared.event.ActorEvent.{ActorEvent}
use Rattle.messages.specs.Topology.{TopologyValue}
use Rattle.actors.specs.Journals.{submissions}
use Rattle.actors.specs.Seats.{SeatValue}
use Rattle.running.specs.declared.course.Course.{Course}
use Rattle.running.specs.Asked.{home_through, accepted_of, refusals_from, own_events, HasTaken}

-- it looked at no more events and refusals than there are, and each operation that was accepted is one of those events
pub record IsWithin (s : SeatValue) (c : Course) : Type 0 where
  pub events : c.events ≤ length s.journal
  pub refusals : c.refusals ≤ length s.refusals
  pub fewer : c.accepted ≤ c.events

-- This was done of what was asked by an actor that had the first home: its own events and its refusals, as far as they were
-- looked at, are those of it, and the home is the one after it.
pub record HasCome (top : TopologyValue) (first : ℕ) (s : SeatValue) (c : Course) (done : List ActorEvent) : Type 0 where
  pub own : own_events (take c.events s.journal) ≡ accepted_of top first done
  pub refused : take c.refusals s.refusals ≡ refusals_from top first 0 done
  pub counted : c.accepted ≡ submissions (accepted_of top first done)
  pub home : c.home ≡ home_through top first done

-- after this, whatever came next, the actor didn't do this event
abbrev pub DidNotDo : TopologyValue → ℕ → SeatValue → List ActorEvent → ActorEvent → Type 0
DidNotDo top first s done event = (more : List ActorEvent) → HasTaken top first (done ++ event ∷ more) s → ⊥

-- an event was asked that the actor didn't do
pub record HasStopped (top : TopologyValue) (first : ℕ) (s : SeatValue) (done : List ActorEvent) (next : Option ActorEvent) : Type 0 where
  pub event : ActorEvent
  pub asked : next ≡ Some event
  pub not_done : DidNotDo top first s done event
