-- With which faults seats refuse.
use Rattle.std.specs.Prelude.{◌≡◌, ◌≤◌, ◌<◌, ◌⊎◌, true, List, ◌∷◌, length, Option, Some, None}
use Rattle.logical_time.specs.declared.fault.Fault.{Fault}
use Rattle.logical_time.specs.declared.fault.Fault.TheVariants.{JournalFull, Memory}
use Rattle.messages.specs.declared.envelope.Envelope.{Envelope}
use Rattle.messages.specs.declared.event.ActorEvent.{ActorEvent}
use Rattle.messages.specs.declared.event.ActorEvent.TheVariants.{Handle}
use Rattle.actors.specs.Journals.{IsOwn}
use Rattle.actors.specs.Machines.{Refuses}
use Rattle.actors.specs.Seats.{SeatValue}
use Rattle.actors.specs.Turns.{IsOfRequest}

-- An event is refused so: with `JournalFull` where the journal is full, before all else; where there is room, for memory, or
-- as the machine that came from the journal refuses it.
abbrev pub IsRefusal : Refuses → SeatValue → ActorEvent → Fault → Type 0
IsRefusal refuses s event fault =
    ((s.limit ≤ length s.journal) × (fault ≡ JournalFull))
    ⊎ ((length s.journal < s.limit) × ((fault ≡ Memory) ⊎ refuses s.topology s.node s.journal event fault))

-- this is the first item of the backlog
abbrev pub IsFirst : SeatValue → ActorEvent → Type 0
IsFirst s event = (more : List ActorEvent) × (s.backlog ≡ event ∷ more)

-- the event that a seat is to do: the envelope that is held back, or else, where its machine is free, the first item of its
-- backlog
abbrev pub IsDueOf : Option Envelope → SeatValue → ActorEvent → Type 0
IsDueOf (Some held) s event = event ≡ Handle held
IsDueOf None s event = (s.free ≡ true) × IsFirst s event

abbrev pub IsDue : SeatValue → ActorEvent → Type 0
IsDue s event = IsDueOf s.held s event

-- the event is refused so, and an item of the backlog for something else than what it asks
abbrev pub IsKeptBack : Refuses → SeatValue → ActorEvent → Fault → Type 0
IsKeptBack refuses s event fault = IsRefusal refuses s event fault × (IsOwn event → IsOfRequest fault → ⊥)

-- a turn of the seat can be refused so: for memory, or as the event that is to be done is refused
abbrev pub CanRefuse : Refuses → Fault → SeatValue → Type 0
CanRefuse refuses fault s = (fault ≡ Memory) ⊎ ((event : ActorEvent) × IsDue s event × IsKeptBack refuses s event fault)
