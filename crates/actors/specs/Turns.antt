-- What a turn of a seat does.
use Rattle.std.specs.Prelude.{◌≡◌, ◌≤◌, ◌<◌, ◌⊎◌, ℕ, [], ◌∷◌, ◌++◌, length, Option, Some, None, true}
use Rattle.logical_time.specs.declared.fault.Fault.{Fault}
use Rattle.logical_time.specs.declared.fault.Fault.TheVariants.{AlreadyHome, UnknownHome}
use Rattle.logical_time.specs.Fault.{number_of}
use Rattle.messages.specs.declared.envelope.Envelope.{Envelope}
use Rattle.messages.specs.declared.op.Op.{Op}
use Rattle.messages.specs.declared.event.ActorEvent.{ActorEvent}
use Rattle.messages.specs.declared.event.ActorEvent.TheVariants as event
use Rattle.actors.specs.Journals.{submissions, IsBeginning}
use Rattle.actors.specs.Machines.{Refuses}
use Rattle.actors.specs.Seats.{SeatValue, rings, ends_of, sources_of}
use Rattle.actors.specs.Resting.{unsent, HasNoEnvelope, IsResting}
use Rattle.actors.specs.Looking.{IsNext}
use Rattle.actors.specs.declared.turn.Turn.{Turn}
use Rattle.actors.specs.declared.turn.Turn.TheVariants.{Idle, Moved, Handled, Submitted, Collected, Refused}

-- a refusal of an operation for what it asks: of a batch or a read as the planner refuses it, or of a move
abbrev pub IsOfRequest : Fault → Type 0
IsOfRequest fault = (number_of fault ≤ 9) ⊎ ((fault ≡ AlreadyHome) ⊎ (fault ≡ UnknownHome))

-- its ways lead to the same actors, and its rings from the same ones, in the same order
abbrev pub HasSameRings : SeatValue → SeatValue → Type 0
HasSameRings old new = (ends_of new.outgoing ≡ ends_of old.outgoing) × (sources_of new.incoming ≡ sources_of old.incoming)

-- the seat is the same but for what is on its way
pub record HasSame (old new : SeatValue) : Type 0 where
  pub topology : new.topology ≡ old.topology
  pub node : new.node ≡ old.node
  pub limit : new.limit ≡ old.limit
  pub journal : new.journal ≡ old.journal
  pub outcomes : new.outcomes ≡ old.outcomes
  pub accepted : new.accepted ≡ old.accepted
  pub refusals : new.refusals ≡ old.refusals
  pub backlog : new.backlog ≡ old.backlog
  pub free : new.free ≡ old.free
  pub rings : HasSameRings old new

-- This one event was added to the journal, where there was room for it; outcomes may have been added.
pub record HasDone (event : ActorEvent) (old new : SeatValue) : Type 0 where
  pub room : length old.journal < old.limit
  pub journal : new.journal ≡ old.journal ++ event ∷ []
  pub outcomes : IsBeginning old.outcomes new.outcomes
  pub refusals : new.refusals ≡ old.refusals
  pub topology : new.topology ≡ old.topology
  pub node : new.node ≡ old.node
  pub limit : new.limit ≡ old.limit
  pub rings : HasSameRings old new

-- no event was done, since there was none
pub record HasRested (old new : SeatValue) : Type 0 where
  pub same : HasSame old new
  pub resting : IsResting new

-- The machine refuses this event of the backlog for what it asks, and there was room in the journal for it; it was taken off.
pub record HasTakenOff (refuses : Refuses) (fault : Fault) (old new : SeatValue) : Type 0 where
  pub event : ActorEvent
  pub first : old.backlog ≡ event ∷ new.backlog
  pub room : length old.journal < old.limit
  pub refused : refuses old.topology old.node old.journal event fault

-- the first item of the backlog was refused for what it asks, and taken off
pub record HasRefused (refuses : Refuses) (fault : Fault) (old new : SeatValue) : Type 0 where
  pub journal : new.journal ≡ old.journal
  pub outcomes : new.outcomes ≡ old.outcomes
  pub off : HasTakenOff refuses fault old new
  pub refusals : new.refusals ≡ old.refusals ++ (submissions old.journal, fault) ∷ []
  pub request : IsOfRequest fault
  pub topology : new.topology ≡ old.topology
  pub node : new.node ≡ old.node
  pub limit : new.limit ≡ old.limit
  pub rings : HasSameRings old new

-- what a turn answers whose event of the backlog got this number
abbrev pub turn_of : Option ℕ → Turn
turn_of None = Collected
turn_of (Some number) = Submitted number

-- no event was done, and no envelope went into a ring
abbrev pub IsIdle : SeatValue → SeatValue → Type 0
IsIdle old new = HasRested old new × (rings new.outgoing ≡ rings old.outgoing) × (unsent new ≡ unsent old)

-- an envelope was handled
abbrev pub HasHandled : SeatValue → SeatValue → Type 0
HasHandled old new = (e : Envelope) × HasDone (event.Handle e) old new × (new.backlog ≡ old.backlog)

-- What a turn that answers this made of the seat: at most one event is added to the journal, the one that the answer names; one
-- of the backlog only where the machine was free for it. Where it is none, envelopes went into their rings, or none did.
abbrev pub IsTurn : Refuses → Turn → SeatValue → SeatValue → Type 0
IsTurn refuses Idle old new = IsIdle old new
IsTurn refuses Moved old new = HasRested old new × (unsent new < unsent old)
IsTurn refuses Handled old new = HasHandled old new
IsTurn refuses (Submitted number) old new =
    (o : Op) × HasDone (event.Submit o) old new × (old.backlog ≡ event.Submit o ∷ new.backlog) × (number ≡ submissions new.journal) × (old.free ≡ true)
IsTurn refuses Collected old new = (time : ℕ) × HasDone (event.Collect time) old new × (old.backlog ≡ event.Collect time ∷ new.backlog) × (old.free ≡ true)
IsTurn refuses (Refused fault) old new = HasRefused refuses fault old new

-- no envelope was there, and the ring that is looked at first stays
abbrev pub HasFoundNone : SeatValue → SeatValue → Type 0
HasFoundNone old new = HasNoEnvelope new × (new.next ≡ old.next)

-- Envelopes go before the backlog: a turn that handled one handled the next one, and for any other turn there was none.
abbrev pub HasLooked : Turn → SeatValue → SeatValue → Type 0
HasLooked Idle old new = HasFoundNone old new
HasLooked Moved old new = HasFoundNone old new
HasLooked Handled old new = (e : Envelope) × (new.journal ≡ old.journal ++ event.Handle e ∷ []) × IsNext old new e
HasLooked (Submitted number) old new = HasFoundNone old new
HasLooked Collected old new = HasFoundNone old new
HasLooked (Refused fault) old new = HasFoundNone old new

-- it did an item of the backlog
abbrev pub IsWork : Turn → Type 0
IsWork Idle = ⊥
IsWork Moved = ⊥
IsWork Handled = ⊥
IsWork (Submitted number) = Unit {0}
IsWork Collected = Unit {0}
IsWork (Refused fault) = Unit {0}
