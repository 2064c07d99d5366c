-- Seats that are looked through: where they stand, what they keep, and whether what they received was sent.
use Rattle.std.specs.Prelude.{◌≡◌, ℕ, ◌<◌, true, List, [], length, take, slice_get, Option, Some, None, Contains, ◌⊎◌}
use Rattle.logical_time.specs.declared.fault.Fault.{Fault}
use Rattle.logical_time.specs.declared.fault.Fault.TheVariants.{Memory, StrangerEnd}
use Rattle.messages.specs.declared.envelope.Envelope.{Envelope}
use Rattle.messages.specs.declared.event.ActorEvent.{ActorEvent}
use Rattle.messages.specs.declared.event.ActorEvent.TheVariants.{Handle}
use Rattle.actors.specs.Journals.{receipts_from, followed_by, IsBeginning}
use Rattle.actors.specs.Seats.{SeatValue, Keeps, through}
use Rattle.threaded.specs.declared.actor.Actor.{Actor}
use Rattle.threaded.specs.Machines.{CameFrom, untaken_of, is_free}
use Rattle.threaded.specs.OneRun.{seat_of, journal_of, AreOfOneRun}

-- ## What seats keep

-- the facts of a seat hold of its machine, and it is free where that is
abbrev pub IsKept : SeatValue → Type 0
IsKept s = (machine : Actor) × Keeps CameFrom untaken_of machine s × (s.free ≡ is_free machine)

-- so it is of the seat of each of so many nodes
abbrev pub AreKept : ℕ → List SeatValue → Type 0
AreKept count seats = (node : ℕ) (s : SeatValue) → node < count → seat_of seats node ≡ Some s → IsKept s

-- all that these seats sent carries the clocks of their events
abbrev pub AreAllTimed : ℕ → List SeatValue → Type 0
AreAllTimed count seats = (node : ℕ) (s : SeatValue) → node < count → seat_of seats node ≡ Some s → s.timed ≡ true

-- ## Where they stand

-- the place of the seat of a node
pub record IsPlace (seats : List SeatValue) (node place : ℕ) : Type 0 where
  pub seat : SeatValue
  pub at : slice_get seats place ≡ Some seat
  pub found : seat_of seats node ≡ Some seat

-- the places of the seats of so many nodes
pub record ArePlaces (count : ℕ) (seats : List SeatValue) (places : List ℕ) : Type 0 where
  pub len : length places ≡ count
  pub each : (node place : ℕ) → slice_get places node ≡ Some place → IsPlace seats node place

-- ## What they received

-- what a seat sent to a node, in order
abbrev pub sent_at : Option SeatValue → ℕ → List Envelope
sent_at None to = []
sent_at (Some s) to = followed_by (through s.outgoing) s.outbox to

-- what the seat of an actor sent to a node, in order
abbrev pub sent_to : List SeatValue → ℕ → ℕ → List Envelope
sent_to seats from to = sent_at (seat_of seats from) to

-- on each link to a node a journal's receipts are a beginning of what the sender's seat sent there
abbrev pub DoesReceive : ℕ → List SeatValue → ℕ → List ActorEvent → Type 0
DoesReceive count seats to journal = (from : ℕ) → from < count → IsBeginning (receipts_from from journal) (sent_to seats from to)

-- so it is of the journals of so many actors
abbrev pub DoReceive : ℕ → List SeatValue → Type 0
DoReceive count seats = (to : ℕ) → to < count → DoesReceive count seats to (journal_of seats to)

-- what a journal handles is from one of so many actors
abbrev pub AreFromActors : ℕ → List ActorEvent → Type 0
AreFromActors count journal = (e : Envelope) → Contains journal (Handle e) → e.from < count

-- These events of an actor received so many envelopes on each link, the first that were sent there.
pub record HaveReceived (count : ℕ) (seats : List SeatValue) (to : ℕ) (done : List ActorEvent) (received : List ℕ) : Type 0 where
  pub len : length received ≡ count
  pub each : (from n : ℕ) → slice_get received from ≡ Some n
      → (receipts_from from done ≡ take n (sent_to seats from to)) × (length (receipts_from from done) ≡ n)

-- the envelope is the next one on its link, where so many were received on each
pub record IsNextOn (seats : List SeatValue) (to : ℕ) (received : List ℕ) (e : Envelope) : Type 0 where
  pub count : ℕ
  pub so_far : slice_get received e.from ≡ Some count
  pub next : slice_get (sent_to seats e.from to) count ≡ Some e

-- ## Refusals

-- the places of seats aren't found, for want of memory, or since one of so many nodes has no seat
abbrev pub IsUnseated : ℕ → List SeatValue → Fault → Type 0
IsUnseated count seats e = (e ≡ Memory) ⊎ ((e ≡ StrangerEnd) × ((node : ℕ) × (node < count) × (seat_of seats node ≡ None)))

-- seats conclude nothing, for want of memory, or since they aren't of one run
abbrev pub IsUnconcluded : List SeatValue → Fault → Type 0
IsUnconcluded seats e = (e ≡ Memory) ⊎ ((e ≡ StrangerEnd) × (AreOfOneRun seats → ⊥))
