-- When all that seats sent was received, and what their journals are then: those of a quiet run.
use Rattle.std.specs.Prelude.{◌≡◌, ℕ, ◌<◌, ◌≤◌, true, List, length, slice_get, Some}
use Rattle.messages.specs.declared.event.ActorEvent.{ActorEvent}
use Rattle.messages.specs.Topology.{TopologyValue, node_count}
use Rattle.messages.specs.Actors.{sent_by}
use Rattle.actors.specs.Journals.{receipts_from, sends_to}
use Rattle.actors.specs.Seats.{SeatValue}
use Rattle.world.specs.declared.run_event.RunEvent.{RunEvent}
use Rattle.world.specs.Run.{run}
use Rattle.world.specs.Journals.{IsRunOf}
use Rattle.world.specs.Quiet.{IsQuiet}
use Rattle.world.specs.Settled.{Settled}
use Rattle.threaded.specs.OneRun.{seat_of, journal_of}
use Rattle.threaded.specs.Matching.{IsKept, sent_to}

-- on each link all that the sender's journal sent there was received
abbrev pub AreAllReceived : TopologyValue → List SeatValue → Type 0
AreAllReceived top seats =
    (from to : ℕ) → from < node_count top → to < node_count top
    → receipts_from from (journal_of seats to) ≡ sends_to to (sent_by top from (journal_of seats from))

-- The journals of the seats are those of a quiet run: each message that was sent was handled, so every operation ended, and all data
-- centres have one table. No seat has an operation open.
pub record AreOfQuietRun (top : TopologyValue) (seats : List SeatValue) : Type 0 where
  pub events : List RunEvent
  pub is_run : IsRunOf top (journal_of seats) events
  pub quiet : IsQuiet (run top events)
  pub settled : Settled top (run top events)
  pub free : (node : ℕ) (s : SeatValue) → node < node_count top → seat_of seats node ≡ Some s → s.free ≡ true

-- these events of an actor received so many envelopes from each actor
pub record HaveCounted (count : ℕ) (done : List ActorEvent) (received : List ℕ) : Type 0 where
  pub len : length received ≡ count
  pub each : (from n : ℕ) → slice_get received from ≡ Some n → length (receipts_from from done) ≡ n

-- ## As seats are asked for it

-- the facts of an actor's seat hold of its machine
abbrev pub IsKeptAt : List SeatValue → ℕ → Type 0
IsKeptAt seats node = (s : SeatValue) → seat_of seats node ≡ Some s → IsKept s

-- the seat of an actor sent no more than so many envelopes to a node
abbrev pub IsWhollyReceived : List SeatValue → ℕ → ℕ → ℕ → Type 0
IsWhollyReceived seats from to count = length (sent_to seats from to) ≤ count

-- so it is of the seats of so many actors, each by its own number
abbrev pub AreWhollyReceived : List SeatValue → ℕ → ℕ → List ℕ → Type 0
AreWhollyReceived seats count to received =
    (from n : ℕ) → from < count → slice_get received from ≡ Some n → IsWhollyReceived seats from to n

-- a node received as many envelopes from each of so many actors as the seats of these sent to it
abbrev pub AreReceivedOf : ℕ → List SeatValue → ℕ → Type 0
AreReceivedOf count seats to = (from : ℕ) → from < count → length (sent_to seats from to) ≤ length (receipts_from from (journal_of seats to))

-- so it is of so many nodes
abbrev pub AreAllServed : ℕ → List SeatValue → Type 0
AreAllServed count seats = (to : ℕ) → to < count → AreReceivedOf count seats to
