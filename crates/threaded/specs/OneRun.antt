-- Seats whose journals are of one run: one for each actor, which on each link received a beginning of what was sent there.
use Rattle.std.specs.Prelude.{◌≡◌, ℕ, ◌<◌, ◌==◌, true, List, [], length, find, slice_get, Option, Some, None}
use Rattle.messages.specs.declared.event.ActorEvent.{ActorEvent}
use Rattle.messages.specs.Topology.{TopologyValue, is_topology, node_count}
use Rattle.messages.specs.Actors.{sent_by}
use Rattle.actors.specs.Journals.{receipts_from, sends_to, IsBeginning}
use Rattle.actors.specs.Seats.{SeatValue}

-- the seat of the actor with a node
abbrev pub seat_of : List SeatValue → ℕ → Option SeatValue
seat_of seats node = find (λ (s : SeatValue). s.node == node) seats

abbrev pub journal_at : Option SeatValue → List ActorEvent
journal_at None = []
journal_at (Some s) = s.journal

-- the journal of the actor with a node, by its seat
abbrev pub journal_of : List SeatValue → ℕ → List ActorEvent
journal_of seats node = journal_at (seat_of seats node)

-- all of these seats are of this topology
abbrev pub AreOfTopology : TopologyValue → List SeatValue → Type 0
AreOfTopology top seats = (k : ℕ) (s : SeatValue) → slice_get seats k ≡ Some s → s.topology ≡ top

-- there are as many seats as the topology has nodes, all of this topology, and one for each node
pub record AreSeatsOf (top : TopologyValue) (seats : List SeatValue) : Type 0 where
  pub sound : is_topology top.dcs top.shards top.homes ≡ true
  pub count : length seats ≡ node_count top
  pub topology : AreOfTopology top seats
  pub each : (node : ℕ) → node < node_count top → (s : SeatValue) × (seat_of seats node ≡ Some s)

-- On each link the receipts are a beginning of what the sender's journal sent there.
abbrev pub DoLinksMatch : TopologyValue → (ℕ → List ActorEvent) → Type 0
DoLinksMatch top journals =
    (from to : ℕ) → from < node_count top → to < node_count top
    → IsBeginning (receipts_from from (journals to)) (sends_to to (sent_by top from (journals from)))

-- the seats are one for each node of one topology, and their links match
pub record AreOfOneRun (seats : List SeatValue) : Type 0 where
  pub top : TopologyValue
  pub are : AreSeatsOf top seats
  pub links : DoLinksMatch top (journal_of seats)
