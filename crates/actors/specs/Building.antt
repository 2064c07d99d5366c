-- The seats of a topology, before their first events.
use Rattle.std.specs.Prelude.{◌≡◌, ℕ, ◌==◌, true, if◌then◌else◌, List, [], ◌∷◌, length, slice_get, Some}
use denote.RawPtr.{null_ptr}
use Rattle.messages.specs.Topology.{TopologyValue}
use Rattle.links.specs.Links.{RingName, InLinkValue, may_exchange, reached_from, reaching}
use Rattle.links.specs.Mesh.{new_outgoing, new_incoming}
use Rattle.actors.specs.Seats.{LaneValue, SeatValue}
use Rattle.actors.specs.Opening.{new_seat}

-- stands for the ring of a link that is not there
abbrev pub no_ring : RingName
no_ring = record { words = null_ptr; slots = null_ptr; names = (0, (0, 0)); heap = record { memory = record { seal = tt } } }

-- which ring leads to an actor: that of the first way there
abbrev pub ring_to : List LaneValue → ℕ → RingName
ring_to [] node = no_ring
ring_to (l ∷ ls) node = if l.to == node then l.ring else ring_to ls node

-- which ring leads here from an actor: that of the first link from there
abbrev pub ring_from : List InLinkValue → ℕ → RingName
ring_from [] node = no_ring
ring_from (l ∷ ls) node = if l.from == node then l.ring else ring_from ls node

-- The seat with this node, with rings for so many envelopes, and a journal for so many events: a link of a ring to each actor that
-- it may send to, and of a ring from each that it may receive from.
abbrev pub IsNewSeat : TopologyValue → ℕ → ℕ → ℕ → SeatValue → Type 0
IsNewSeat top ring limit node s =
    s ≡ new_seat top node limit (new_outgoing ring (ring_to s.outgoing) (reached_from top node)) (new_incoming (ring_from s.incoming) node (reaching top node))

-- One for each of so many nodes, by their nodes. Of two of them that may exchange envelopes, the sender's way to the other, and the
-- other's link from it, are the two ends of one ring.
pub record AreNewSeats (top : TopologyValue) (ring limit count : ℕ) (seats : List SeatValue) : Type 0 where
  pub all : length seats ≡ count
  pub each : (node : ℕ) (s : SeatValue) → slice_get seats node ≡ Some s → IsNewSeat top ring limit node s
  pub one_ring : (a b : ℕ) (s t : SeatValue) → slice_get seats a ≡ Some s → slice_get seats b ≡ Some t → may_exchange top a b ≡ true → ring_to s.outgoing b ≡ ring_from t.incoming a
