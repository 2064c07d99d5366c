-- Seats before their first event.
use Rattle.std.specs.Prelude.{◌≡◌, ℕ, true, List, [], map, None}
use Rattle.messages.specs.Topology.{TopologyValue}
use Rattle.links.specs.Links.{RingName, OutLinkValue, InLinkValue, reached_from, reaching}
use Rattle.links.specs.Mesh.{new_outgoing, new_incoming}
use Rattle.links.specs.declared.ends.Ends.{Ends}
use Rattle.actors.specs.Seats.{LaneValue, SeatValue}

-- the way over a ring, on which nothing waits
abbrev pub new_lane : OutLinkValue → LaneValue
new_lane l = record { to = l.to; ring = l.ring; sent = l.sent; free = l.free; waiting = [] }

-- nothing went into the ring yet
abbrev pub IsUnused : OutLinkValue → Type 0
IsUnused l = l.sent ≡ []

-- all rings of the actor with this node, through which nothing went yet
pub record AreItsRings (top : TopologyValue) (node : ℕ) (ends : Ends) : Type 0 where
  pub capacity : ℕ
  pub rings_to : ℕ → RingName
  pub rings_from : ℕ → RingName
  pub outgoing : ends.outgoing.items ≡ new_outgoing capacity rings_to (reached_from top node)
  pub incoming : ends.incoming.items ≡ new_incoming rings_from node (reaching top node)

-- a seat with these rings that did nothing yet, and is free for an operation
abbrev pub new_seat : TopologyValue → ℕ → ℕ → List OutLinkValue → List InLinkValue → SeatValue
new_seat top node limit outgoing incoming =
    record {
      topology = top;
      node = node;
      limit = limit;
      free = true;
      journal = [];
      outcomes = [];
      accepted = 0;
      clock = 0;
      timed = true;
      refusals = [];
      backlog = [];
      outgoing = map new_lane outgoing;
      outbox = [];
      incoming = incoming;
      next = 0;
      held = None;
    }
