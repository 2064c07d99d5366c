-- All rings of a topology.
use Rattle.std.specs.Prelude.{◌≡◌, ℕ, ◌<◌, ◌==◌, if◌then◌else◌, List, [], ◌∷◌, ◌++◌, length, map, slice_get, Option, Some, None}
use Rattle.messages.specs.Topology.{TopologyValue, node_count}
use Rattle.links.specs.Links.{RingName, OutLinkValue, InLinkValue, may_exchange, reached_from, reaching}
use Rattle.links.specs.declared.ends.Ends.{Ends}

abbrev pub outgoing_of : Option Ends → List OutLinkValue
outgoing_of None = []
outgoing_of (Some e) = e.outgoing.items

abbrev pub incoming_of : Option Ends → List InLinkValue
incoming_of None = []
incoming_of (Some e) = e.incoming.items

-- the ends that the actor with this node holds of the rings to others
abbrev pub outgoing_at : List Ends → ℕ → List OutLinkValue
outgoing_at ends node = outgoing_of (slice_get ends node)

-- and of the rings from others
abbrev pub incoming_at : List Ends → ℕ → List InLinkValue
incoming_at ends node = incoming_of (slice_get ends node)

-- the sender's end of a ring that nothing went through
abbrev pub new_out_link : ℕ → RingName → ℕ → OutLinkValue
new_out_link capacity ring to = record { to = to; ring = ring; sent = []; free = capacity }

-- the receiver's end of it
abbrev pub new_in_link : RingName → ℕ → ℕ → InLinkValue
new_in_link ring to from = record { from = from; to = to; ring = ring; received = []; known = 0 }

-- the sender's ends of new rings to these actors, each of the ring that is given for it
abbrev pub new_outgoing : ℕ → (ℕ → RingName) → List ℕ → List OutLinkValue
new_outgoing capacity rings nodes = map (λ to. new_out_link capacity (rings to) to) nodes

-- the receiver's ends, which the actor with this node holds, of new rings from these actors
abbrev pub new_incoming : (ℕ → RingName) → ℕ → List ℕ → List InLinkValue
new_incoming rings node nodes = map (λ from. new_in_link (rings from) node from) nodes

-- One more ring, from one actor to another: the two ends that they hold are of that ring, and all others stay.
pub record IsLaid (capacity from to : ℕ) (old new : List Ends) : Type 0 where
  pub ring : RingName
  pub outgoing : (node : ℕ) → outgoing_at new node ≡ outgoing_at old node ++ (if node == from then new_out_link capacity ring to ∷ [] else [])
  pub incoming : (node : ℕ) → incoming_at new node ≡ incoming_at old node ++ (if node == to then new_in_link ring to from ∷ [] else [])

-- The rings from one actor to each to which it may send: the end that it holds of the one to another, and the end that the other
-- holds, are of one ring.
pub record AreLaid (top : TopologyValue) (capacity from : ℕ) (old new : List Ends) : Type 0 where
  pub rings : ℕ → RingName
  pub outgoing : (node : ℕ) → outgoing_at new node ≡ outgoing_at old node ++ (if node == from then new_outgoing capacity rings (reached_from top from) else [])
  pub incoming : (node : ℕ) → node < node_count top
      → incoming_at new node ≡ incoming_at old node ++ (if may_exchange top from node then new_in_link (rings node) node from ∷ [] else [])

-- The rings of a topology: each actor holds the ends of one to each actor to which it may send, and of one from each actor
-- from which it may receive, by their nodes. The end that the actor `a` holds of the one to `b`, and the end that `b` holds of
-- the one from `a`, are of one ring, `rings a b`.
pub record IsMesh (top : TopologyValue) (capacity : ℕ) (ends : List Ends) : Type 0 where
  pub rings : ℕ → ℕ → RingName
  pub count : length ends ≡ node_count top
  pub outgoing : (node : ℕ) → node < node_count top → outgoing_at ends node ≡ new_outgoing capacity (rings node) (reached_from top node)
  pub incoming : (node : ℕ) → node < node_count top → incoming_at ends node ≡ new_incoming (λ from. rings from node) node (reaching top node)
