-- What happens at the site of one data centre: its story. No code keeps it.
use Rattle.std.specs.Prelude.{◌≡◌, ℕ, Bool, true, not, ◌&&◌, ◌==◌, nat_lt, if◌then◌else◌, List, [], ◌∷◌, filter, filter_map, flat_map, Option, Some, None}
use Rattle.messages.specs.declared.envelope.Envelope.{Envelope}
use Rattle.messages.specs.declared.outcome.Outcome.{Outcome}
use Rattle.messages.specs.declared.event.ActorEvent.{ActorEvent}
use Rattle.messages.specs.declared.event.ActorEvent.TheVariants.{Submit, Handle, Collect}
use Rattle.messages.specs.Topology.{TopologyValue, is_shard, dc_of, node_count}
use Rattle.messages.specs.Actors.{opening_home, envelope_of}

-- ## Which actors a site keeps

-- the data centre whose site keeps the actor with a node: a shard's own, and a session's first home
abbrev pub site_of : TopologyValue → ℕ → ℕ
site_of top node = if is_shard top node then dc_of top node else opening_home top node

-- whether the site of a data centre keeps the actor with a node
abbrev pub is_here : TopologyValue → ℕ → ℕ → Bool
is_here top dc node = nat_lt node (node_count top) && (site_of top node == dc)

-- whether it keeps the actor for which an envelope is
abbrev pub is_near : TopologyValue → ℕ → Envelope → Bool
is_near top dc e = is_here top dc e.to

-- whether the envelope is to go to another site
abbrev pub is_far : TopologyValue → ℕ → Envelope → Bool
is_far top dc e = not (is_near top dc e)

-- whether an envelope may come from the site of another data centre: it is from an actor there, and for one here
abbrev pub may_come : TopologyValue → ℕ → ℕ → Envelope → Bool
may_come top dc from e = not (from == dc) && (is_here top from e.from && is_near top dc e)

-- ## What happens

-- the actor with a node did an event, which sent these envelopes and ended that operation; an envelope came from the site of
-- another data centre; or one was given to the way to another site
pub data Happening : Type 0 where
  Did : (node : ℕ) (event : ActorEvent) (sends : List Envelope) (ended : Option (ℕ × Outcome)) → Happening
  Heard : (from : ℕ) (envelope : Envelope) → Happening
  Given : (envelope : Envelope) → Happening

-- all that happened, oldest first
abbrev pub Story : Type 0
Story = List Happening

-- ## What an actor did

abbrev pub event_of : ℕ → Happening → Option ActorEvent
event_of node (Did n x sends ended) = if n == node then Some x else None
event_of node (Heard from e) = None
event_of node (Given e) = None

abbrev pub sends_of : ℕ → Happening → List Envelope
sends_of node (Did n x sends ended) = if n == node then sends else []
sends_of node (Heard from e) = []
sends_of node (Given e) = []

abbrev pub end_of : ℕ → Happening → Option (ℕ × Outcome)
end_of node (Did n x sends ended) = if n == node then ended else None
end_of node (Heard from e) = None
end_of node (Given e) = None

-- its events
abbrev pub journal : Story → ℕ → List ActorEvent
journal s node = filter_map (event_of node) s

-- what they sent
abbrev pub sent : Story → ℕ → List Envelope
sent s node = flat_map (sends_of node) s

-- the outcomes that they gave, with the numbers of the operations
abbrev pub outcomes : Story → ℕ → List (ℕ × Outcome)
outcomes s node = filter_map (end_of node) s

-- ## What came and went

abbrev pub arrivals_by : TopologyValue → ℕ → Happening → List Envelope
arrivals_by top dc (Did node x sends ended) = filter (is_near top dc) sends
arrivals_by top dc (Heard from e) = e ∷ []
arrivals_by top dc (Given e) = []

-- what came for the actors of the site, in order: what they sent each other, and what came from other sites
abbrev pub arrivals : TopologyValue → ℕ → Story → List Envelope
arrivals top dc s = flat_map (arrivals_by top dc) s

abbrev pub handled_by : Happening → Option Envelope
handled_by (Did node x sends ended) = envelope_of x
handled_by (Heard from e) = None
handled_by (Given e) = None

-- what they handled, in order
abbrev pub handled : Story → List Envelope
handled s = filter_map handled_by s

abbrev pub departures_by : TopologyValue → ℕ → Happening → List Envelope
departures_by top dc (Did node x sends ended) = filter (is_far top dc) sends
departures_by top dc (Heard from e) = []
departures_by top dc (Given e) = []

-- what they sent to other sites, in order
abbrev pub departures : TopologyValue → ℕ → Story → List Envelope
departures top dc s = flat_map (departures_by top dc) s

abbrev pub given_by : Happening → Option Envelope
given_by (Did node x sends ended) = None
given_by (Heard from e) = None
given_by (Given e) = Some e

-- what was given to the ways to other sites, in order
abbrev pub given : Story → List Envelope
given s = filter_map given_by s

abbrev pub heard_by : Happening → Option Envelope
heard_by (Did node x sends ended) = None
heard_by (Heard from e) = Some e
heard_by (Given e) = None

-- what came from other sites, in order
abbrev pub heard : Story → List Envelope
heard s = filter_map heard_by s

-- ## Who may do what

-- what an actor handles is for it
abbrev pub IsFor : ℕ → ActorEvent → Type 0
IsFor node (Submit o) = Unit {0}
IsFor node (Handle e) = e.to ≡ node
IsFor node (Collect time) = Unit {0}

-- an actor of the site does what is for it, and what comes from another site may come
abbrev pub MayHappen : TopologyValue → ℕ → Happening → Type 0
MayHappen top dc (Did node x sends ended) = (is_here top dc node ≡ true) × IsFor node x
MayHappen top dc (Heard from e) = may_come top dc from e ≡ true
MayHappen top dc (Given e) = Unit {0}
