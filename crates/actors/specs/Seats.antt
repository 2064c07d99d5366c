-- What a seat holds, and the facts that it keeps while its lock is free.
use Rattle.std.specs.Prelude.{◌≡◌, ℕ, ◌==◌, ◌<◌, Bool, if◌then◌else◌, List, [], ◌∷◌, ◌++◌, map, slice_get, Option, Some, All, Contains, IfSome}
use Rattle.logical_time.specs.declared.fault.Fault.{Fault}
use Rattle.messages.specs.declared.envelope.Envelope.{Envelope}
use Rattle.messages.specs.declared.outcome.Outcome.{Outcome}
use Rattle.messages.specs.declared.event.ActorEvent.{ActorEvent}
use Rattle.messages.specs.declared.event.ActorEvent.TheVariants.{Handle}
use Rattle.messages.specs.Topology.{TopologyValue, node_count}
use Rattle.links.specs.Links.{RingName, InLinkValue}
use Rattle.actors.specs.Journals.{IsOwn, receipts_from, held_from}
use Rattle.actors.specs.CameFrom.{CameFrom}
use Rattle.actors.specs.Machines.{IsRecorded}

-- a way to an actor: which ring leads there, all that went into it, how many places of the ring are known to be free, and what
-- waits for one, in order
pub record LaneValue : Type 0 where
  pub to : ℕ
  pub ring : RingName
  pub sent : List Envelope
  pub free : ℕ
  pub waiting : List Envelope

-- A seat: which actor it is, and how many events its journal may hold; whether its machine is free for an operation; its
-- events, the outcomes that they gave, and how many operations were accepted; its clock, by its events alone, and whether all
-- that was sent carries the clock of its event; the operations that were refused, each with how many were accepted before; what
-- is still to be done; what was sent and what was received; the place of the ring that is looked at first; and the envelope that
-- is held back after a refusal.
pub record SeatValue : Type 0 where
  pub topology : TopologyValue
  pub node : ℕ
  pub limit : ℕ
  pub free : Bool
  pub journal : List ActorEvent
  pub outcomes : List (ℕ × Outcome)
  pub accepted : ℕ
  pub clock : ℕ
  pub timed : Bool
  pub refusals : List (ℕ × Fault)
  pub backlog : List ActorEvent
  pub outgoing : List LaneValue
  pub outbox : List Envelope
  pub incoming : List InLinkValue
  pub next : ℕ
  pub held : Option Envelope

-- what went to an actor by its way, and what waits there
abbrev pub through : List LaneValue → ℕ → List Envelope
through [] node = []
through (l ∷ ls) node = if l.to == node then l.sent ++ l.waiting else through ls node

abbrev pub ends_of : List LaneValue → List ℕ
ends_of lanes = map (λ (l : LaneValue). l.to) lanes

abbrev pub sources_of : List InLinkValue → List ℕ
sources_of links = map (λ (l : InLinkValue). l.from) links

-- all that went into each ring
abbrev pub rings : List LaneValue → List (List Envelope)
rings lanes = map (λ (l : LaneValue). l.sent) lanes

-- no two links lead to one actor, or from one
abbrev pub IsApart : List ℕ → Type 0
IsApart nodes = (j k node : ℕ) → slice_get nodes j ≡ Some node → slice_get nodes k ≡ Some node → j ≡ k

-- what was taken from each ring is the receipts of the journal from there, and then what is held back
abbrev pub Received : List ActorEvent → List InLinkValue → Option Envelope → Type 0
Received journal incoming held =
    (k : ℕ) (l : InLinkValue) → slice_get incoming k ≡ Some l → l.received ≡ receipts_from l.from journal ++ held_from l.from held

-- the envelope is from an actor from which one of these rings leads
abbrev pub CameBy : List InLinkValue → Envelope → Type 0
CameBy incoming e = Contains (sources_of incoming) e.from

-- What a seat keeps while its lock is free. Its machine came from its journal; what the journal's events sent to each actor
-- is what went into the ring there, then what waits for that, then what is in the outbox; and what was taken from each ring
-- is the journal's receipts from there, and then what is held back.
pub record Keeps {M : Type 0} (came_from : CameFrom M) (untaken : M → Option (ℕ × Outcome)) (machine : M) (d : SeatValue) : Type 0 where
  pub recorded : IsRecorded came_from untaken d.topology d.node (through d.outgoing) machine d.journal d.outcomes d.outbox d.accepted d.clock d.timed
  pub received : Received d.journal d.incoming d.held
  pub ends : IsApart (ends_of d.outgoing)
  pub sources : IsApart (sources_of d.incoming)
  -- there are the actors from which its rings lead, and each envelope that was handled or is held back is from one of them
  pub reached : All (λ from. from < node_count d.topology) (sources_of d.incoming)
  pub handled : (e : Envelope) → Contains d.journal (Handle e) → CameBy d.incoming e
  pub held_back : IfSome d.held (CameBy d.incoming)
  -- no message brings what is still to be done
  pub own : All IsOwn d.backlog
