-- What the journals of seats conclude: a run, whose journals they are.
use Rattle.std.specs.Prelude.{◌≡◌, ℕ, ◌<◌, ◌==◌, ◌++◌, List, map, filter, flat_map, length, Some, Contains}
use Rattle.std.specs.List.{range_with_len}
use Rattle.messages.specs.declared.envelope.Envelope.{Envelope}
use Rattle.messages.specs.declared.event.ActorEvent.TheVariants.{Handle}
use Rattle.messages.specs.Topology.{TopologyValue, node_count, session_node}
use Rattle.actors.specs.Seats.{SeatValue}
use Rattle.world.specs.declared.completed.Completed.{Completed}
use Rattle.world.specs.declared.run_event.RunEvent.{RunEvent}
use Rattle.world.specs.Run.{Run, run}
use Rattle.world.specs.Journals.{actor_in, ended_at, IsRunOf, IsThreadedRun}
use Rattle.threaded.specs.Machines.{has_none_open, as_finished}
use Rattle.threaded.specs.OneRun.{seat_of, journal_of, AreSeatsOf, DoLinksMatch}

-- so it is in each run whose journals are those of the seats
abbrev pub InEachRun : TopologyValue → List SeatValue → (Run → Type 0) → Type 0
InEachRun top seats P = (events : List RunEvent) → IsRunOf top (journal_of seats) events → P (run top events)

-- so it is of each run whose journals are those of the seats, cut in two anywhere
abbrev pub InEachCut : TopologyValue → List SeatValue → (List RunEvent → List RunEvent → Type 0) → Type 0
InEachCut top seats P = (before after : List RunEvent) → IsRunOf top (journal_of seats) (before ++ after) → P before after

-- The outcomes that each seat gave are, in order, what the run has of its actor; and a seat is free exactly where that has no
-- operation open.
pub record AreAsInRun (top : TopologyValue) (seats : List SeatValue) (w : Run) : Type 0 where
  pub outcomes : (node : ℕ) (s : SeatValue) → node < node_count top → seat_of seats node ≡ Some s → map as_finished s.outcomes ≡ ended_at w node
  pub free : (node : ℕ) (s : SeatValue) → node < node_count top → seat_of seats node ≡ Some s → s.free ≡ has_none_open (actor_in top w node)

-- The seats are one for each actor, what their journals handle is from an actor, and their links match. Their journals are
-- those of a run, of which none of the events is refused; and in each such run the actors are as the seats tell.
pub record AreConcluded (top : TopologyValue) (seats : List SeatValue) : Type 0 where
  pub are : AreSeatsOf top seats
  pub senders : (node : ℕ) (e : Envelope) → node < node_count top → Contains (journal_of seats node) (Handle e) → e.from < node_count top
  pub links : DoLinksMatch top (journal_of seats)
  pub run : IsThreadedRun top (journal_of seats)
  pub alike : InEachRun top seats (AreAsInRun top seats)

-- the entries of a transcript by the nodes of their sessions, each session's in order
abbrev pub by_session : TopologyValue → List Completed → List Completed
by_session top transcript =
    flat_map (λ i. filter (λ (c : Completed). c.node == session_node top i) transcript) (range_with_len 0 (length top.homes))

-- seats that are one for each actor of a topology
pub record ConcludedValue : Type 0 where
  pub top : TopologyValue
  pub seats : List SeatValue
