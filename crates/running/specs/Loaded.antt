-- The seats of a script, before their first events.
use Rattle.std.specs.Prelude.{◌≡◌, ℕ, true, List, ◌++◌, length, slice_get, Some}
use Rattle.messages.specs.Topology.{node_count}
use Rattle.links.specs.Links.{may_exchange}
use Rattle.actors.specs.Seats.{SeatValue}
use Rattle.actors.specs.Building.{ring_to, ring_from, IsNewSeat}
use Rattle.workload.specs.declared.script.ScriptEvent.{ScriptEvent}
use Rattle.workload.specs.declared.script.Script.{Script}
use Rattle.running.specs.Asked.{asked_in, asked_of}

-- a seat with what these events of a script ask of its actor at the end of its backlog
abbrev pub with_asked : List ScriptEvent → SeatValue → SeatValue
with_asked events s = record s { backlog = s.backlog ++ asked_in s.node events }

-- each of these seats has what the events ask of its actor
pub record HaveAsked (events : List ScriptEvent) (old new : List SeatValue) : Type 0 where
  pub count : length new ≡ length old
  pub each : (k : ℕ) (s : SeatValue) → slice_get old k ≡ Some s → slice_get new k ≡ Some (with_asked events s)

-- a new seat of this node, with rings for so many envelopes and a journal for so many events, whose backlog is what the script
-- asks of its actor
pub record IsLoadedSeat (s : Script) (ring limit node : ℕ) (seat : SeatValue) : Type 0 where
  pub empty : SeatValue
  pub is_new : IsNewSeat s.topology ring limit node empty
  pub loaded : seat ≡ record empty { backlog = asked_of s node }

-- One for each actor of the script, by their nodes. Of two of them that may exchange envelopes, the sender's way to the other,
-- and the other's link from it, are the two ends of one ring.
pub record AreLoadedSeats (s : Script) (ring limit : ℕ) (seats : List SeatValue) : Type 0 where
  pub all : length seats ≡ node_count s.topology
  pub each : (node : ℕ) (seat : SeatValue) → slice_get seats node ≡ Some seat → IsLoadedSeat s ring limit node seat
  pub one_ring : (a b : ℕ) (x y : SeatValue) → slice_get seats a ≡ Some x → slice_get seats b ≡ Some y → may_exchange s.topology a b ≡ true → ring_to x.outgoing b ≡ ring_from y.incoming a
