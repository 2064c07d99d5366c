-- What the seats of a data centre's shards tell of the submitted batches.
use Rattle.std.specs.Prelude.{◌≡◌, ℕ, ◌+◌, ◌<◌, true, List, [], ◌∷◌, ◌++◌, filter_map, flat_map, length, Some, option_map, option_to_list}
use Rattle.std.specs.List.{range_with_len}
use Rattle.logical_time.specs.Stamps.{TxnValue}
use Rattle.column_family.specs.declared.batch.Change.{Change}
use Rattle.column_family.specs.History.{History}
use Rattle.messages.specs.declared.op.Op.{Op}
use Rattle.messages.specs.declared.event.ActorEvent.{ActorEvent}
use Rattle.messages.specs.Home.{HomeValue}
use Rattle.messages.specs.Topology.{TopologyValue, is_shard, session_node}
use Rattle.messages.specs.Shard.{ShardState}
use Rattle.messages.specs.Actors.{OfShard, Replayed, replay_of}
use Rattle.world.specs.Threads.{op_in}
use Rattle.actors.specs.Seats.{SeatValue}
use Rattle.world.specs.Asked.{entry_of}
use Rattle.world.specs.Histories.{batch_in}
use Rattle.threaded.specs.Machines.{StaysApart}
use Rattle.threaded.specs.OneRun.{journal_of, AreSeatsOf}

-- the writes among these operations of a session, with their transactions, where so many came before
abbrev pub writes_from : ℕ → ℕ → List Op → List (TxnValue × List Change)
writes_from node count [] = []
writes_from node count (o ∷ os) =
    option_to_list (option_map (λ batch. (record { session = node; number = count + 1 }, batch)) (batch_in o)) ++ writes_from node (count + 1) os

-- the writes of a session, by its journal, in order
abbrev pub writes_by : ℕ → List ActorEvent → List (TxnValue × List Change)
writes_by node journal = writes_from node 0 (filter_map op_in journal)

-- the writes of all sessions, one session after the other
abbrev pub writes_of : TopologyValue → List SeatValue → List (TxnValue × List Change)
writes_of top seats = flat_map (λ i. writes_by (session_node top i) (journal_of seats (session_node top i))) (range_with_len 0 (length top.homes))

-- what the coordinators of a data centre tell of all writes, where its shards are in these states
abbrev pub asked_of : TopologyValue → (ℕ → ShardState) → List SeatValue → ℕ → History
asked_of top states seats dc = filter_map (entry_of top states dc) (writes_of top seats)

-- along the journal of each shard stamps stay apart, and its replay leads to the shard's state
abbrev pub AreReplays : TopologyValue → List SeatValue → (ℕ → ShardState) → Type 0
AreReplays top seats states =
    (node : ℕ) → is_shard top node ≡ true
    → StaysApart top node (journal_of seats node) × ((r : Replayed) × (replay_of top node (journal_of seats node) ≡ Some r) × (r.state ≡ OfShard (states node)))

-- The data centre of these shards is one of the topology, whose actors sit in these seats, and its shards came to these states.
pub record AreAsked (top : TopologyValue) (states : ℕ → ShardState) (home : HomeValue) (seats : List SeatValue) : Type 0 where
  pub shards : top.shards ≡ home.shards
  pub below : home.dc < top.dcs
  pub are : AreSeatsOf top seats
  pub replays : AreReplays top seats states
