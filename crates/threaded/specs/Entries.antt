-- What the seats of sessions tell of the operations that ended.
use Rattle.std.specs.Prelude.{ℕ, ◌-◌, List, [], ◌∷◌, flat_map, length, Option, Some, None, option_map}
use Rattle.std.specs.List.{range_with_len, cons_option}
use Rattle.messages.specs.declared.op.Op.{Op}
use Rattle.messages.specs.declared.outcome.Outcome.{Outcome}
use Rattle.messages.specs.declared.event.ActorEvent.{ActorEvent}
use Rattle.messages.specs.Topology.{TopologyValue, session_node}
use Rattle.messages.specs.Actors.{opening_home, home_after}
use Rattle.actors.specs.Seats.{SeatValue}
use Rattle.world.specs.declared.completed.Completed.{Completed}
use Rattle.world.specs.Threads.{op_numbered}
use Rattle.threaded.specs.declared.entries.Ended.{Ended}
use Rattle.threaded.specs.OneRun.{seat_of}

-- the entry that is lent
abbrev pub completed_of : Ended → Completed
completed_of e = record { node = e.node; number = e.number; home = e.home; op = e.op.now; outcome = e.outcome.now }

-- the entry of an outcome, which stands with the number of its operation: that is the one of this number in the session's
-- journal, submitted at this home
abbrev pub entry_by : ℕ → ℕ → List ActorEvent → (ℕ × Outcome) → Option Completed
entry_by node home journal o =
    option_map (λ (op : Op). record { node = node; number = o.0; home = home; op = op; outcome = o.1 }) (op_numbered journal o.0)

-- the entries of a session's outcomes, where this is its home before the first: each move takes it to its new home
abbrev pub entries_from : ℕ → ℕ → List ActorEvent → List (ℕ × Outcome) → List Completed
entries_from node home journal [] = []
entries_from node home journal (o ∷ os) = cons_option (entry_by node home journal o) (entries_from node (home_after home o.1) journal os)

-- the entries of a session's seat, in the order of their outcomes
abbrev pub entries_at : TopologyValue → ℕ → Option SeatValue → List Completed
entries_at top node None = []
entries_at top node (Some s) = entries_from node (opening_home top node) s.journal s.outcomes

-- the entries of the sessions after the first so many, by their nodes
abbrev pub entries_after : TopologyValue → List SeatValue → ℕ → List Completed
entries_after top seats n =
    flat_map (λ i. entries_at top (session_node top i) (seat_of seats (session_node top i))) (range_with_len n (length top.homes - n))

-- the entries of all sessions, by their nodes
abbrev pub entries_of : TopologyValue → List SeatValue → List Completed
entries_of top seats = flat_map (λ i. entries_at top (session_node top i) (seat_of seats (session_node top i))) (range_with_len 0 (length top.homes))
