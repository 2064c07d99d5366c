-- What is told of sessions whose operations ended, and were refused.
use Rattle.std.specs.Prelude.{ℕ, zero, suc, nat_lt, if◌then◌else◌, List, [], ◌∷◌, ◌++◌, map, flat_map, take, drop, length, Option, Some, None}
use Rattle.std.specs.List.{range_with_len}
use Rattle.logical_time.specs.declared.fault.Fault.{Fault}
use Rattle.messages.specs.declared.outcome.Outcome.{Outcome}
use Rattle.messages.specs.Topology.{TopologyValue, session_node}
use Rattle.actors.specs.Seats.{SeatValue}
use Rattle.threaded.specs.OneRun.{seat_of}
use Rattle.workload.specs.declared.transcript.Entry.{Entry}
use Rattle.workload.specs.declared.transcript.Entry.TheVariants as entry
use Rattle.workload.specs.Simulation.{entry_by}

-- how many refusals, from the first on, came before the operation of this number was accepted
abbrev pub count_before : ℕ → List (ℕ × Fault) → ℕ
count_before number [] = zero
count_before number (r ∷ rs) = if nat_lt r.0 number then suc (count_before number rs) else zero

abbrev pub refusal_by : ℕ → (ℕ × Fault) → Entry
refusal_by node r = entry.Refused node r.1

-- the refusals that came before the operation of this number was accepted
abbrev pub told_before : ℕ → ℕ → List (ℕ × Fault) → List Entry
told_before node number refusals = map (refusal_by node) (take (count_before number refusals) refusals)

-- the others
abbrev pub left_after : ℕ → List (ℕ × Fault) → List (ℕ × Fault)
left_after number refusals = drop (count_before number refusals) refusals

-- The outcomes of a session in order, and each refusal before the outcomes of the operations that were accepted later.
abbrev pub told_by : ℕ → List (ℕ × Outcome) → List (ℕ × Fault) → List Entry
told_by node [] refusals = map (refusal_by node) refusals
told_by node (o ∷ os) refusals =
    told_before node o.0 refusals ++ (entry_by node o.0 o.1 ∷ told_by node os (left_after o.0 refusals))

abbrev pub told_at : ℕ → Option SeatValue → List Entry
told_at node None = []
told_at node (Some s) = told_by node s.outcomes s.refusals

-- what is told of the sessions of a topology by their seats, one session after the other
abbrev pub told_of : TopologyValue → List SeatValue → List Entry
told_of top seats = flat_map (λ i. told_at (session_node top i) (seat_of seats (session_node top i))) (range_with_len 0 (length top.homes))
