-- The events of a session: Done, PartNow, PartAt, DepOk, and the outcome taken.
use Rattle.std.specs.Prelude.{ℕ, max, Bool, true, false, ◌&&◌, ◌==◌, not, List, [], ◌∷◌, ◌++◌, map, filter, None, Result}
use Rattle.std.specs.List.{list_any}
use Rattle.logical_time.specs.declared.fault.Fault.{Fault}
use Rattle.logical_time.specs.Stamps.{StampValue, TxnValue, WriterValue}
use Rattle.slice.specs.declared.read.Read.{Read}
use Rattle.messages.specs.declared.rows_now.RowNow.{RowNow}
use Rattle.messages.specs.declared.rows_at.RowAt.{RowAt}
use Rattle.messages.specs.declared.rows_at.AtTime.{AtTime}
use Rattle.messages.specs.declared.rows_at.AtTime.TheVariants as at
use Rattle.messages.specs.declared.outcome.Outcome.{Outcome}
use Rattle.messages.specs.declared.outcome.Outcome.TheVariants as outcome
use Rattle.messages.specs.declared.body.Body.{Body}
use Rattle.messages.specs.declared.body.Body.TheVariants.{ReadAt, DepOk, Done, PartNow, PartAt}
use Rattle.messages.specs.declared.envelope.Envelope.{Envelope}
use Rattle.messages.specs.Topology.{TopologyValue}
use Rattle.messages.specs.Words.{is_same_txn, envelope}
use Rattle.messages.specs.Clock.{ticked, on_clock}
use Rattle.messages.specs.Session.{SessionState, SessionStep, Open, Idle, Writing, FirstRound, SecondRound, Moving, HeardNow, HeardAt, calm, ended, moved}
use Rattle.messages.specs.Rounds.{asked_nodes, is_missing, all_heard, effective_time, late_keys, late_nodes, is_missing_at, all_heard_at, rows_taken, answer_of, with_writers}

-- ## The end of a read

-- a read completes: the floor is its effective time, its writers are added to the dependencies
abbrev pub answered : ℕ → SessionState → Read → ℕ → List RowAt → SessionStep
answered n a read time rows =
    ended n a time (with_writers a.dependencies rows) (outcome.Read time (answer_of read rows))

-- a read ends without an answer: floor and dependencies stay
abbrev pub given_up : ℕ → SessionState → SessionStep
given_up n a = ended n a a.floor a.dependencies outcome.Collected

-- ## Done

-- the open write is committed: the floor rises to its commit time, the dependencies become this write alone
abbrev pub written : ℕ → SessionState → ℕ → TxnValue → ℕ → StampValue → SessionStep
written n a coordinator t commit stamp =
    ended n a (max a.floor commit) (record { txn = t; shard = coordinator } ∷ []) (outcome.Wrote commit stamp)

-- Done while a write is open, by whether it is of this one
abbrev pub done_if : Bool → ℕ → SessionState → ℕ → TxnValue → ℕ → StampValue → SessionStep
done_if true n a coordinator t commit stamp = written n a coordinator t commit stamp
done_if false n a coordinator t commit stamp = calm n a

abbrev pub done_in : Open → ℕ → ℕ → SessionState → TxnValue → ℕ → StampValue → SessionStep
done_in (Writing coordinator) me n a t commit stamp =
    done_if (is_same_txn t (record { session = me; number = a.count })) n a coordinator t commit stamp
done_in Idle me n a t commit stamp = calm n a
done_in (FirstRound read heard) me n a t commit stamp = calm n a
done_in (SecondRound read time first heard) me n a t commit stamp = calm n a
done_in (Moving dc left floor) me n a t commit stamp = calm n a

-- Done: ends the open write, if it is of this one; else ignored
abbrev pub on_done : ℕ → ℕ → SessionState → TxnValue → ℕ → StampValue → SessionStep
on_done me n a t commit stamp = done_in a.current me n a t commit stamp

-- ## PartNow

-- what a shard is asked in the second round: the rows of it that aren't accepted
abbrev pub read_at_of : ℕ → ℕ → SessionState → Read → ℕ → List HeardNow → ℕ → Envelope
read_at_of me n a read time heard node =
    envelope me node n (ReadAt a.count time (record read { keys = late_keys time heard node }))

-- the first round is over: the read completes where each row is accepted, else ReadAt goes to the shards of the other
-- rows, by ascending shard
abbrev pub second_if : List ℕ → ℕ → ℕ → SessionState → Read → ℕ → List HeardNow → SessionStep
second_if [] me n a read time heard = answered n a read time (rows_taken time heard [])
second_if (s ∷ ss) me n a read time heard =
    record {
      state = record a { clock = n; current = SecondRound read time heard [] };
      sends = map (read_at_of me n a read time heard) (s ∷ ss);
    }

abbrev pub second : TopologyValue → ℕ → ℕ → SessionState → Read → ℕ → List HeardNow → SessionStep
second top me n a read time heard = second_if (late_nodes (asked_nodes top a read) time heard) me n a read time heard

-- an answer of the first round was kept, by whether all asked shards have answered: the last one gives the effective
-- time
abbrev pub heard_if : Bool → TopologyValue → ℕ → ℕ → SessionState → Read → List HeardNow → SessionStep
heard_if true top me n a read heard = second top me n a read (effective_time a.floor heard) heard
heard_if false top me n a read heard = record { state = record a { clock = n; current = FirstRound read heard }; sends = [] }

abbrev pub heard_now : TopologyValue → ℕ → ℕ → SessionState → Read → List HeardNow → SessionStep
heard_now top me n a read heard = heard_if (all_heard (asked_nodes top a read) heard) top me n a read heard

-- PartNow in a first round, by whether it is of this read and this shard is missing
abbrev pub part_now_if : Bool → TopologyValue → ℕ → ℕ → SessionState → Read → List HeardNow → ℕ → List RowNow → SessionStep
part_now_if false top me n a read heard from rows = calm n a
part_now_if true top me n a read heard from rows =
    heard_now top me n a read (heard ++ record { from = from; rows = rows } ∷ [])

abbrev pub part_now_in : Open → TopologyValue → ℕ → ℕ → SessionState → ℕ → ℕ → List RowNow → SessionStep
part_now_in (FirstRound read heard) top me n a from number rows =
    part_now_if ((number == a.count) && is_missing (asked_nodes top a read) heard from) top me n a read heard from rows
part_now_in Idle top me n a from number rows = calm n a
part_now_in (Writing coordinator) top me n a from number rows = calm n a
part_now_in (SecondRound read time first heard) top me n a from number rows = calm n a
part_now_in (Moving dc left floor) top me n a from number rows = calm n a

-- PartNow: kept where it is of the open read in its first round and this shard hasn't answered; else ignored
abbrev pub on_part_now : TopologyValue → ℕ → ℕ → SessionState → ℕ → ℕ → List RowNow → SessionStep
on_part_now top me n a from number rows = part_now_in a.current top me n a from number rows

-- ## PartAt

-- an answer of the second round was kept, by whether all its shards have answered
abbrev pub heard_at_if : Bool → ℕ → SessionState → Read → ℕ → List HeardNow → List HeardAt → SessionStep
heard_at_if true n a read time first heard = answered n a read time (rows_taken time first heard)
heard_at_if false n a read time first heard =
    record { state = record a { clock = n; current = SecondRound read time first heard }; sends = [] }

abbrev pub heard_at : TopologyValue → ℕ → SessionState → Read → ℕ → List HeardNow → List HeardAt → SessionStep
heard_at top n a read time first heard =
    heard_at_if (all_heard_at (asked_nodes top a read) time first heard) n a read time first heard

-- an awaited answer of the second round: Collected ends the read
abbrev pub taken_at : AtTime → TopologyValue → ℕ → SessionState → Read → ℕ → List HeardNow → List HeardAt → ℕ → SessionStep
taken_at at.Collected top n a read time first heard from = given_up n a
taken_at (at.Rows rows) top n a read time first heard from =
    heard_at top n a read time first (heard ++ record { from = from; rows = rows } ∷ [])

-- PartAt in a second round, by whether it is of this read and this shard is awaited
abbrev pub part_at_if : Bool → TopologyValue → ℕ → SessionState → Read → ℕ → List HeardNow → List HeardAt → ℕ → AtTime → SessionStep
part_at_if false top n a read time first heard from answer = calm n a
part_at_if true top n a read time first heard from answer = taken_at answer top n a read time first heard from

abbrev pub part_at_in : Open → TopologyValue → ℕ → SessionState → ℕ → ℕ → AtTime → SessionStep
part_at_in (SecondRound read time first heard) top n a from number answer =
    part_at_if ((number == a.count) && is_missing_at (asked_nodes top a read) time first heard from) top n a read time first heard from answer
part_at_in Idle top n a from number answer = calm n a
part_at_in (Writing coordinator) top n a from number answer = calm n a
part_at_in (FirstRound read heard) top n a from number answer = calm n a
part_at_in (Moving dc left floor) top n a from number answer = calm n a

-- PartAt: kept where it is of the open read in its second round and this shard is awaited; else ignored
abbrev pub on_part_at : TopologyValue → ℕ → SessionState → ℕ → ℕ → AtTime → SessionStep
on_part_at top n a from number answer = part_at_in a.current top n a from number answer

-- ## DepOk

-- what is missing once the answer about this transaction is there
abbrev pub left_after : TxnValue → List WriterValue → List WriterValue
left_after t left = filter (λ w. not (is_same_txn w.txn t)) left

-- whether the answer about this transaction is missing
abbrev pub is_left : TxnValue → List WriterValue → Bool
is_left t left = list_any (λ w. is_same_txn w.txn t) left

-- a missing answer came, by what is left: the last one ends the move
abbrev pub moving_on : List WriterValue → ℕ → SessionState → ℕ → ℕ → SessionStep
moving_on [] n a dc floor = moved n a dc floor
moving_on (w ∷ ws) n a dc floor = record { state = record a { clock = n; current = Moving dc (w ∷ ws) floor }; sends = [] }

-- an answer while a move is open, by whether it is for this move and missing
abbrev pub dep_ok_if : Bool → ℕ → SessionState → ℕ → List WriterValue → ℕ → TxnValue → ℕ → SessionStep
dep_ok_if true n a dc left floor dependency commit = moving_on (left_after dependency left) n a dc (max floor commit)
dep_ok_if false n a dc left floor dependency commit = calm n a

abbrev pub dep_ok_in : Open → ℕ → ℕ → SessionState → TxnValue → TxnValue → ℕ → SessionStep
dep_ok_in (Moving dc left floor) me n a dependency waiter commit =
    dep_ok_if (is_same_txn waiter (record { session = me; number = a.count }) && is_left dependency left) n a dc left floor dependency commit
dep_ok_in Idle me n a dependency waiter commit = calm n a
dep_ok_in (Writing coordinator) me n a dependency waiter commit = calm n a
dep_ok_in (FirstRound read heard) me n a dependency waiter commit = calm n a
dep_ok_in (SecondRound read time first heard) me n a dependency waiter commit = calm n a

-- DepOk: counted once where it is for the open move. Else ignored, so also one for an earlier move, whose waiter has an earlier
-- number
abbrev pub on_dep_ok : ℕ → ℕ → SessionState → TxnValue → TxnValue → ℕ → SessionStep
on_dep_ok me n a dependency waiter commit = dep_ok_in a.current me n a dependency waiter commit

-- ## Events

-- what a body from a sender makes of a session, at the clock of the event. What is for a shard is ignored
abbrev pub heard : TopologyValue → ℕ → ℕ → SessionState → ℕ → Body → SessionStep
heard top me n a from (Done txn commit stamp) = on_done me n a txn commit stamp
heard top me n a from (PartNow number rows) = on_part_now top me n a from number rows
heard top me n a from (PartAt number time answer) = on_part_at top n a from number answer
heard top me n a from (DepOk dependency waiter commit) = on_dep_ok me n a dependency waiter commit
heard top me n a from body = calm n a

-- a session handles an envelope: refused where its clock would leave its range
abbrev pub session_handle : TopologyValue → ℕ → SessionState → Envelope → Result SessionStep Fault
session_handle top me a e = on_clock (ticked a.clock e.time) (λ n. heard top me n a e.from e.body)

-- the last outcome is taken; no event, and the clock stays
abbrev pub session_taken : SessionState → SessionState
session_taken a = record a { untaken = None }
