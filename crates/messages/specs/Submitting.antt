-- A session's step at a submission.
use Rattle.std.specs.Prelude.{ℕ, ◌+◌, Bool, true, false, ◌==◌, nat_lt, List, [], ◌∷◌, map, Option, Some, None, Result, Err}
use Rattle.logical_time.specs.declared.fault.Fault.{Fault}
use Rattle.logical_time.specs.declared.fault.Fault.TheVariants.{Busy, AlreadyHome, UnknownHome}
use Rattle.logical_time.specs.Stamps.{TxnValue, WriterValue}
use Rattle.column_family.specs.declared.batch.Change.{Change}
use Rattle.column_family.specs.Places.{normal_of}
use Rattle.slice.specs.declared.read.Read.{Read}
use Rattle.planner.specs.Checks.{batch_fault, read_fault}
use Rattle.planner.specs.Plan.{part_for, coordinator_of, cohorts_of, keys_for, shards_asked}
use Rattle.messages.specs.declared.op.Op.{Op}
use Rattle.messages.specs.declared.op.Op.TheVariants as op
use Rattle.messages.specs.declared.body.Body.TheVariants as body
use Rattle.messages.specs.declared.envelope.Envelope.{Envelope}
use Rattle.messages.specs.Topology.{TopologyValue, shard_node}
use Rattle.messages.specs.Words.{envelope}
use Rattle.messages.specs.Clock.{ticked, on_clock}
use Rattle.messages.specs.Session.{SessionState, SessionStep, Writing, FirstRound, Moving, is_idle, moved}

-- the number of the next transaction
abbrev pub next_txn : ℕ → SessionState → TxnValue
next_txn me a = record { session = me; number = a.count + 1 }

-- a shard of the session's home
abbrev pub home_node : TopologyValue → SessionState → ℕ → ℕ
home_node top a shard = shard_node top a.home shard

-- the coordinator's part of a batch, with the cohorts and the session's dependencies
abbrev pub begin_of : TopologyValue → ℕ → ℕ → SessionState → List Change → Envelope
begin_of top me n a batch =
    envelope me (home_node top a (coordinator_of top.shards batch)) n
    (body.Begin (next_txn me a) (part_for top.shards (normal_of batch) (coordinator_of top.shards batch)) (cohorts_of top.shards batch) a.dependencies)

-- the part of a cohort
abbrev pub prepare_of : TopologyValue → ℕ → ℕ → SessionState → List Change → ℕ → Envelope
prepare_of top me n a batch shard =
    envelope me (home_node top a shard) n
    (body.Prepare (next_txn me a) (part_for top.shards (normal_of batch) shard) (coordinator_of top.shards batch))

-- a batch is accepted: Begin to its coordinator, then Prepare to the cohorts by ascending shard
abbrev pub write_begun : TopologyValue → ℕ → ℕ → SessionState → List Change → SessionStep
write_begun top me n a batch =
    record {
      state =
          record a {
            clock = n;
            count = a.count + 1;
            current = Writing (coordinator_of top.shards batch);
            untaken = None;
          };
      sends = begin_of top me n a batch ∷ map (prepare_of top me n a batch) (cohorts_of top.shards batch);
    }

-- what a read asks of a shard: those of its keys that lie there
abbrev pub share_of : TopologyValue → Read → ℕ → Read
share_of top read shard = record read { keys = keys_for top.shards read.keys shard }

-- a read is accepted: Read to each shard that holds an asked key, by ascending shard
abbrev pub read_begun : TopologyValue → ℕ → ℕ → SessionState → Read → SessionStep
read_begun top me n a read =
    record {
      state = record a { clock = n; count = a.count + 1; current = FirstRound read []; untaken = None };
      sends =
          map (λ s. envelope me (home_node top a s) n (body.Read (a.count + 1) (share_of top read s))) (shards_asked top.shards read.keys);
    }

-- the check of a dependency, to its coordinator in the new data centre: what waits is the move
abbrev pub check_of : TopologyValue → ℕ → ℕ → SessionState → ℕ → WriterValue → Envelope
check_of top me n a dc w = envelope me (shard_node top dc w.shard) n (body.DepCheck w.txn (next_txn me a))

-- a move is accepted, by what the session depends on: without dependencies it ends at once, else DepCheck for each of them, in
-- the order of the transactions' numbers
abbrev pub move_if : List WriterValue → TopologyValue → ℕ → ℕ → SessionState → ℕ → SessionStep
move_if [] top me n a dc = moved n (record a { count = a.count + 1 }) dc 0
move_if (w ∷ ws) top me n a dc =
    record {
      state = record a { clock = n; count = a.count + 1; current = Moving dc (w ∷ ws) 0; untaken = None };
      sends = map (check_of top me n a dc) (w ∷ ws);
    }

abbrev pub move_begun : TopologyValue → ℕ → ℕ → SessionState → ℕ → SessionStep
move_begun top me n a dc = move_if a.dependencies top me n a dc

abbrev pub begun : TopologyValue → ℕ → ℕ → SessionState → Op → SessionStep
begun top me n a (op.Batch batch) = write_begun top me n a batch
begun top me n a (op.Read read) = read_begun top me n a read
begun top me n a (op.Move dc) = move_begun top me n a dc

-- why a move is refused, by whether there is such a data centre and whether it is where the session is
abbrev pub move_fault_if : Bool → Bool → Option Fault
move_fault_if false same = Some UnknownHome
move_fault_if true true = Some AlreadyHome
move_fault_if true false = None

abbrev pub move_fault : TopologyValue → ℕ → ℕ → Option Fault
move_fault top home dc = move_fault_if (nat_lt dc top.dcs) (dc == home)

-- why an operation of a session at this home is refused for what it asks, if it is
abbrev pub plan_fault : TopologyValue → ℕ → Op → Option Fault
plan_fault top home (op.Batch batch) = batch_fault top.schema batch
plan_fault top home (op.Read read) = read_fault top.schema read
plan_fault top home (op.Move dc) = move_fault top home dc

-- refused where an operation is open, and else as this says
abbrev pub busy_or : Bool → Option Fault → Option Fault
busy_or false fault = Some Busy
busy_or true fault = fault

-- why a session refuses a submission before the clock is looked at: an open operation, then what the operation asks
abbrev pub submit_fault : TopologyValue → SessionState → Op → Option Fault
submit_fault top a o = busy_or (is_idle a.current) (plan_fault top a.home o)

abbrev pub submit_if : Option Fault → TopologyValue → ℕ → SessionState → Op → Result SessionStep Fault
submit_if (Some e) top me a o = Err e
submit_if None top me a o = on_clock (ticked a.clock a.clock) (λ n. begun top me n a o)

-- A session accepts an operation, which then has the next number: an event without a message. Refused where one is
-- open, where what it asks is refused, and where the clock would leave its range, in this order.
abbrev pub session_submit : TopologyValue → ℕ → SessionState → Op → Result SessionStep Fault
session_submit top me a o = submit_if (submit_fault top a o) top me a o
