-- A shard's step at Read and ReadAt, and how it lets waiting reads go.
use Rattle.std.specs.Prelude.{ℕ, Bool, true, false, ◌&&◌, not, ◌==◌, nat_lt, if◌then◌else◌, List, [], ◌∷◌, ◌++◌, map, filter}
use Rattle.std.specs.List.{list_any}
use Rattle.logical_time.specs.Stamps.{TxnValue, WriterValue}
use Rattle.slice.specs.declared.read.Read.{Read}
use Rattle.messages.specs.declared.rows_at.AtTime.{AtTime}
use Rattle.messages.specs.declared.rows_at.AtTime.TheVariants.{Collected, Rows}
use Rattle.messages.specs.declared.body.Body.TheVariants.{Check, PartNow, PartAt}
use Rattle.messages.specs.declared.envelope.Envelope.{Envelope}
use Rattle.messages.specs.Topology.{TopologyValue, dc_of, shard_node}
use Rattle.messages.specs.Words.{is_same_txn, in_writer_order, envelope}
use Rattle.messages.specs.Shard.{ShardState, ShardStep, WaitingRead, PreparedPart, quiet}
use Rattle.messages.specs.Known.{is_applied}
use Rattle.slice.specs.Rows.{row_of}
use Rattle.messages.specs.Rows.{row_now, row_at, touches_row}

-- the step that sends one envelope and changes the clock alone
abbrev pub answer : ℕ → ShardState → Envelope → ShardStep
answer n a e = record { state = record a { clock = n }; sends = e ∷ [] }

-- Read: sends PartNow
abbrev pub on_read : ℕ → ℕ → ShardState → ℕ → ℕ → Read → ShardStep
on_read me n a from number read = answer n a (envelope me from n (PartNow number (map (row_now n a read) read.keys)))

-- the rows at the time, or Collected where the horizon has passed it
abbrev pub at_time : ShardState → ℕ → Read → AtTime
at_time a time read = if nat_lt time a.low then Collected else Rows (map (row_at time a read) read.keys)

-- the answer to a read at a time, from the shard as it is
abbrev pub part_at : ℕ → ℕ → ShardState → WaitingRead → Envelope
part_at me n a x = envelope me x.session n (PartAt x.number x.time (at_time a x.time x.read))

-- the prepared parts with a mark below the time in an asked row
abbrev pub marks_below : ShardState → ℕ → Read → List PreparedPart
marks_below a time read =
    filter (λ p. list_any (λ key. touches_row (row_of read key) p) read.keys && not (is_applied p.txn a) && nat_lt p.time time) a.prepared

-- the transactions with a mark below the time in an asked row, with their coordinators, in order of transaction number
abbrev pub asked_below : ShardState → ℕ → Read → List WriterValue
asked_below a time read =
    in_writer_order (map (λ p. record { txn = p.txn; shard = p.coordinator }) (marks_below a time read))

abbrev pub check_of : TopologyValue → ℕ → ℕ → ℕ → WriterValue → Envelope
check_of top me n time w = envelope me (shard_node top (dc_of top me) w.shard) n (Check w.txn time)

-- whether this read of this session waits already
abbrev pub is_waiting : ShardState → ℕ → ℕ → Bool
is_waiting a session number = list_any (λ x. (x.session == session) && (x.number == number)) a.waiting

-- what a ReadAt asks, with the transactions that it waits for
abbrev pub waiting_read : ℕ → ℕ → ℕ → Read → List WriterValue → WaitingRead
waiting_read session number time read ws =
    record { session = session; number = number; time = time; read = read; left = map (λ w. w.txn) ws }

-- ReadAt, where it isn't waiting: without a transaction to ask for it is answered, else it waits for them
abbrev pub read_at_of : List WriterValue → TopologyValue → ℕ → ℕ → ShardState → ℕ → ℕ → ℕ → Read → ShardStep
read_at_of [] top me n a from number time read = answer n a (part_at me n a (waiting_read from number time read []))
read_at_of (w ∷ ws) top me n a from number time read =
    record {
      state = record a { clock = n; waiting = a.waiting ++ waiting_read from number time read (w ∷ ws) ∷ [] };
      sends = map (check_of top me n time) (w ∷ ws);
    }

-- ReadAt, by whether it waits already and whether the horizon is above its time
abbrev pub read_at_if : Bool → Bool → TopologyValue → ℕ → ℕ → ShardState → ℕ → ℕ → ℕ → Read → ShardStep
read_at_if true below top me n a from number time read = quiet n a
read_at_if false true top me n a from number time read = answer n a (envelope me from n (PartAt number time Collected))
read_at_if false false top me n a from number time read = read_at_of (asked_below a time read) top me n a from number time read

-- ReadAt: ignored where it waits already; Collected where the horizon is above its time; else a Check for each
-- transaction with a mark below the time in an asked row, in order of transaction number, or the rows if there is none
abbrev pub on_read_at : TopologyValue → ℕ → ℕ → ShardState → ℕ → ℕ → ℕ → Read → ShardStep
on_read_at top me n a from number time read =
    read_at_if (is_waiting a from number) (nat_lt time a.low) top me n a from number time read

-- the transactions without this one
abbrev pub without : TxnValue → List TxnValue → List TxnValue
without t ts = filter (λ u. not (is_same_txn u t)) ts

-- the waiting reads once those that pass the test no longer wait for the transaction
abbrev pub lessened : TxnValue → (WaitingRead → Bool) → List WaitingRead → List WaitingRead
lessened t p waiting = map (λ x. if p x then record x { left = without t x.left } else x) waiting

abbrev pub is_nothing : List TxnValue → Bool
is_nothing [] = true
is_nothing (t ∷ ts) = false

-- whether the read waits for nothing more
abbrev pub is_free : WaitingRead → Bool
is_free x = is_nothing x.left

-- A shard after a transaction was applied or excluded, at this clock and with these sends before: the reads that pass
-- the test no longer wait for it, and those that wait for nothing more are answered, in the order of their arrival.
abbrev pub let_go : ℕ → ℕ → ShardState → TxnValue → (WaitingRead → Bool) → List Envelope → ShardStep
let_go me n a t p sends =
    record {
      state = record a { clock = n; waiting = filter (λ x. not (is_free x)) (lessened t p a.waiting) };
      sends = sends ++ map (part_at me n a) (filter is_free (lessened t p a.waiting));
    }
