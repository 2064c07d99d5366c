-- Worked envelopes, of a store with two data centres of two shards: nodes 0 and 1, nodes 2 and 3, and sessions 4 and 5.
-- A family f (102), a row b (98), a column x (120), a value 1 (49).
use Rattle.std.specs.Prelude.{ℕ, List, [], ◌∷◌}
use Rattle.logical_time.specs.Stamps.{StampValue, TxnValue, WriterValue}
use Rattle.column_family.specs.declared.batch.Change.{Change}
use Rattle.column_family.specs.declared.batch.Mutation.TheVariants.{Insert}
use Rattle.slice.specs.declared.column.Column.{Column}
use Rattle.slice.specs.declared.predicate.Predicate.TheVariants.{Names}
use Rattle.slice.specs.declared.read.Read.{Read}
use Rattle.messages.specs.declared.rows_now.RowNow.{RowNow}
use Rattle.messages.specs.declared.rows_at.RowAt.{RowAt}
use Rattle.messages.specs.declared.rows_at.AtTime.TheVariants.{Collected, Rows}
use Rattle.messages.specs.declared.body.Body.{Body}
use Rattle.messages.specs.declared.body.Body.TheVariants as body
use Rattle.messages.specs.declared.envelope.Envelope.{Envelope}

-- the first write of session 4
abbrev pub txn : TxnValue
txn = record { session = 4; number = 1 }

-- it is stamped by shard 0
abbrev pub stamp : StampValue
stamp = record { time = 6; node = 0 }

-- the second write of session 5
abbrev pub dependency : TxnValue
dependency = record { session = 5; number = 2 }

-- which shard 1 coordinated
abbrev pub before : WriterValue
before = record { txn = dependency; shard = 1 }

-- x = 1 is inserted
abbrev pub insertion : Change
insertion = record { row = record { family = 102 ∷ []; key = 98 ∷ [] }; mutation = Insert (120 ∷ []) (49 ∷ []) }

-- column x of row b is read
abbrev pub asked : Read
asked = record { family = 102 ∷ []; keys = (98 ∷ []) ∷ []; predicate = Names ((120 ∷ []) ∷ []) }

-- x = 1
abbrev pub column : Column
column = record { name = 120 ∷ []; value = 49 ∷ [] }

-- row b, which rests on that write, from time 6 to 7
abbrev pub row_now : RowNow
row_now = record { key = 98 ∷ []; columns = column ∷ []; writers = before ∷ []; evt = 6; lvt = 7 }

-- the same row at a time
abbrev pub row_at : RowAt
row_at = record { key = 98 ∷ []; columns = column ∷ []; writers = before ∷ [] }

-- from whom, to whom, and the clock
abbrev pub envelope : ℕ → ℕ → ℕ → Body → Envelope
envelope from to clock said = record { from = from; to = to; time = clock; body = said }

-- ## Each kind

-- a session begins a write of two shards: it inserts x = 1 at the coordinator, and depends on one write
abbrev pub begin : Envelope
begin = envelope 4 0 3 (body.Begin txn (insertion ∷ []) (1 ∷ []) (before ∷ []))

-- 0004 0000 0000000000000003 01 0004 0000000000000001 00000001 0166 000162 00 000178 0000000131 02 00000001 0005
-- 0000000000000002 01
abbrev pub begin_bytes : List ℕ
begin_bytes =
    0 ∷ 4 ∷ 0 ∷ 0 ∷ 0 ∷ 0 ∷ 0 ∷ 0 ∷ 0 ∷ 0 ∷ 0 ∷ 3 ∷ 1 ∷ 0 ∷ 4 ∷ 0 ∷ 0 ∷ 0 ∷ 0 ∷ 0 ∷ 0 ∷ 0 ∷ 1 ∷ 0 ∷ 0 ∷ 0 ∷ 1 ∷ 1 ∷
    102 ∷ 0 ∷ 1 ∷ 98 ∷ 0 ∷ 0 ∷ 1 ∷ 120 ∷ 0 ∷ 0 ∷ 0 ∷ 1 ∷ 49 ∷ 2 ∷ 0 ∷ 0 ∷ 0 ∷ 1 ∷ 0 ∷ 5 ∷ 0 ∷ 0 ∷ 0 ∷ 0 ∷ 0 ∷ 0 ∷ 0 ∷
    2 ∷ 1 ∷ []

-- it has the cohort, shard 1, prepare the same part
abbrev pub prepare : Envelope
prepare = envelope 4 1 3 (body.Prepare txn (insertion ∷ []) 0)

-- 0004 0001 0000000000000003 02 0004 0000000000000001 00000001 0166 000162 00 000178 0000000131 00
abbrev pub prepare_bytes : List ℕ
prepare_bytes =
    0 ∷ 4 ∷ 0 ∷ 1 ∷ 0 ∷ 0 ∷ 0 ∷ 0 ∷ 0 ∷ 0 ∷ 0 ∷ 3 ∷ 2 ∷ 0 ∷ 4 ∷ 0 ∷ 0 ∷ 0 ∷ 0 ∷ 0 ∷ 0 ∷ 0 ∷ 1 ∷ 0 ∷ 0 ∷ 0 ∷ 1 ∷ 1 ∷
    102 ∷ 0 ∷ 1 ∷ 98 ∷ 0 ∷ 0 ∷ 1 ∷ 120 ∷ 0 ∷ 0 ∷ 0 ∷ 1 ∷ 49 ∷ 0 ∷ []

-- the cohort has prepared
abbrev pub yes : Envelope
yes = envelope 1 0 5 (body.Yes txn)

-- 0001 0000 0000000000000005 03 0004 0000000000000001
abbrev pub yes_bytes : List ℕ
yes_bytes = 0 ∷ 1 ∷ 0 ∷ 0 ∷ 0 ∷ 0 ∷ 0 ∷ 0 ∷ 0 ∷ 0 ∷ 0 ∷ 5 ∷ 3 ∷ 0 ∷ 4 ∷ 0 ∷ 0 ∷ 0 ∷ 0 ∷ 0 ∷ 0 ∷ 0 ∷ 1 ∷ []

-- decided: commit time 6
abbrev pub commit : Envelope
commit = envelope 0 1 7 (body.Commit txn 6 stamp)

-- 0000 0001 0000000000000007 04 0004 0000000000000001 0000000000000006 0000000000000006 0000
abbrev pub commit_bytes : List ℕ
commit_bytes =
    0 ∷ 0 ∷ 0 ∷ 1 ∷ 0 ∷ 0 ∷ 0 ∷ 0 ∷ 0 ∷ 0 ∷ 0 ∷ 7 ∷ 4 ∷ 0 ∷ 4 ∷ 0 ∷ 0 ∷ 0 ∷ 0 ∷ 0 ∷ 0 ∷ 0 ∷ 1 ∷ 0 ∷ 0 ∷ 0 ∷ 0 ∷ 0 ∷
    0 ∷ 0 ∷ 6 ∷ 0 ∷ 0 ∷ 0 ∷ 0 ∷ 0 ∷ 0 ∷ 0 ∷ 6 ∷ 0 ∷ 0 ∷ []

-- a check is answered: it is decided
abbrev pub at : Envelope
at = envelope 0 1 8 (body.At txn 6 stamp)

-- 0000 0001 0000000000000008 05 0004 0000000000000001 0000000000000006 0000000000000006 0000
abbrev pub at_bytes : List ℕ
at_bytes =
    0 ∷ 0 ∷ 0 ∷ 1 ∷ 0 ∷ 0 ∷ 0 ∷ 0 ∷ 0 ∷ 0 ∷ 0 ∷ 8 ∷ 5 ∷ 0 ∷ 4 ∷ 0 ∷ 0 ∷ 0 ∷ 0 ∷ 0 ∷ 0 ∷ 0 ∷ 1 ∷ 0 ∷ 0 ∷ 0 ∷ 0 ∷ 0 ∷
    0 ∷ 0 ∷ 6 ∷ 0 ∷ 0 ∷ 0 ∷ 0 ∷ 0 ∷ 0 ∷ 0 ∷ 6 ∷ 0 ∷ 0 ∷ []

-- or it is not, by time 5
abbrev pub not_by : Envelope
not_by = envelope 0 1 8 (body.NotBy txn 5)

-- 0000 0001 0000000000000008 06 0004 0000000000000001 0000000000000005
abbrev pub not_by_bytes : List ℕ
not_by_bytes =
    0 ∷ 0 ∷ 0 ∷ 1 ∷ 0 ∷ 0 ∷ 0 ∷ 0 ∷ 0 ∷ 0 ∷ 0 ∷ 8 ∷ 6 ∷ 0 ∷ 4 ∷ 0 ∷ 0 ∷ 0 ∷ 0 ∷ 0 ∷ 0 ∷ 0 ∷ 1 ∷ 0 ∷ 0 ∷ 0 ∷ 0 ∷ 0 ∷
    0 ∷ 0 ∷ 5 ∷ []

-- the cohort asks whether it commits by time 5
abbrev pub check : Envelope
check = envelope 1 0 7 (body.Check txn 5)

-- 0001 0000 0000000000000007 07 0004 0000000000000001 0000000000000005
abbrev pub check_bytes : List ℕ
check_bytes =
    0 ∷ 1 ∷ 0 ∷ 0 ∷ 0 ∷ 0 ∷ 0 ∷ 0 ∷ 0 ∷ 0 ∷ 0 ∷ 7 ∷ 7 ∷ 0 ∷ 4 ∷ 0 ∷ 0 ∷ 0 ∷ 0 ∷ 0 ∷ 0 ∷ 0 ∷ 1 ∷ 0 ∷ 0 ∷ 0 ∷ 0 ∷ 0 ∷
    0 ∷ 0 ∷ 5 ∷ []

-- the first round of the session's operation 2
abbrev pub read : Envelope
read = envelope 4 0 9 (body.Read 2 asked)

-- 0004 0000 0000000000000009 08 0000000000000002 0166 00000001 000162 00 00000001 000178
abbrev pub read_bytes : List ℕ
read_bytes =
    0 ∷ 4 ∷ 0 ∷ 0 ∷ 0 ∷ 0 ∷ 0 ∷ 0 ∷ 0 ∷ 0 ∷ 0 ∷ 9 ∷ 8 ∷ 0 ∷ 0 ∷ 0 ∷ 0 ∷ 0 ∷ 0 ∷ 0 ∷ 2 ∷ 1 ∷ 102 ∷ 0 ∷ 0 ∷ 0 ∷ 1 ∷ 0 ∷
    1 ∷ 98 ∷ 0 ∷ 0 ∷ 0 ∷ 0 ∷ 1 ∷ 0 ∷ 1 ∷ 120 ∷ []

-- its second round, at time 6
abbrev pub read_at : Envelope
read_at = envelope 4 0 9 (body.ReadAt 2 6 asked)

-- 0004 0000 0000000000000009 09 0000000000000002 0000000000000006 0166 00000001 000162 00 00000001 000178
abbrev pub read_at_bytes : List ℕ
read_at_bytes =
    0 ∷ 4 ∷ 0 ∷ 0 ∷ 0 ∷ 0 ∷ 0 ∷ 0 ∷ 0 ∷ 0 ∷ 0 ∷ 9 ∷ 9 ∷ 0 ∷ 0 ∷ 0 ∷ 0 ∷ 0 ∷ 0 ∷ 0 ∷ 2 ∷ 0 ∷ 0 ∷ 0 ∷ 0 ∷ 0 ∷ 0 ∷ 0 ∷
    6 ∷ 1 ∷ 102 ∷ 0 ∷ 0 ∷ 0 ∷ 1 ∷ 0 ∷ 1 ∷ 98 ∷ 0 ∷ 0 ∷ 0 ∷ 0 ∷ 1 ∷ 0 ∷ 1 ∷ 120 ∷ []

-- the coordinator's part goes to the other data centre
abbrev pub repl_begin : Envelope
repl_begin = envelope 0 2 7 (body.ReplBegin (1 ∷ []) txn (insertion ∷ []) stamp (before ∷ []))

-- 0000 0002 0000000000000007 0a 02 0004 0000000000000001 00000001 0166 000162 00 000178 0000000131 0000000000000006
-- 0000 00000001 0005 0000000000000002 01
abbrev pub repl_begin_bytes : List ℕ
repl_begin_bytes =
    0 ∷ 0 ∷ 0 ∷ 2 ∷ 0 ∷ 0 ∷ 0 ∷ 0 ∷ 0 ∷ 0 ∷ 0 ∷ 7 ∷ 10 ∷ 2 ∷ 0 ∷ 4 ∷ 0 ∷ 0 ∷ 0 ∷ 0 ∷ 0 ∷ 0 ∷ 0 ∷ 1 ∷ 0 ∷ 0 ∷ 0 ∷ 1 ∷
    1 ∷ 102 ∷ 0 ∷ 1 ∷ 98 ∷ 0 ∷ 0 ∷ 1 ∷ 120 ∷ 0 ∷ 0 ∷ 0 ∷ 1 ∷ 49 ∷ 0 ∷ 0 ∷ 0 ∷ 0 ∷ 0 ∷ 0 ∷ 0 ∷ 6 ∷ 0 ∷ 0 ∷ 0 ∷ 0 ∷ 0 ∷
    1 ∷ 0 ∷ 5 ∷ 0 ∷ 0 ∷ 0 ∷ 0 ∷ 0 ∷ 0 ∷ 0 ∷ 2 ∷ 1 ∷ []

-- and so does the cohort's
abbrev pub repl_part : Envelope
repl_part = envelope 1 3 8 (body.ReplPart txn (insertion ∷ []) stamp 0)

-- 0001 0003 0000000000000008 0b 0004 0000000000000001 00000001 0166 000162 00 000178 0000000131 0000000000000006 0000
-- 00
abbrev pub repl_part_bytes : List ℕ
repl_part_bytes =
    0 ∷ 1 ∷ 0 ∷ 3 ∷ 0 ∷ 0 ∷ 0 ∷ 0 ∷ 0 ∷ 0 ∷ 0 ∷ 8 ∷ 11 ∷ 0 ∷ 4 ∷ 0 ∷ 0 ∷ 0 ∷ 0 ∷ 0 ∷ 0 ∷ 0 ∷ 1 ∷ 0 ∷ 0 ∷ 0 ∷ 1 ∷ 1 ∷
    102 ∷ 0 ∷ 1 ∷ 98 ∷ 0 ∷ 0 ∷ 1 ∷ 120 ∷ 0 ∷ 0 ∷ 0 ∷ 1 ∷ 49 ∷ 0 ∷ 0 ∷ 0 ∷ 0 ∷ 0 ∷ 0 ∷ 0 ∷ 6 ∷ 0 ∷ 0 ∷ 0 ∷ []

-- the cohort there has its part
abbrev pub notify : Envelope
notify = envelope 3 2 10 (body.Notify txn)

-- 0003 0002 000000000000000a 0c 0004 0000000000000001
abbrev pub notify_bytes : List ℕ
notify_bytes = 0 ∷ 3 ∷ 0 ∷ 2 ∷ 0 ∷ 0 ∷ 0 ∷ 0 ∷ 0 ∷ 0 ∷ 0 ∷ 10 ∷ 12 ∷ 0 ∷ 4 ∷ 0 ∷ 0 ∷ 0 ∷ 0 ∷ 0 ∷ 0 ∷ 0 ∷ 1 ∷ []

-- and is to prepare it
abbrev pub prepare_remote : Envelope
prepare_remote = envelope 2 3 11 (body.PrepareRemote txn)

-- 0002 0003 000000000000000b 0d 0004 0000000000000001
abbrev pub prepare_remote_bytes : List ℕ
prepare_remote_bytes =
    0 ∷ 2 ∷ 0 ∷ 3 ∷ 0 ∷ 0 ∷ 0 ∷ 0 ∷ 0 ∷ 0 ∷ 0 ∷ 11 ∷ 13 ∷ 0 ∷ 4 ∷ 0 ∷ 0 ∷ 0 ∷ 0 ∷ 0 ∷ 0 ∷ 0 ∷ 1 ∷ []

-- whether the dependency is committed there
abbrev pub dep_check : Envelope
dep_check = envelope 2 3 9 (body.DepCheck dependency txn)

-- 0002 0003 0000000000000009 0e 0005 0000000000000002 0004 0000000000000001
abbrev pub dep_check_bytes : List ℕ
dep_check_bytes =
    0 ∷ 2 ∷ 0 ∷ 3 ∷ 0 ∷ 0 ∷ 0 ∷ 0 ∷ 0 ∷ 0 ∷ 0 ∷ 9 ∷ 14 ∷ 0 ∷ 5 ∷ 0 ∷ 0 ∷ 0 ∷ 0 ∷ 0 ∷ 0 ∷ 0 ∷ 2 ∷ 0 ∷ 4 ∷ 0 ∷ 0 ∷ 0 ∷
    0 ∷ 0 ∷ 0 ∷ 0 ∷ 1 ∷ []

-- it is, at time 4
abbrev pub dep_ok : Envelope
dep_ok = envelope 3 2 10 (body.DepOk dependency txn 4)

-- 0003 0002 000000000000000a 0f 0005 0000000000000002 0004 0000000000000001 0000000000000004
abbrev pub dep_ok_bytes : List ℕ
dep_ok_bytes =
    0 ∷ 3 ∷ 0 ∷ 2 ∷ 0 ∷ 0 ∷ 0 ∷ 0 ∷ 0 ∷ 0 ∷ 0 ∷ 10 ∷ 15 ∷ 0 ∷ 5 ∷ 0 ∷ 0 ∷ 0 ∷ 0 ∷ 0 ∷ 0 ∷ 0 ∷ 2 ∷ 0 ∷ 4 ∷ 0 ∷ 0 ∷ 0 ∷
    0 ∷ 0 ∷ 0 ∷ 0 ∷ 1 ∷ 0 ∷ 0 ∷ 0 ∷ 0 ∷ 0 ∷ 0 ∷ 0 ∷ 4 ∷ []

-- the write is committed: to its session
abbrev pub done : Envelope
done = envelope 0 4 7 (body.Done txn 6 stamp)

-- 0000 0004 0000000000000007 10 0004 0000000000000001 0000000000000006 0000000000000006 0000
abbrev pub done_bytes : List ℕ
done_bytes =
    0 ∷ 0 ∷ 0 ∷ 4 ∷ 0 ∷ 0 ∷ 0 ∷ 0 ∷ 0 ∷ 0 ∷ 0 ∷ 7 ∷ 16 ∷ 0 ∷ 4 ∷ 0 ∷ 0 ∷ 0 ∷ 0 ∷ 0 ∷ 0 ∷ 0 ∷ 1 ∷ 0 ∷ 0 ∷ 0 ∷ 0 ∷ 0 ∷
    0 ∷ 0 ∷ 6 ∷ 0 ∷ 0 ∷ 0 ∷ 0 ∷ 0 ∷ 0 ∷ 0 ∷ 6 ∷ 0 ∷ 0 ∷ []

-- the answer in the first round
abbrev pub part_now : Envelope
part_now = envelope 0 4 10 (body.PartNow 2 (row_now ∷ []))

-- 0000 0004 000000000000000a 11 0000000000000002 00000001 000162 00000001 000178 0000000131 00000001 0005
-- 0000000000000002 01 0000000000000006 0000000000000007
abbrev pub part_now_bytes : List ℕ
part_now_bytes =
    0 ∷ 0 ∷ 0 ∷ 4 ∷ 0 ∷ 0 ∷ 0 ∷ 0 ∷ 0 ∷ 0 ∷ 0 ∷ 10 ∷ 17 ∷ 0 ∷ 0 ∷ 0 ∷ 0 ∷ 0 ∷ 0 ∷ 0 ∷ 2 ∷ 0 ∷ 0 ∷ 0 ∷ 1 ∷ 0 ∷ 1 ∷ 98 ∷
    0 ∷ 0 ∷ 0 ∷ 1 ∷ 0 ∷ 1 ∷ 120 ∷ 0 ∷ 0 ∷ 0 ∷ 1 ∷ 49 ∷ 0 ∷ 0 ∷ 0 ∷ 1 ∷ 0 ∷ 5 ∷ 0 ∷ 0 ∷ 0 ∷ 0 ∷ 0 ∷ 0 ∷ 0 ∷ 2 ∷ 1 ∷ 0 ∷
    0 ∷ 0 ∷ 0 ∷ 0 ∷ 0 ∷ 0 ∷ 6 ∷ 0 ∷ 0 ∷ 0 ∷ 0 ∷ 0 ∷ 0 ∷ 0 ∷ 7 ∷ []

-- the answer in the second round
abbrev pub part_at : Envelope
part_at = envelope 0 4 10 (body.PartAt 2 6 (Rows (row_at ∷ [])))

-- 0000 0004 000000000000000a 12 0000000000000002 0000000000000006 01 00000001 000162 00000001 000178 0000000131
-- 00000001 0005 0000000000000002 01
abbrev pub part_at_bytes : List ℕ
part_at_bytes =
    0 ∷ 0 ∷ 0 ∷ 4 ∷ 0 ∷ 0 ∷ 0 ∷ 0 ∷ 0 ∷ 0 ∷ 0 ∷ 10 ∷ 18 ∷ 0 ∷ 0 ∷ 0 ∷ 0 ∷ 0 ∷ 0 ∷ 0 ∷ 2 ∷ 0 ∷ 0 ∷ 0 ∷ 0 ∷ 0 ∷ 0 ∷ 0 ∷
    6 ∷ 1 ∷ 0 ∷ 0 ∷ 0 ∷ 1 ∷ 0 ∷ 1 ∷ 98 ∷ 0 ∷ 0 ∷ 0 ∷ 1 ∷ 0 ∷ 1 ∷ 120 ∷ 0 ∷ 0 ∷ 0 ∷ 1 ∷ 49 ∷ 0 ∷ 0 ∷ 0 ∷ 1 ∷ 0 ∷ 5 ∷
    0 ∷ 0 ∷ 0 ∷ 0 ∷ 0 ∷ 0 ∷ 0 ∷ 2 ∷ 1 ∷ []

-- or that it came too late
abbrev pub collected : Envelope
collected = envelope 0 4 10 (body.PartAt 2 6 Collected)

-- 0000 0004 000000000000000a 12 0000000000000002 0000000000000006 00
abbrev pub collected_bytes : List ℕ
collected_bytes =
    0 ∷ 0 ∷ 0 ∷ 4 ∷ 0 ∷ 0 ∷ 0 ∷ 0 ∷ 0 ∷ 0 ∷ 0 ∷ 10 ∷ 18 ∷ 0 ∷ 0 ∷ 0 ∷ 0 ∷ 0 ∷ 0 ∷ 0 ∷ 2 ∷ 0 ∷ 0 ∷ 0 ∷ 0 ∷ 0 ∷ 0 ∷ 0 ∷
    6 ∷ 0 ∷ []

-- ## Faults, each the first of its bytes

-- a kind that is none: 19
-- 0001 0000 0000000000000005 13 0004 0000000000000001
abbrev pub unknown_kind : List ℕ
unknown_kind = 0 ∷ 1 ∷ 0 ∷ 0 ∷ 0 ∷ 0 ∷ 0 ∷ 0 ∷ 0 ∷ 0 ∷ 0 ∷ 5 ∷ 19 ∷ 0 ∷ 4 ∷ 0 ∷ 0 ∷ 0 ∷ 0 ∷ 0 ∷ 0 ∷ 0 ∷ 1 ∷ []

-- a clock of 2^48
-- 0001 0000 0001000000000000 03 0004 0000000000000001
abbrev pub late_clock : List ℕ
late_clock = 0 ∷ 1 ∷ 0 ∷ 0 ∷ 0 ∷ 1 ∷ 0 ∷ 0 ∷ 0 ∷ 0 ∷ 0 ∷ 0 ∷ 3 ∷ 0 ∷ 4 ∷ 0 ∷ 0 ∷ 0 ∷ 0 ∷ 0 ∷ 0 ∷ 0 ∷ 1 ∷ []

-- a coordinator 8
-- 0004 0001 0000000000000003 02 0004 0000000000000001 00000000 08
abbrev pub ninth_shard : List ℕ
ninth_shard =
    0 ∷ 4 ∷ 0 ∷ 1 ∷ 0 ∷ 0 ∷ 0 ∷ 0 ∷ 0 ∷ 0 ∷ 0 ∷ 3 ∷ 2 ∷ 0 ∷ 4 ∷ 0 ∷ 0 ∷ 0 ∷ 0 ∷ 0 ∷ 0 ∷ 0 ∷ 1 ∷ 0 ∷ 0 ∷ 0 ∷ 0 ∷ 8 ∷ []

-- an answer of kind 2
-- 0000 0004 000000000000000a 12 0000000000000002 0000000000000006 02
abbrev pub unknown_answer : List ℕ
unknown_answer =
    0 ∷ 0 ∷ 0 ∷ 4 ∷ 0 ∷ 0 ∷ 0 ∷ 0 ∷ 0 ∷ 0 ∷ 0 ∷ 10 ∷ 18 ∷ 0 ∷ 0 ∷ 0 ∷ 0 ∷ 0 ∷ 0 ∷ 0 ∷ 2 ∷ 0 ∷ 0 ∷ 0 ∷ 0 ∷ 0 ∷ 0 ∷ 0 ∷
    6 ∷ 2 ∷ []

-- nine changes in two bytes
-- 0004 0000 0000000000000003 01 0004 0000000000000001 00000009 0166
abbrev pub many_changes : List ℕ
many_changes =
    0 ∷ 4 ∷ 0 ∷ 0 ∷ 0 ∷ 0 ∷ 0 ∷ 0 ∷ 0 ∷ 0 ∷ 0 ∷ 3 ∷ 1 ∷ 0 ∷ 4 ∷ 0 ∷ 0 ∷ 0 ∷ 0 ∷ 0 ∷ 0 ∷ 0 ∷ 1 ∷ 0 ∷ 0 ∷ 0 ∷ 9 ∷ 1 ∷
    102 ∷ []

-- as many rows as four bytes count, in none
-- 0000 0004 000000000000000a 11 0000000000000002 ffffffff
abbrev pub many_rows : List ℕ
many_rows =
    0 ∷ 0 ∷ 0 ∷ 4 ∷ 0 ∷ 0 ∷ 0 ∷ 0 ∷ 0 ∷ 0 ∷ 0 ∷ 10 ∷ 17 ∷ 0 ∷ 0 ∷ 0 ∷ 0 ∷ 0 ∷ 0 ∷ 0 ∷ 2 ∷ 255 ∷ 255 ∷ 255 ∷ 255 ∷ []

-- a byte after the transaction
-- 0001 0000 0000000000000005 03 0004 0000000000000001 00
abbrev pub trailing_byte : List ℕ
trailing_byte = 0 ∷ 1 ∷ 0 ∷ 0 ∷ 0 ∷ 0 ∷ 0 ∷ 0 ∷ 0 ∷ 0 ∷ 0 ∷ 5 ∷ 3 ∷ 0 ∷ 4 ∷ 0 ∷ 0 ∷ 0 ∷ 0 ∷ 0 ∷ 0 ∷ 0 ∷ 1 ∷ 0 ∷ []

-- no byte
abbrev pub nothing : List ℕ
nothing = []

-- it ends inside the clock
-- 0001 0000 0000000000
abbrev pub cut_clock : List ℕ
cut_clock = 0 ∷ 1 ∷ 0 ∷ 0 ∷ 0 ∷ 0 ∷ 0 ∷ 0 ∷ 0 ∷ []

-- before the kind
-- 0001 0000 0000000000000005
abbrev pub without_kind : List ℕ
without_kind = 0 ∷ 1 ∷ 0 ∷ 0 ∷ 0 ∷ 0 ∷ 0 ∷ 0 ∷ 0 ∷ 0 ∷ 0 ∷ 5 ∷ []

-- a byte before its end
-- 0001 0000 0000000000000005 03 0004 00000000000000
abbrev pub cut_txn : List ℕ
cut_txn = 0 ∷ 1 ∷ 0 ∷ 0 ∷ 0 ∷ 0 ∷ 0 ∷ 0 ∷ 0 ∷ 0 ∷ 0 ∷ 5 ∷ 3 ∷ 0 ∷ 4 ∷ 0 ∷ 0 ∷ 0 ∷ 0 ∷ 0 ∷ 0 ∷ 0 ∷ []
