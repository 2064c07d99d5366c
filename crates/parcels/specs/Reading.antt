-- The envelope that bytes spell, or the first fault from the left. A field is a value, and the bytes after it.
use Rattle.std.specs.Prelude.{ℕ, ◌^◌, ◌==◌, List, [], ◌∷◌, Result, Ok, Err, nat_lt, if◌then◌else◌}
use Rattle.logical_time.specs.declared.fault.Fault.{Fault}
use Rattle.logical_time.specs.declared.fault.Fault.TheVariants.{UnknownTag, Truncated}
use Rattle.logical_time.specs.Stamps.{StampValue, TxnValue, WriterValue}
use Rattle.slice.specs.declared.column.Column.{Column}
use Rattle.slice.specs.declared.read.Read.{Read}
use Rattle.messages.specs.declared.rows_now.RowNow.{RowNow}
use Rattle.messages.specs.declared.rows_at.RowAt.{RowAt}
use Rattle.messages.specs.declared.rows_at.AtTime.{AtTime}
use Rattle.messages.specs.declared.rows_at.AtTime.TheVariants.{Collected, Rows}
use Rattle.messages.specs.declared.body.Body.{Body}
use Rattle.messages.specs.declared.body.Body.TheVariants as body
use Rattle.messages.specs.declared.envelope.Envelope.{Envelope}
use Rattle.messages.specs.CohortBits.{shards_in}
use Rattle.wire.specs.Reading.{◌>>=◌, number_at, sized_at, counted_at, change_at, predicate_at, whole_of}

-- ## Fields

abbrev pub Reads : Type 0 → Type 0
Reads X = List ℕ → Result (X × List ℕ) Fault

-- `UnknownTag` where the number is no time
unfoldable pub time_at : Reads ℕ
time_at bytes = number_at 8 bytes >>= λ n. if nat_lt n.0 (2 ^ 48) then Ok n else Err UnknownTag

-- `UnknownTag` where the number is no shard
unfoldable pub shard_at : Reads ℕ
shard_at [] = Err Truncated
shard_at (s ∷ rest) = if nat_lt s 8 then Ok (s, rest) else Err UnknownTag

unfoldable pub txn_at : Reads TxnValue
txn_at bytes = do
  session ← number_at 2 bytes
  number ← number_at 8 session.1
  Ok (record { session = session.0; number = number.0 }, number.1)

unfoldable pub stamp_at : Reads StampValue
stamp_at bytes = do
  time ← time_at bytes
  node ← number_at 2 time.1
  Ok (record { time = time.0; node = node.0 }, node.1)

unfoldable pub writer_at : Reads WriterValue
writer_at bytes = do
  txn ← txn_at bytes
  shard ← shard_at txn.1
  Ok (record { txn = txn.0; shard = shard.0 }, shard.1)

unfoldable pub cohorts_at : Reads (List ℕ)
cohorts_at [] = Err Truncated
cohorts_at (bits ∷ rest) = Ok (shards_in bits, rest)

unfoldable pub asked_at : Reads Read
asked_at bytes = do
  family ← sized_at 1 bytes
  keys ← counted_at (sized_at 2) family.1
  predicate ← predicate_at keys.1
  Ok (record { family = family.0; keys = keys.0; predicate = predicate.0 }, predicate.1)

unfoldable pub column_at : Reads Column
column_at bytes = do
  name ← sized_at 2 bytes
  value ← sized_at 4 name.1
  Ok (record { name = name.0; value = value.0 }, value.1)

unfoldable pub row_now_at : Reads RowNow
row_now_at bytes = do
  key ← sized_at 2 bytes
  columns ← counted_at column_at key.1
  writers ← counted_at writer_at columns.1
  evt ← time_at writers.1
  lvt ← time_at evt.1
  Ok (record { key = key.0; columns = columns.0; writers = writers.0; evt = evt.0; lvt = lvt.0 }, lvt.1)

unfoldable pub row_at_at : Reads RowAt
row_at_at bytes = do
  key ← sized_at 2 bytes
  columns ← counted_at column_at key.1
  writers ← counted_at writer_at columns.1
  Ok (record { key = key.0; columns = columns.0; writers = writers.0 }, writers.1)

unfoldable pub rows_at_at : Reads AtTime
rows_at_at bytes = do
  rows ← counted_at row_at_at bytes
  Ok (Rows rows.0, rows.1)

unfoldable pub at_time_at : Reads AtTime
at_time_at [] = Err Truncated
at_time_at (kind ∷ rest) = if kind == 0 then Ok (Collected, rest) else (if kind == 1 then rows_at_at rest else Err UnknownTag)

-- ## Messages

unfoldable pub begin_at : Reads Body
begin_at bytes = do
  txn ← txn_at bytes
  rows ← counted_at change_at txn.1
  cohorts ← cohorts_at rows.1
  dependencies ← counted_at writer_at cohorts.1
  Ok (body.Begin txn.0 rows.0 cohorts.0 dependencies.0, dependencies.1)

unfoldable pub prepare_at : Reads Body
prepare_at bytes = do
  txn ← txn_at bytes
  rows ← counted_at change_at txn.1
  shard ← shard_at rows.1
  Ok (body.Prepare txn.0 rows.0 shard.0, shard.1)

unfoldable pub yes_at : Reads Body
yes_at bytes = do
  txn ← txn_at bytes
  Ok (body.Yes txn.0, txn.1)

-- a transaction, its commit time and its stamp
unfoldable pub decision_at : Reads (TxnValue × ℕ × StampValue)
decision_at bytes = do
  txn ← txn_at bytes
  commit ← time_at txn.1
  stamp ← stamp_at commit.1
  Ok ((txn.0, commit.0, stamp.0), stamp.1)

unfoldable pub commit_at : Reads Body
commit_at bytes = do
  d ← decision_at bytes
  Ok (body.Commit d.0.0 d.0.1 d.0.2, d.1)

unfoldable pub at_at : Reads Body
at_at bytes = do
  d ← decision_at bytes
  Ok (body.At d.0.0 d.0.1 d.0.2, d.1)

unfoldable pub done_at : Reads Body
done_at bytes = do
  d ← decision_at bytes
  Ok (body.Done d.0.0 d.0.1 d.0.2, d.1)

unfoldable pub not_by_at : Reads Body
not_by_at bytes = do
  txn ← txn_at bytes
  time ← time_at txn.1
  Ok (body.NotBy txn.0 time.0, time.1)

unfoldable pub check_at : Reads Body
check_at bytes = do
  txn ← txn_at bytes
  time ← time_at txn.1
  Ok (body.Check txn.0 time.0, time.1)

unfoldable pub read_at : Reads Body
read_at bytes = do
  number ← number_at 8 bytes
  read ← asked_at number.1
  Ok (body.Read number.0 read.0, read.1)

unfoldable pub read_at_at : Reads Body
read_at_at bytes = do
  number ← number_at 8 bytes
  time ← time_at number.1
  read ← asked_at time.1
  Ok (body.ReadAt number.0 time.0 read.0, read.1)

unfoldable pub repl_begin_at : Reads Body
repl_begin_at bytes = do
  cohorts ← cohorts_at bytes
  txn ← txn_at cohorts.1
  rows ← counted_at change_at txn.1
  stamp ← stamp_at rows.1
  dependencies ← counted_at writer_at stamp.1
  Ok (body.ReplBegin cohorts.0 txn.0 rows.0 stamp.0 dependencies.0, dependencies.1)

unfoldable pub repl_part_at : Reads Body
repl_part_at bytes = do
  txn ← txn_at bytes
  rows ← counted_at change_at txn.1
  stamp ← stamp_at rows.1
  coordinator ← shard_at stamp.1
  Ok (body.ReplPart txn.0 rows.0 stamp.0 coordinator.0, coordinator.1)

unfoldable pub notify_at : Reads Body
notify_at bytes = do
  txn ← txn_at bytes
  Ok (body.Notify txn.0, txn.1)

unfoldable pub prepare_remote_at : Reads Body
prepare_remote_at bytes = do
  txn ← txn_at bytes
  Ok (body.PrepareRemote txn.0, txn.1)

unfoldable pub dep_check_at : Reads Body
dep_check_at bytes = do
  dependency ← txn_at bytes
  waiter ← txn_at dependency.1
  Ok (body.DepCheck dependency.0 waiter.0, waiter.1)

unfoldable pub dep_ok_at : Reads Body
dep_ok_at bytes = do
  dependency ← txn_at bytes
  waiter ← txn_at dependency.1
  commit ← time_at waiter.1
  Ok (body.DepOk dependency.0 waiter.0 commit.0, commit.1)

unfoldable pub part_now_at : Reads Body
part_now_at bytes = do
  number ← number_at 8 bytes
  rows ← counted_at row_now_at number.1
  Ok (body.PartNow number.0 rows.0, rows.1)

unfoldable pub part_at_at : Reads Body
part_at_at bytes = do
  number ← number_at 8 bytes
  time ← time_at number.1
  answer ← at_time_at time.1
  Ok (body.PartAt number.0 time.0 answer.0, answer.1)

-- what a message says, behind the number of its kind; `UnknownTag` where that is none
unfoldable pub said_at : Reads Body
said_at [] = Err Truncated
said_at (kind ∷ rest) =
    if kind == 1 then begin_at rest
    else (if kind == 2 then prepare_at rest
    else (if kind == 3 then yes_at rest
    else (if kind == 4 then commit_at rest
    else (if kind == 5 then at_at rest
    else (if kind == 6 then not_by_at rest
    else (if kind == 7 then check_at rest
    else (if kind == 8 then read_at rest
    else (if kind == 9 then read_at_at rest
    else (if kind == 10 then repl_begin_at rest
    else (if kind == 11 then repl_part_at rest
    else (if kind == 12 then notify_at rest
    else (if kind == 13 then prepare_remote_at rest
    else (if kind == 14 then dep_check_at rest
    else (if kind == 15 then dep_ok_at rest
    else (if kind == 16 then done_at rest
    else (if kind == 17 then part_now_at rest
    else (if kind == 18 then part_at_at rest
    else Err UnknownTag)))))))))))))))))

unfoldable pub envelope_at : Reads Envelope
envelope_at bytes = do
  from ← number_at 2 bytes
  to ← number_at 2 from.1
  time ← time_at to.1
  said ← said_at time.1
  Ok (record { from = from.0; to = to.0; time = time.0; body = said.0 }, said.1)

-- the envelope that is all of the bytes; `TrailingBytes` where something is left
unfoldable pub parcel_at : List ℕ → Result Envelope Fault
parcel_at bytes = envelope_at bytes >>= λ x. whole_of x
