-- Worked runs, each with what comes of it. Keys, names and values are single letters and digits. Of two shards
-- the keys b and d lie on shard 0, the key a on shard 1.
use Rattle.std.specs.Prelude.{ℕ, ◌+◌, false, List, [], ◌∷◌, ◌++◌, ◌==◌, map, filter, flat_map, slice_get, Option, Some, None}
use Rattle.std.specs.List.{range_with_len}
use Rattle.logical_time.specs.Stamps.{TxnValue}
use Rattle.column_family.specs.declared.batch.Change.{Change}
use Rattle.column_family.specs.declared.batch.Mutation.TheVariants.{Insert, DeleteColumn}
use Rattle.column_family.specs.History.{History, table_at, live_value}
use Rattle.slice.specs.declared.column.Column.{Column}
use Rattle.slice.specs.declared.predicate.Predicate.TheVariants.{Names, Range}
use Rattle.slice.specs.declared.read.AnsweredRow.{AnsweredRow}
use Rattle.messages.specs.declared.rows_now.RowNow.{RowNow}
use Rattle.messages.specs.declared.body.Body.{Body}
use Rattle.messages.specs.declared.body.Body.TheVariants.{PartNow}
use Rattle.messages.specs.declared.envelope.Envelope.{Envelope}
use Rattle.messages.specs.declared.op.Op.TheVariants as op
use Rattle.messages.specs.declared.outcome.Outcome.{Outcome}
use Rattle.messages.specs.declared.outcome.Outcome.TheVariants as outcome
use Rattle.messages.specs.Topology.{TopologyValue, shard_count}
use Rattle.world.specs.Run.{Run, RunEvent, Submit, Deliver, Collect, run}
use Rattle.world.specs.Histories.{history_of}

-- ## Words for runs

-- the column family f
abbrev pub family_f : List ℕ
family_f = 102 ∷ []

abbrev pub key_a : List ℕ
key_a = 97 ∷ []

abbrev pub key_b : List ℕ
key_b = 98 ∷ []

abbrev pub key_c : List ℕ
key_c = 99 ∷ []

abbrev pub key_d : List ℕ
key_d = 100 ∷ []

abbrev pub name_c : List ℕ
name_c = 99 ∷ []

abbrev pub name_d : List ℕ
name_d = 100 ∷ []

abbrev pub name_x : List ℕ
name_x = 120 ∷ []

abbrev pub name_y : List ℕ
name_y = 121 ∷ []

abbrev pub name_z : List ℕ
name_z = 122 ∷ []

-- the value that is this digit
abbrev pub digit : ℕ → List ℕ
digit n = (48 + n) ∷ []

-- so many data centres of so many shards, with sessions at these homes
abbrev pub actors : ℕ → ℕ → List ℕ → TopologyValue
actors dcs shards homes = record { dcs = dcs; shards = shards; schema = family_f ∷ []; homes = homes }

-- a column of a row gets this digit
abbrev pub insert : List ℕ → List ℕ → ℕ → Change
insert key name n = record { row = record { family = family_f; key = key }; mutation = Insert name (digit n) }

-- a column is deleted
abbrev pub delete : List ℕ → List ℕ → Change
delete key name = record { row = record { family = family_f; key = key }; mutation = DeleteColumn name }

-- a session submits a batch of these changes
abbrev pub write : ℕ → List Change → RunEvent
write session changes = Submit session (op.Batch changes)

-- a session reads the columns with these names of these rows
abbrev pub read : ℕ → List (List ℕ) → List (List ℕ) → RunEvent
read session keys names = Submit session (op.Read (record { family = family_f; keys = keys; predicate = Names names }))

-- a session reads these rows whole, up to 100 columns each
abbrev pub read_whole : ℕ → List (List ℕ) → RunEvent
read_whole session keys =
    Submit session (op.Read (record { family = family_f; keys = keys; predicate = Range [] [] false 100 }))

-- these messages are delivered, in this order
abbrev pub deliver : List ℕ → List RunEvent
deliver numbers = map Deliver numbers

-- ## Words for what comes of them

-- the operation of this number of a session
abbrev pub operation : ℕ → ℕ → TxnValue
operation session number = record { session = session; number = number }

-- what came of a session's operations, oldest first
abbrev pub outcomes_of : Run → ℕ → List Outcome
outcomes_of w session = map (λ c. c.outcome) (filter (λ c. c.node == session) w.transcript)

-- the clocks of all shards, by node
abbrev pub shard_clocks : TopologyValue → Run → List ℕ
shard_clocks top w = map (λ node. (w.shards node).clock) (range_with_len 0 (shard_count top))

-- the times of all messages, in the order of sending: each is its sender's clock then
abbrev pub times_sent : Run → List ℕ
times_sent w = map (λ e. e.time) w.sent

abbrev pub rows_told : Body → List RowNow
rows_told (PartNow number rows) = rows
rows_told body = []

abbrev pub valid_times : Option Envelope → List ℕ
valid_times None = []
valid_times (Some e) = flat_map (λ r. r.evt ∷ r.lvt ∷ []) (rows_told e.body)

-- since when and until when each row is valid that the message of this number tells in the first round of a read
abbrev pub valid_in : Run → ℕ → List ℕ
valid_in w k = valid_times (slice_get w.sent k)

-- the commit times in a data centre, by ascending shard and in order
abbrev pub commit_times : TopologyValue → Run → ℕ → List ℕ
commit_times top w dc = map (λ c. c.commit) (history_of top w dc)

-- when a shard prepared its parts, in order
abbrev pub prepare_times : Run → ℕ → List ℕ
prepare_times w node = map (λ p. p.time) (w.shards node).prepared

-- the earliest valid times of the parts that a shard applied, in order
abbrev pub times_applied : Run → ℕ → List ℕ
times_applied w node = map (λ x. x.commit) (w.shards node).applied

-- the value of the column x of row b in the table of a history at a time
abbrev pub x_at : History → ℕ → Option (List ℕ)
x_at h time = live_value (table_at h time (record { row = record { family = family_f; key = key_b }; name = name_x }))

-- a write committed at this time, with this coordinator where it was submitted
abbrev pub wrote : ℕ → ℕ → Outcome
wrote time node = outcome.Wrote time (record { time = time; node = node })

-- a column that holds this digit
abbrev pub column : List ℕ → ℕ → Column
column name n = record { name = name; value = digit n }

-- a row as an answer shows it
abbrev pub row : List ℕ → List Column → AnsweredRow
row key columns = record { key = key; columns = columns }

-- ## One shard

abbrev pub one_shard : TopologyValue
one_shard = actors 1 1 (0 ∷ [])

-- a column is inserted, and then read back
abbrev pub insert_then_read : List RunEvent
insert_then_read =
    write 1 (insert key_b name_x 1 ∷ []) ∷ deliver (0 ∷ 1 ∷ []) ++ read 1 (key_b ∷ []) (name_x ∷ []) ∷ deliver (2 ∷ 3 ∷ [])

abbrev pub insert_and_read_back : Run
insert_and_read_back = run one_shard insert_then_read

-- a write is submitted, and its one message isn't handled
abbrev pub only_submitted : Run
only_submitted = run one_shard (write 1 (insert key_b name_x 1 ∷ []) ∷ [])

-- every message of a write comes twice
abbrev pub messages_come_again : Run
messages_come_again = run one_shard (write 1 (insert key_b name_x 1 ∷ []) ∷ deliver (0 ∷ 0 ∷ 1 ∷ 1 ∷ []))

-- a second write is submitted while the first is open
abbrev pub submitted_twice : List RunEvent
submitted_twice = write 1 (insert key_b name_x 1 ∷ []) ∷ write 1 (insert key_b name_y 2 ∷ []) ∷ []

-- A session at home in a data centre that isn't there: what it sends comes back to itself
abbrev pub home_is_nowhere : TopologyValue
home_is_nowhere = actors 1 1 (1 ∷ [])

-- it handles what it sent
abbrev pub sent_to_itself : Run
sent_to_itself = run home_is_nowhere (write 1 (insert key_b name_x 1 ∷ []) ∷ Deliver 0 ∷ [])

-- ## Two shards of one data centre: nodes 0 and 1, and the sessions 2 and 3

abbrev pub two_shards : TopologyValue
two_shards = actors 1 2 (0 ∷ 0 ∷ [])

-- a batch for both shards: b is on the coordinator's, a on the cohort's
abbrev pub b_and_a : RunEvent
b_and_a = write 2 (insert key_b name_x 1 ∷ insert key_a name_x 2 ∷ [])

-- both rows as that batch leaves them
abbrev pub both_rows : List AnsweredRow
both_rows = row key_b (column name_x 1 ∷ []) ∷ row key_a (column name_x 2 ∷ []) ∷ []

-- a batch is committed on both shards
abbrev pub two_shard_write : Run
two_shard_write = run two_shards (b_and_a ∷ deliver (0 ∷ 1 ∷ 2 ∷ 3 ∷ 4 ∷ []))

-- the batch is decided and the cohort doesn't know it yet; a read of both rows has come to its second round
abbrev pub second_round : List RunEvent
second_round = b_and_a ∷ deliver (0 ∷ 1 ∷ 2 ∷ []) ++ read 3 (key_b ∷ key_a ∷ []) (name_x ∷ []) ∷ deliver (5 ∷ 6 ∷ 7 ∷ 8 ∷ [])

-- the cohort asks the coordinator for the batch, which the read then shows whole
abbrev pub read_asks_coordinator : Run
read_asks_coordinator = run two_shards (second_round ++ deliver (9 ∷ 10 ∷ 11 ∷ 12 ∷ []))

-- the cohort has collected past the time of the second round before it is asked
abbrev pub second_round_collected : Run
second_round_collected = run two_shards (second_round ++ Collect 1 10 ∷ deliver (9 ∷ 10 ∷ []))

-- the same, and every other message is handled too
abbrev pub collected_and_quiet : Run
collected_and_quiet = run two_shards (second_round ++ Collect 1 10 ∷ deliver (9 ∷ 10 ∷ 3 ∷ 4 ∷ []))

-- the cohort collects past that time while it waits for the coordinator's answer
abbrev pub collected_while_waiting : Run
collected_while_waiting = run two_shards (second_round ++ Deliver 9 ∷ Collect 1 10 ∷ deliver (10 ∷ 11 ∷ 12 ∷ []))

-- it collects up to that time, and not past it
abbrev pub horizon_at_effective_time : Run
horizon_at_effective_time = run two_shards (second_round ++ Deliver 9 ∷ Collect 1 3 ∷ deliver (10 ∷ 11 ∷ 12 ∷ []))

-- the read is answered; then the commit comes to the cohort at last, and the question for the second round again
abbrev pub late_repeats : Run
late_repeats = run two_shards (second_round ++ deliver (9 ∷ 10 ∷ 11 ∷ 12 ∷ 3 ∷ 9 ∷ []))

-- A batch that is prepared and undecided is excluded at a read's time, which another write of its session has raised
-- above the mark. Then it is decided, later than that time
abbrev pub undecided_is_excluded : Run
undecided_is_excluded =
    run two_shards
    (b_and_a ∷ deliver (0 ∷ 1 ∷ []) ++ write 3 (insert key_d name_x 9 ∷ []) ∷ deliver (3 ∷ 4 ∷ [])
    ++ read 3 (key_a ∷ []) (name_x ∷ []) ∷ deliver (5 ∷ 6 ∷ 7 ∷ 8 ∷ 9 ∷ 10 ∷ 2 ∷ []))

-- A read of two whole rows, while a batch is decided and its cohort doesn't know it yet, which gives one of them a new
-- column: the mark stands on the row, so the column is seen
abbrev pub unseen_column_under_mark : Run
unseen_column_under_mark =
    run two_shards
    (write 2 (insert key_a name_c 0 ∷ []) ∷ deliver (0 ∷ 1 ∷ []) ++ write 2 (insert key_b name_x 1 ∷ insert key_a name_d 2 ∷ []) ∷ deliver (2 ∷ 3 ∷ 4 ∷ [])
    ++ read_whole 3 (key_a ∷ key_b ∷ []) ∷ deliver (7 ∷ 8 ∷ 9 ∷ 10 ∷ 11 ∷ 12 ∷ 13 ∷ 14 ∷ []))

-- A batch gives the row b the column y, and the row d the column x. Then another session reads the column x of b, which
-- nobody wrote: at time 0
abbrev pub read_beside_a_write : Run
read_beside_a_write =
    run two_shards
    (write 2 (insert key_b name_y 1 ∷ insert key_d name_x 2 ∷ []) ∷ deliver (0 ∷ 1 ∷ []) ++ read 3 (key_b ∷ []) (name_x ∷ []) ∷ deliver (2 ∷ 3 ∷ []))

-- a shard answers a read, and then commits a write of the same column before its answer comes to the session
abbrev pub write_after_the_answer : Run
write_after_the_answer =
    run two_shards
    (read 3 (key_b ∷ []) (name_x ∷ []) ∷ Deliver 0 ∷ write 2 (insert key_b name_x 1 ∷ []) ∷ deliver (2 ∷ 1 ∷ []))

-- the batch is decided and its session knows it, and the cohort doesn't yet
abbrev pub told_before_the_cohort : List RunEvent
told_before_the_cohort = b_and_a ∷ deliver (0 ∷ 1 ∷ 2 ∷ 4 ∷ [])

-- then another session reads the cohort's row
abbrev pub cohort_is_read : List RunEvent
cohort_is_read = read 3 (key_a ∷ []) (name_x ∷ []) ∷ deliver (5 ∷ 6 ∷ [])

-- ## The same shards with three sessions: 2, 3 and 4

abbrev pub three_sessions : TopologyValue
three_sessions = actors 1 2 (0 ∷ 0 ∷ 0 ∷ [])

-- b is written, and another session reads it at its commit time
abbrev pub b_is_read : List RunEvent
b_is_read =
    write 2 (insert key_b name_x 1 ∷ []) ∷ Deliver 0 ∷ read 3 (key_b ∷ []) (name_x ∷ []) ∷ deliver (2 ∷ 3 ∷ [])

-- then a is written, on the other shard and at the same time
abbrev pub a_is_written : List RunEvent
a_is_written = write 4 (insert key_a name_x 2 ∷ []) ∷ Deliver 4 ∷ []

-- b is written, and another session reads both rows at its commit time
abbrev pub both_are_read : List RunEvent
both_are_read =
    write 2 (insert key_b name_x 1 ∷ []) ∷ Deliver 0 ∷ read 3 (key_b ∷ key_a ∷ []) (name_x ∷ []) ∷ deliver (2 ∷ 3 ∷ 4 ∷ 5 ∷ [])

-- then a is written, one above that time
abbrev pub a_is_written_next : List RunEvent
a_is_written_next = write 4 (insert key_a name_x 2 ∷ []) ∷ Deliver 6 ∷ []

-- ## Two data centres of one shard: nodes 0 and 1, and sessions from 2 on

-- the session 2 is at home in the first data centre, 3 in the second
abbrev pub two_centres : TopologyValue
two_centres = actors 2 1 (0 ∷ 1 ∷ [])

-- both sessions insert the same column, and each write comes to the other data centre
abbrev pub inserts_meet : List RunEvent
inserts_meet =
    write 2 (insert key_b name_x 1 ∷ []) ∷ write 3 (insert key_b name_x 2 ∷ []) ∷ deliver (0 ∷ 1 ∷ 2 ∷ 4 ∷ 3 ∷ 5 ∷ [])

-- of two concurrent inserts the one with the greater stamp stays in both data centres
abbrev pub concurrent_inserts_meet : Run
concurrent_inserts_meet = run two_centres inserts_meet

-- in the second data centre the older stamp came later, and is never seen; both sessions read the column
abbrev pub older_stamp_arrives_late : Run
older_stamp_arrives_late =
    run two_centres
    (inserts_meet ++ read 3 (key_b ∷ []) (name_x ∷ []) ∷ read 2 (key_b ∷ []) (name_x ∷ []) ∷ deliver (6 ∷ 7 ∷ 8 ∷ 9 ∷ []))

-- a session inserts x and then y, and the second write comes to the other data centre first: it waits for the first
abbrev pub second_write_first : List RunEvent
second_write_first =
    write 2 (insert key_b name_x 1 ∷ []) ∷ deliver (0 ∷ 1 ∷ []) ++ write 2 (insert key_b name_y 2 ∷ []) ∷ deliver (3 ∷ 4 ∷ 5 ∷ 6 ∷ [])

abbrev pub read_x_y : RunEvent
read_x_y = read 3 (key_b ∷ []) (name_x ∷ name_y ∷ [])

-- a read in that data centre after the first write has come shows both
abbrev pub dependency_holds_back : Run
dependency_holds_back = run two_centres (second_write_first ++ deliver (2 ∷ 7 ∷ []) ++ read_x_y ∷ deliver (8 ∷ 9 ∷ []))

-- a read before that shows neither
abbrev pub read_before_dependency : Run
read_before_dependency = run two_centres (second_write_first ++ read_x_y ∷ deliver (7 ∷ 8 ∷ []))

-- three sessions at home in the first data centre
abbrev pub three_at_home : TopologyValue
three_at_home = actors 2 1 (0 ∷ 0 ∷ 0 ∷ [])

-- Two sessions write a column each, and a third reads both and then writes. Its write comes to the other data centre
-- before the two that it has read, and waits there for both
abbrev pub dependency_through_a_read : Run
dependency_through_a_read =
    run three_at_home
    (write 2 (insert key_b name_x 1 ∷ []) ∷ Deliver 0 ∷ write 3 (insert key_c name_y 1 ∷ []) ∷ Deliver 3
    ∷ read 4 (key_b ∷ []) (name_x ∷ []) ∷ deliver (6 ∷ 7 ∷ []) ++ read 4 (key_c ∷ []) (name_y ∷ []) ∷ deliver (8 ∷ 9 ∷ [])
    ++ write 4 (insert key_d name_z 1 ∷ []) ∷ deliver (10 ∷ 12 ∷ 13 ∷ 14 ∷ 5 ∷ 15 ∷ 2 ∷ 16 ∷ []))

-- a session deletes a column, and another reads that there is none: so it depends on the deletion
abbrev pub deletion_is_read : Run
deletion_is_read =
    run three_at_home (write 2 (delete key_b name_x ∷ []) ∷ deliver (0 ∷ 1 ∷ []) ++ read 4 (key_b ∷ []) (name_x ∷ []) ∷ deliver (3 ∷ 4 ∷ []))

-- ## Two data centres of two shards: nodes 0 to 3, and the session 4

abbrev pub two_by_two : TopologyValue
two_by_two = actors 2 2 (0 ∷ [])

-- a batch for both shards is committed in both data centres
abbrev pub write_is_replicated : Run
write_is_replicated =
    run two_by_two (write 4 (insert key_b name_x 1 ∷ insert key_a name_x 2 ∷ []) ∷ deliver (range_with_len 0 11))
