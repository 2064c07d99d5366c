-- Worked runs of one shard of two in a data centre: node 0, which coordinates writes of the row b, or node 1, a cohort of
-- writes of the row a. Session 2 writes, session 3 reads.
use Rattle.std.specs.Prelude.{ℕ, List, [], ◌∷◌}
use Rattle.logical_time.specs.Stamps.{StampValue, TxnValue}
use Rattle.column_family.specs.declared.batch.Change.{Change}
use Rattle.column_family.specs.declared.batch.Mutation.TheVariants.{Insert}
use Rattle.slice.specs.declared.predicate.Predicate.TheVariants.{Names}
use Rattle.slice.specs.declared.read.Read.{Read}
use Rattle.messages.specs.declared.body.Body.TheVariants as body
use Rattle.messages.specs.Topology.{TopologyValue}
use Rattle.messages.specs.Words.{envelope}
use Rattle.messages.specs.declared.event.ActorEvent.{ActorEvent}
use Rattle.messages.specs.declared.event.ActorEvent.TheVariants.{Handle, Collect}
use Rattle.shard.specs.Events.{ShardRun, shard_run}

-- ## Words

abbrev pub two_shards : TopologyValue
two_shards = record { dcs = 1; shards = 2; schema = (102 ∷ []) ∷ []; homes = 0 ∷ 0 ∷ [] }

abbrev pub key_a : List ℕ
key_a = 97 ∷ []

abbrev pub key_b : List ℕ
key_b = 98 ∷ []

abbrev pub name_x : List ℕ
name_x = 120 ∷ []

-- the column x of a row gets this value of one byte
abbrev pub x_gets : List ℕ → ℕ → List Change
x_gets key value = record { row = record { family = 102 ∷ []; key = key }; mutation = Insert name_x (value ∷ []) } ∷ []

-- the column x of a row is read
abbrev pub x_of : List ℕ → Read
x_of key = record { family = 102 ∷ []; keys = key ∷ []; predicate = Names (name_x ∷ []) }

-- a session's first operation
abbrev pub first_of : ℕ → TxnValue
first_of session = record { session = session; number = 1 }

abbrev pub stamp : ℕ → StampValue
stamp time = record { time = time; node = 0 }

-- at this time session 2 sends the coordinator a write of its row alone
abbrev pub begins : ℕ → ActorEvent
begins time = Handle (envelope 2 0 time (body.Begin (first_of 2) (x_gets key_b 1) [] []))

-- at time 1 a session sends the cohort its part of a write, with this value
abbrev pub prepares : ℕ → ℕ → ActorEvent
prepares session value = Handle (envelope session 1 1 (body.Prepare (first_of session) (x_gets key_a value) 0))

-- at this time the coordinator tells the cohort the commit time and the stamp of a session's write
abbrev pub commits : ℕ → ℕ → ℕ → StampValue → ActorEvent
commits time session commit s = Handle (envelope 0 1 time (body.Commit (first_of session) commit s))

-- at this time session 3 reads a row of this shard
abbrev pub reads : ℕ → ℕ → List ℕ → ActorEvent
reads node time key = Handle (envelope 3 node time (body.Read 1 (x_of key)))

-- at this time session 3 reads a row of this shard as of another time
abbrev pub reads_at : ℕ → ℕ → ℕ → List ℕ → ActorEvent
reads_at node time as_of key = Handle (envelope 3 node time (body.ReadAt 1 as_of (x_of key)))

-- ## Honest envelopes

-- row b is committed at time 2, then read: valid from 2 to 3; and then read at time 2
abbrev pub written_then_read : ShardRun
written_then_read = shard_run two_shards 0 (begins 1 ∷ reads 0 1 key_b ∷ reads_at 0 4 2 key_b ∷ [])

-- row b is read, valid from 0 to 2, and then committed at time 3
abbrev pub read_then_written : ShardRun
read_then_written = shard_run two_shards 0 (reads 0 1 key_b ∷ begins 1 ∷ [])

-- row a is marked at time 2, read at time 2, and then committed at time 3
abbrev pub read_at_its_mark : ShardRun
read_at_its_mark = shard_run two_shards 1 (prepares 2 1 ∷ reads_at 1 2 2 key_a ∷ commits 3 2 3 (stamp 3) ∷ [])

-- what is below 10 is collected, and then row b is read at time 9
abbrev pub collected_then_read : ShardRun
collected_then_read = shard_run two_shards 0 (Collect 10 ∷ reads_at 0 9 9 key_b ∷ [])

-- ## Envelopes that are honest but for one thing

-- row a is marked at time 2 and read, valid from 0 to 2; and then the commit time is told to be 2, the time of the mark
abbrev pub commit_at_its_mark : ShardRun
commit_at_its_mark = shard_run two_shards 1 (prepares 2 1 ∷ reads 1 1 key_a ∷ commits 2 2 2 (stamp 2) ∷ [])

-- a read of row a at time 3 waits for what marks it; a NotBy names time 3, and then the commit time is told to be 3
abbrev pub excluded_at_its_commit_time : ShardRun
excluded_at_its_commit_time =
    shard_run two_shards 1
    (prepares 2 1 ∷ reads_at 1 3 3 key_a ∷ Handle (envelope 0 1 4 (body.NotBy (first_of 2) 3)) ∷ commits 4 2 3 (stamp 3) ∷ [])

-- a ReadAt of row b, sent at time 1, names time 3, at which the row is then committed
abbrev pub read_above_its_time : ShardRun
read_above_its_time = shard_run two_shards 0 (reads_at 0 1 3 key_b ∷ begins 1 ∷ [])

-- two writes of row a are committed at the times 3 and 4, and told to have one stamp; then the row is read
abbrev pub two_of_one_stamp : ShardRun
two_of_one_stamp =
    shard_run two_shards 1
    (prepares 2 1 ∷ prepares 3 2 ∷ commits 3 2 3 (stamp 3) ∷ commits 4 3 4 (stamp 3) ∷ reads 1 5 key_a ∷ [])
