-- Worked runs of reads at several times: two that wait for one transaction, one after another, and reads of rows with and
-- without deletions.
use Rattle.std.specs.Prelude.{ℕ, List, [], ◌∷◌, ◌++◌, map}
use Rattle.column_family.specs.declared.batch.Change.{Change}
use Rattle.column_family.specs.declared.batch.Mutation.TheVariants.{DeleteRow}
use Rattle.messages.specs.Topology.{TopologyValue}
use Rattle.world.specs.Run.{Run, RunEvent, Collect, run}
use Rattle.world.specs.Worked.{actors, insert, write, read, deliver, family_f, key_a, key_b, key_c, key_d, name_x, name_y, two_shards, b_and_a, second_round}

-- ## Two reads that wait

-- two shards of one data centre, nodes 0 and 1, with the sessions 2, 3 and 4
abbrev pub two_shards_of_three : TopologyValue
two_shards_of_three = actors 1 2 (0 ∷ 0 ∷ 0 ∷ [])

-- A batch is prepared and undecided. Two sessions, whose own writes were committed at 3 and at 10, read a row that the
-- batch touches, and the cohort asks for the batch for each of them
abbrev pub both_wait : List RunEvent
both_wait =
    b_and_a ∷ deliver (0 ∷ 1 ∷ []) ++ write 3 (insert key_d name_x 9 ∷ []) ∷ deliver (3 ∷ 4 ∷ []) ++ read 3 (key_a ∷ []) (name_x ∷ []) ∷ deliver (5 ∷ 6 ∷ 7 ∷ [])
    ++ Collect 1 0 ∷ write 4 (insert key_c name_x 1 ∷ []) ∷ deliver (9 ∷ 10 ∷ []) ++ read 4 (key_a ∷ []) (name_x ∷ []) ∷ deliver (11 ∷ 12 ∷ 13 ∷ [])

-- the batch is excluded at 3, which lets the one read go and not the other
abbrev pub one_is_let_go : List RunEvent
one_is_let_go = both_wait ++ deliver (8 ∷ 15 ∷ [])

-- then the batch is committed at 10, and the other read shows it
abbrev pub reads_wait_at_two_times : Run
reads_wait_at_two_times = run two_shards_of_three (one_is_let_go ++ deliver (16 ∷ 2 ∷ 17 ∷ 19 ∷ []))

-- the times of the reads that wait on a shard, in the order of their arrival
abbrev pub times_waited : Run → ℕ → List ℕ
times_waited w node = map (λ x. x.time) (w.shards node).waiting

-- ## A read after another

-- a session that has read at 3 reads a row in which nothing was ever written
abbrev pub read_after_a_read : Run
read_after_a_read = run two_shards (second_round ++ deliver (9 ∷ 10 ∷ 11 ∷ 12 ∷ []) ++ read 3 (key_c ∷ []) (name_x ∷ []) ∷ deliver (13 ∷ 14 ∷ []))

-- ## Deletions of a row

-- one shard, node 0, with the sessions 1, 2 and 3
abbrev pub one_shard_of_three : TopologyValue
one_shard_of_three = actors 1 1 (0 ∷ 0 ∷ 0 ∷ [])

-- a row is deleted
abbrev pub delete_row : List ℕ → Change
delete_row key = record { row = record { family = family_f; key = key }; mutation = DeleteRow }

-- a column is inserted; a session reads it, another a column that was never there
abbrev pub row_without_deletion : Run
row_without_deletion =
    run one_shard_of_three
    (write 1 (insert key_b name_x 1 ∷ []) ∷ deliver (0 ∷ []) ++ read 2 (key_b ∷ []) (name_x ∷ []) ∷ deliver (2 ∷ 3 ∷ []) ++ read 3 (key_b ∷ []) (name_y ∷ [])
    ∷ deliver (4 ∷ 5 ∷ []))

-- a column is inserted, and then its row is deleted
abbrev pub row_with_newer_deletion : Run
row_with_newer_deletion =
    run one_shard_of_three
    (write 1 (insert key_b name_x 1 ∷ []) ∷ deliver (0 ∷ 1 ∷ []) ++ write 1 (delete_row key_b ∷ []) ∷ deliver (2 ∷ []) ++ read 2 (key_b ∷ []) (name_x ∷ [])
    ∷ deliver (4 ∷ 5 ∷ []) ++ read 3 (key_b ∷ []) (name_y ∷ []) ∷ deliver (6 ∷ 7 ∷ []))

-- a row is deleted, and then a column is inserted
abbrev pub row_with_older_deletion : Run
row_with_older_deletion =
    run one_shard_of_three
    (write 1 (delete_row key_b ∷ []) ∷ deliver (0 ∷ 1 ∷ []) ++ write 1 (insert key_b name_x 1 ∷ []) ∷ deliver (2 ∷ []) ++ read 2 (key_b ∷ []) (name_x ∷ [])
    ∷ deliver (4 ∷ 5 ∷ []) ++ read 3 (key_b ∷ []) (name_y ∷ []) ∷ deliver (6 ∷ 7 ∷ []))
