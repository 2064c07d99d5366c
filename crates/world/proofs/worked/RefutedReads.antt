-- Worked runs against forms that resemble what is promised of the tables that reads show, and of what is committed later.
use Rattle.std.proofs.Common.{ap, ◌∙◌, refl, ℕ, [], ◌∷◌, ◌++◌, Option, Some, None}
use Rattle.std.proofs.lemmas.List.Sorted.{IsPermutation-refl}
use Rattle.logical_time.specs.Stamps.{StampValue}
use Rattle.column_family.specs.History.{Stamped}
use Rattle.table.specs.Meaning.{meaning}
use Rattle.messages.specs.declared.op.Op.TheVariants as op
use Rattle.messages.specs.declared.outcome.Outcome.TheVariants as outcome
use Rattle.messages.specs.Words.{is_same_txn}
use Rattle.shard.proofs.lists.Lists.{same_if_equal}
use Rattle.shard.proofs.worked.Closed.{not_below, not_above, differ, at, none}
use Rattle.world.specs.Run.{Run, Completed, run}
use Rattle.world.specs.Histories.{decisions_in, history_of}
use Rattle.world.specs.Before.{IsSubmitted, Past}
use Rattle.world.specs.Entries.{named_by}
use Rattle.world.specs.Promises.{IsAnswered}
use Rattle.world.specs.Worked.{operation, column, row, wrote, insert, key_a, key_b, name_x, one_shard, two_shards, three_sessions, two_centres, insert_then_read, insert_and_read_back, both_are_read, a_is_written_next, b_is_read, a_is_written, older_stamp_arrives_late, read_beside_a_write, told_before_the_cohort, cohort_is_read}
use Rattle.world.specs.Lookalikes.{ReadsShowEarlierTable, ReadsShowLaterTable, ReadsShowFirstCentre, PastIsBelow, PastIsInFirstCentre, PastIsShown, CommitsAreAbove, LaterCommitsOfAnyRowAreAbove, LaterCommitsAreFarAbove, ReadsAreAboveTheirHome, CompletedWritesAreShown}
use Rattle.world.proofs.worked.Closed.{bytes_shown, not_committed_by, not_committed_below, own_past}
use Rattle.world.proofs.worked.WorkedEntries.{x_of, stamp, ended, decided}

-- ## Tables

-- the read of one shard: b at time 2
abbrev pub back : Completed
back = ended 1 2 0 (op.Read (x_of (key_b ∷ []))) (outcome.Read 2 (row key_b (column name_x 1 ∷ []) ∷ []))

pub back_answered : IsAnswered insert_and_read_back back (x_of (key_b ∷ [])) 2 (row key_b (column name_x 1 ∷ []) ∷ [])
back_answered = record { completed = at insert_and_read_back.transcript back 1 refl refl; op = refl; outcome = refl }

pub earlier_table : ¬ (ReadsShowEarlierTable one_shard insert_and_read_back)
earlier_table all =
    let h = history_of one_shard insert_and_read_back 0 in
    differ bytes_shown (row key_b (column name_x 1 ∷ []) ∷ []) (meaning (x_of (key_b ∷ [])) h 1) refl
    (all back (x_of (key_b ∷ [])) 2 (row key_b (column name_x 1 ∷ []) ∷ []) h back_answered (IsPermutation-refl h))

-- the read of both rows: at time 2, one before row a is written
abbrev of_both : Completed
of_both =
    ended 3 1 0 (op.Read (x_of (key_b ∷ key_a ∷ []))) (outcome.Read 2 (row key_b (column name_x 1 ∷ []) ∷ row key_a [] ∷ []))

abbrev next_commit : Run
next_commit = run three_sessions (both_are_read ++ a_is_written_next)

pub later_table : ¬ (ReadsShowLaterTable three_sessions next_commit)
later_table all =
    let h = history_of three_sessions next_commit 0 in
    let shown = row key_b (column name_x 1 ∷ []) ∷ row key_a [] ∷ [] in
    differ bytes_shown shown (meaning (x_of (key_b ∷ key_a ∷ [])) h 3) refl
    (all of_both (x_of (key_b ∷ key_a ∷ [])) 2 shown h
    (record { completed = at next_commit.transcript of_both 0 refl refl; op = refl; outcome = refl }) (IsPermutation-refl h))

-- the read of the second data centre, where the session's own write is committed at time 2: in the first it is at time 3
abbrev of_second : Completed
of_second = ended 3 2 1 (op.Read (x_of (key_b ∷ []))) (outcome.Read 2 (row key_b (column name_x 2 ∷ []) ∷ []))

second_answered : IsAnswered older_stamp_arrives_late of_second (x_of (key_b ∷ [])) 2 (row key_b (column name_x 2 ∷ []) ∷ [])
second_answered = record { completed = at older_stamp_arrives_late.transcript of_second 2 refl refl; op = refl; outcome = refl }

pub first_centre : ¬ (ReadsShowFirstCentre two_centres older_stamp_arrives_late)
first_centre all =
    let h = history_of two_centres older_stamp_arrives_late 0 in
    differ bytes_shown (row key_b (column name_x 2 ∷ []) ∷ []) (meaning (x_of (key_b ∷ [])) h 2) refl
    (all of_second (x_of (key_b ∷ [])) 2 (row key_b (column name_x 2 ∷ []) ∷ []) h second_answered (IsPermutation-refl h))

-- ## The past

before_back : Past one_shard insert_and_read_back (operation 1 2) (operation 1 1)
before_back =
    own_past one_shard insert_and_read_back (ended 1 1 0 (op.Batch (insert key_b name_x 1 ∷ [])) (wrote 2 0))
    (record { session = 1; number = 2; home = 0; time = 4; op = op.Read (x_of (key_b ∷ [])); dependencies = record { txn = operation 1 1; shard = 0 } ∷ [] })
    (insert key_b name_x 1 ∷ []) 0 1 refl refl refl refl refl refl refl refl

pub past_below : ¬ (PastIsBelow one_shard insert_and_read_back)
past_below all =
    not_committed_below one_shard insert_and_read_back 0 (operation 1 1) 2 refl
    (all back (x_of (key_b ∷ [])) 2 (row key_b (column name_x 1 ∷ []) ∷ []) (operation 1 1) back_answered before_back)

before_second : Past two_centres older_stamp_arrives_late (operation 3 2) (operation 3 1)
before_second =
    own_past two_centres older_stamp_arrives_late (ended 3 1 1 (op.Batch (insert key_b name_x 2 ∷ [])) (wrote 2 1))
    (record { session = 3; number = 2; home = 1; time = 4; op = op.Read (x_of (key_b ∷ [])); dependencies = record { txn = operation 3 1; shard = 0 } ∷ [] })
    (insert key_b name_x 2 ∷ []) 1 2 refl refl refl refl refl refl refl refl

pub past_in_first_centre : ¬ (PastIsInFirstCentre two_centres older_stamp_arrives_late)
past_in_first_centre all =
    not_committed_by two_centres older_stamp_arrives_late 0 (operation 3 1) 2 refl
    (all of_second (x_of (key_b ∷ [])) 2 (row key_b (column name_x 2 ∷ []) ∷ []) (operation 3 1) second_answered before_second)

-- at home the first session's write is hidden by that of the other data centre, which has the greater stamp
abbrev at_home : Completed
at_home = ended 2 2 0 (op.Read (x_of (key_b ∷ []))) (outcome.Read 3 (row key_b (column name_x 2 ∷ []) ∷ []))

before_home : Past two_centres older_stamp_arrives_late (operation 2 2) (operation 2 1)
before_home =
    own_past two_centres older_stamp_arrives_late (ended 2 1 0 (op.Batch (insert key_b name_x 1 ∷ [])) (wrote 2 0))
    (record { session = 2; number = 2; home = 0; time = 4; op = op.Read (x_of (key_b ∷ [])); dependencies = record { txn = operation 2 1; shard = 0 } ∷ [] })
    (insert key_b name_x 1 ∷ []) 0 3 refl refl refl refl refl refl refl refl

abbrev node_shown : Option Stamped → ℕ
node_shown None = 0
node_shown (Some n) = n.stamp.node

pub past_shown : ¬ (PastIsShown two_centres older_stamp_arrives_late)
past_shown all =
    let r =
    all at_home (x_of (key_b ∷ [])) 3 (row key_b (column name_x 2 ∷ []) ∷ []) (operation 2 1) (decided 2 2 (stamp 2 0)) (insert key_b name_x 1 ∷ []) key_b name_x
    (record { completed = at older_stamp_arrives_late.transcript at_home 3 refl refl; op = refl; outcome = refl }) before_home
    (at (decisions_in two_centres older_stamp_arrives_late 0) (decided 2 2 (stamp 2 0)) 0 refl refl) refl refl
    (at (key_b ∷ []) key_b 0 refl refl) refl refl
    in
    differ (λ n. n) 1 0 refl (ap node_shown r.1 ∙ ap (λ (s : StampValue). s.node) r.2)

-- ## Later commits

pub all_commits : ¬ (CommitsAreAbove one_shard insert_then_read [])
all_commits all =
    not_below 2 2 refl
    (all back (x_of (key_b ∷ [])) 2 (row key_b (column name_x 1 ∷ []) ∷ []) (decided 1 2 (stamp 2 0)) back_answered
    (at (decisions_in one_shard insert_and_read_back 0) (decided 1 2 (stamp 2 0)) 0 refl refl)
    (record {
      batch = insert key_b name_x 1 ∷ [];
      submitted = refl;
      key = key_b;
      asked = at (key_b ∷ []) key_b 0 refl refl;
      name = name_x;
      touches = refl;
    }))

-- the read of row b, at time 2: row a is committed at 2 as well, and later
abbrev of_b : Completed
of_b = ended 3 1 0 (op.Read (x_of (key_b ∷ []))) (outcome.Read 2 (row key_b (column name_x 1 ∷ []) ∷ []))

pub any_row : ¬ (LaterCommitsOfAnyRowAreAbove three_sessions b_is_read a_is_written)
any_row all =
    not_below 2 2 refl
    (all of_b (x_of (key_b ∷ [])) 2 (row key_b (column name_x 1 ∷ []) ∷ []) (decided 4 2 (stamp 2 1))
    (record { completed = at (run three_sessions b_is_read).transcript of_b 0 refl refl; op = refl; outcome = refl })
    (at (decisions_in three_sessions (run three_sessions (b_is_read ++ a_is_written)) 0) (decided 4 2 (stamp 2 1)) 1 refl refl)
    (λ has. none (λ d. is_same_txn d.txn (operation 4 1)) (decisions_in three_sessions (run three_sessions b_is_read) 0) (decided 4 2 (stamp 2 1)) refl has refl))

pub far_above : ¬ (LaterCommitsAreFarAbove three_sessions both_are_read a_is_written_next)
far_above all =
    not_below 3 3 refl
    (all of_both (x_of (key_b ∷ key_a ∷ [])) 2 (row key_b (column name_x 1 ∷ []) ∷ row key_a [] ∷ []) (decided 4 3 (stamp 3 1))
    (record { completed = at (run three_sessions both_are_read).transcript of_both 0 refl refl; op = refl; outcome = refl })
    (at (decisions_in three_sessions next_commit 0) (decided 4 3 (stamp 3 1)) 1 refl refl)
    (λ has. none (λ d. is_same_txn d.txn (operation 4 1)) (decisions_in three_sessions (run three_sessions both_are_read) 0) (decided 4 3 (stamp 3 1)) refl has refl)
    (record {
      batch = insert key_a name_x 2 ∷ [];
      submitted = refl;
      key = key_a;
      asked = at (key_b ∷ key_a ∷ []) key_a 1 refl refl;
      name = name_x;
      touches = refl;
    }))

-- the read of what nobody wrote, at time 0
abbrev pub of_nothing : Completed
of_nothing = ended 3 1 0 (op.Read (x_of (key_b ∷ []))) (outcome.Read 0 (row key_b [] ∷ []))

pub nothing_answered : IsAnswered read_beside_a_write of_nothing (x_of (key_b ∷ [])) 0 (row key_b [] ∷ [])
nothing_answered = record { completed = at read_beside_a_write.transcript of_nothing 1 refl refl; op = refl; outcome = refl }

pub above_its_home : ¬ (ReadsAreAboveTheirHome two_shards read_beside_a_write)
above_its_home all =
    not_above 2 0 refl
    (all of_nothing (x_of (key_b ∷ [])) 0 (row key_b [] ∷ []) (decided 2 2 (stamp 2 0)) nothing_answered
    (at (decisions_in two_shards read_beside_a_write 0) (decided 2 2 (stamp 2 0)) 0 refl refl))

-- ## What was completed before

-- the batch that its session knows to be committed at time 3, and the read of the cohort's row at time 0
abbrev of_batch : Completed
of_batch = ended 2 1 0 (op.Batch (insert key_b name_x 1 ∷ insert key_a name_x 2 ∷ [])) (wrote 3 0)

abbrev of_cohort : Completed
of_cohort = ended 3 1 0 (op.Read (x_of (key_a ∷ []))) (outcome.Read 0 (row key_a [] ∷ []))

abbrev told : Run
told = run two_shards told_before_the_cohort

abbrev cohort_read : Run
cohort_read = run two_shards (told_before_the_cohort ++ cohort_is_read)

not_submitted : ¬ (IsSubmitted told (operation 3 1))
not_submitted (s, has, is) = none (λ t. is_same_txn (named_by t) (operation 3 1)) told.submitted s refl has (same_if_equal (named_by s) (operation 3 1) is)

pub completed_before : ¬ (CompletedWritesAreShown two_shards told_before_the_cohort cohort_is_read)
completed_before all =
    not_committed_by two_shards cohort_read 0 (operation 2 1) 0 refl
    (all of_batch of_cohort 3 (stamp 3 0) (x_of (key_a ∷ [])) 0 (row key_a [] ∷ []) (at told.transcript of_batch 0 refl refl) refl
    (record { completed = at cohort_read.transcript of_cohort 1 refl refl; op = refl; outcome = refl }) not_submitted refl
    (record {
      batch = insert key_b name_x 1 ∷ insert key_a name_x 2 ∷ [];
      submitted = refl;
      key = key_a;
      asked = at (key_a ∷ []) key_a 0 refl refl;
      name = name_x;
      touches = refl;
    }))
