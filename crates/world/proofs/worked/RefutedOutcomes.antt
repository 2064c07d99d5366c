-- Worked runs against forms that resemble what is promised of what sessions are told.
use Rattle.std.proofs.Common.{List, length, refl, ℕ, [], ◌∷◌}
use Rattle.std.specs.Prelude.{◌&&◌, ◌==◌}
use Rattle.std.proofs.lemmas.List.Sorted.{IsPermutation-refl}
use Rattle.column_family.specs.Normal.{committed}
use Rattle.store.proofs.lists.Lists.{none_in_empty}
use Rattle.messages.specs.declared.op.Op.TheVariants as op
use Rattle.messages.specs.declared.outcome.Outcome.{Outcome}
use Rattle.messages.specs.declared.outcome.Outcome.TheVariants as outcome
use Rattle.messages.specs.Actors.{outcomes_by}
use Rattle.messages.specs.Session.{Finished}
use Rattle.shard.proofs.lists.Lists.{no_truth}
use Rattle.shard.proofs.worked.Closed.{below, not_above, are_equal, differ, at, none}
use Rattle.world.specs.Run.{RunEvent, Submission, Completed, run}
use Rattle.world.specs.Journals.{journal_in}
use Rattle.world.specs.Histories.{history_of}
use Rattle.world.specs.Worked.{delete, one_shard, three_at_home, submitted_twice, deletion_is_read, column, row, wrote, insert, key_a, key_b, name_x, two_centres, insert_and_read_back, only_submitted, second_round_collected, read_beside_a_write, concurrent_inserts_meet}
use Rattle.world.specs.WorkedMoves.{session_moves, reads_at_earlier_times}
use Rattle.world.specs.Lookalikes.{RunsKeepAllEvents, WritesAreToldInFirstCentre, CompletedWritesAreEverywhere, TimesRise, TimesNeverFallAnywhere, SessionsStayAtHome, TimesOfACentreNeverFall, SessionsEndOnce, SessionsSubmitOnce, NothingIsGivenUp, AllEndAsWrites, SubmissionsEnd, OutcomesAreListedNext}
use Rattle.world.proofs.worked.WorkedEntries.{x_of, stamp, accepted, ended}
use Rattle.world.proofs.worked.RefutedReads.{back}

-- ## What sessions are told

-- the write of the second data centre's session: at time 2 there, and at time 3 in the first
abbrev of_second : Completed
of_second = ended 3 1 1 (op.Batch (insert key_b name_x 2 ∷ [])) (wrote 2 1)

pub told_in_first_centre : ¬ (WritesAreToldInFirstCentre two_centres concurrent_inserts_meet)
told_in_first_centre all =
    let h = history_of two_centres concurrent_inserts_meet 0 in
    none (λ c. (c.commit == 2) && (c.stamp.node == 1)) h (committed (insert key_b name_x 2 ∷ []) (stamp 2 1) 2) refl
    (all of_second 2 (stamp 2 1) (insert key_b name_x 2 ∷ []) h (at concurrent_inserts_meet.transcript of_second 1 refl refl) refl refl (IsPermutation-refl h))
    refl

-- a deletion that hasn't come to the second data centre
abbrev deletion : Completed
deletion = ended 2 1 0 (op.Batch (delete key_b name_x ∷ [])) (wrote 2 0)

pub everywhere : ¬ (CompletedWritesAreEverywhere three_at_home deletion_is_read)
everywhere all =
    let r = all deletion 2 (stamp 2 0) 1 (at deletion_is_read.transcript deletion 0 refl refl) refl (below 1 2 refl) in
    none_in_empty r.0 r.1

abbrev first : Completed
first = ended 1 1 0 (op.Batch (insert key_b name_x 1 ∷ [])) (wrote 2 0)

pub times_rise : ¬ (TimesRise insert_and_read_back)
times_rise all =
    not_above 3 2 refl
    (all first back (at insert_and_read_back.transcript first 0 refl refl) (at insert_and_read_back.transcript back 1 refl refl) refl (below 1 2 refl))

-- a session reads at 3, moves, and reads the same at 2
abbrev at_home : Completed
at_home = ended 2 1 0 (op.Read (x_of (key_b ∷ []))) (outcome.Read 3 (row key_b (column name_x 2 ∷ []) ∷ []))

abbrev moved_away : Completed
moved_away = ended 2 3 1 (op.Read (x_of (key_b ∷ []))) (outcome.Read 2 (row key_b (column name_x 2 ∷ []) ∷ []))

pub times_anywhere : ¬ (TimesNeverFallAnywhere reads_at_earlier_times)
times_anywhere all =
    not_above 3 2 refl
    (all at_home moved_away (at reads_at_earlier_times.transcript at_home 0 refl refl) (at reads_at_earlier_times.transcript moved_away 2 refl refl) refl
    (below 1 3 refl))

-- a session writes, moves, and reads
abbrev before_move : Completed
before_move = ended 2 1 0 (op.Batch (insert key_b name_x 1 ∷ [])) (wrote 2 0)

abbrev after_move : Completed
after_move = ended 2 3 1 (op.Read (x_of (key_b ∷ []))) (outcome.Read 6 (row key_b (column name_x 1 ∷ []) ∷ []))

pub homes : ¬ (SessionsStayAtHome session_moves)
homes all =
    differ (λ (n : ℕ). n) 0 1 refl
    (all before_move after_move (at session_moves.transcript before_move 0 refl refl) (at session_moves.transcript after_move 2 refl refl) refl)

pub times_of_a_centre : ¬ (TimesOfACentreNeverFall read_beside_a_write)
times_of_a_centre all = not_above 2 0 refl (all 0 1 back (below 0 1 refl) (below 1 2 refl) refl)

pub ends_once : ¬ (SessionsEndOnce insert_and_read_back)
ends_once all = all 0 1 back (below 0 1 refl) (below 1 2 refl) refl

pub submits_once : ¬ (SessionsSubmitOnce insert_and_read_back)
submits_once all = all 0 1 (accepted 0 0 0 0 (op.Batch [])) (below 0 1 refl) (below 1 2 refl) refl

-- ## The transcript

-- the read that was given up
abbrev abandoned : Completed
abandoned = ended 3 1 0 (op.Read (x_of (key_b ∷ key_a ∷ []))) outcome.Collected

pub given_up : ¬ (NothingIsGivenUp second_round_collected)
given_up all = no_truth _ (all abandoned (at second_round_collected.transcript abandoned 0 refl refl)) refl

abbrev kind : Outcome → ℕ
kind (outcome.Wrote commit s) = 0
kind (outcome.Read time answer) = 1
kind outcome.Collected = 2
kind (outcome.Moved dc floor) = 3

pub all_writes : ¬ (AllEndAsWrites insert_and_read_back)
all_writes all =
    let r = all back (at insert_and_read_back.transcript back 1 refl refl) in
    differ kind back.outcome (outcome.Wrote r.0 r.1) refl r.2

abbrev waits : Submission
waits = accepted 1 1 0 1 (op.Batch (insert key_b name_x 1 ∷ []))

pub submissions_end : ¬ (SubmissionsEnd only_submitted)
submissions_end all = let r = all waits (at only_submitted.submitted waits 0 refl refl) in none_in_empty r.0 r.1

abbrev finished : Finished
finished = record { number = 2; outcome = outcome.Read 2 (row key_b (column name_x 1 ∷ []) ∷ []) }

pub next_number : ¬ (OutcomesAreListedNext one_shard insert_and_read_back)
next_number all =
    let r = all 1 finished (at (outcomes_by one_shard 1 (journal_in insert_and_read_back 1)) finished 1 refl refl) in
    let c = r.0 in
    none (λ e. e.number == 3) insert_and_read_back.transcript c refl r.1 (are_equal c.number 3 r.3)

pub refused_events : ¬ (RunsKeepAllEvents one_shard submitted_twice)
refused_events all = differ (λ (xs : List RunEvent). length xs) (run one_shard submitted_twice).events submitted_twice refl all
