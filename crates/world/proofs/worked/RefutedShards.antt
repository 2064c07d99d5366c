-- Worked runs against forms that resemble what is promised of the shards of a run, and of quiet runs.
use Rattle.std.proofs.Common.{refl, ℕ, ◌+◌, ◌<◌, [], ◌∷◌, length, arith}
use Rattle.std.specs.Prelude.{map, Option, Some, None}
use Rattle.std.proofs.lemmas.List.Sorted.{IsPermutation-refl}
use Rattle.column_family.specs.declared.batch.Mutation.{Mutation}
use Rattle.column_family.specs.Location.{Location}
use Rattle.column_family.specs.History.{table_at}
use Rattle.store.proofs.lists.Lists.{none_in_empty}
use Rattle.messages.specs.declared.op.Op.TheVariants as op
use Rattle.messages.specs.declared.outcome.Outcome.TheVariants as outcome
use Rattle.messages.specs.Shard.{new_shard}
use Rattle.messages.specs.Honest.{ToldCommit, all_told}
use Rattle.messages.specs.declared.event.ActorEvent.TheVariants.{Handle}
use Rattle.shard.specs.Events.{shard_run}
use Rattle.shard.proofs.lists.Lists.{no_truth}
use Rattle.shard.proofs.worked.Closed.{below, differ, at, no_more}
use Rattle.world.specs.Run.{Submission, Completed}
use Rattle.world.specs.Histories.{history_of}
use Rattle.world.specs.Quiet.{handled, IsQuiet}
use Rattle.world.specs.Met.{envelopes_to}
use Rattle.world.specs.Journals.{journal_in}
use Rattle.world.specs.Worked.{key_a, collected_and_quiet, operation, family_f, insert, key_b, name_x, one_shard, home_is_nowhere, two_shards, two_by_two, insert_and_read_back, only_submitted, sent_to_itself, second_round_collected, write_is_replicated}
use Rattle.world.specs.Lookalikes.{SentIsHonest, EnvelopesMakeShards, EachNodeIsRight, IsNearlyQuiet, NearlyQuietMeansDone, QuietMeansDoneAnywhere, TablesAreEqualOnceOneIsDone, TablesAreEqualOneBefore, QuietMeansCompleted}
use Rattle.world.proofs.worked.Closed.{each_found}
use Rattle.world.proofs.worked.WorkedEntries.{x_of, stamp, accepted, ended}
use Rattle.world.proofs.worked.WorkedPasts.{quiet}

-- ## Shards

-- what the two data centres tell their cohorts of one transaction
abbrev told : ℕ → ToldCommit
told time = record { txn = operation 4 1; commit = time; stamp = stamp 3 0; time = time }

pub all_that_was_sent : ¬ (SentIsHonest two_by_two write_is_replicated)
all_that_was_sent all =
    let es = all_told write_is_replicated.sent in
    differ (λ n. n) 3 8 refl ((all 0).commit (told 3) (told 8) (at es (told 3) 0 refl refl) (at es (told 8) 1 refl refl) refl)

pub without_collections : ¬ (EnvelopesMakeShards two_shards second_round_collected)
without_collections all =
    differ (λ a. a.low) (shard_run two_shards 1 (map Handle (envelopes_to second_round_collected 1))).state (second_round_collected.shards 1) refl (all 1 refl)

pub each_node : ¬ (EachNodeIsRight one_shard insert_and_read_back)
each_node all =
    differ (λ a. a.clock) (shard_run one_shard 1 (journal_in insert_and_read_back 1)).state new_shard refl (all 1).state

-- ## Quiet runs

abbrev waits : Submission
waits = accepted 1 1 0 1 (op.Batch (insert key_b name_x 1 ∷ []))

none_before : (k : ℕ) → ¬ (k + 1 < 1)
none_before k lt = omega arith

nearly : IsNearlyQuiet only_submitted
nearly k lt = absurd (none_before k lt)

pub nearly_quiet : ¬ (NearlyQuietMeansDone one_shard only_submitted)
nearly_quiet all =
    let r = (all nearly).outcomes waits (at only_submitted.submitted waits 0 refl refl) in none_in_empty r.0 r.1.ended

itself_quiet : IsQuiet sent_to_itself
itself_quiet = each_found (handled sent_to_itself) (length sent_to_itself.sent) refl

abbrev waits_there : Submission
waits_there = accepted 1 1 1 1 (op.Batch (insert key_b name_x 1 ∷ []))

pub anywhere : ¬ (QuietMeansDoneAnywhere home_is_nowhere sent_to_itself)
anywhere all =
    let r = (all itself_quiet).outcomes waits_there (at sent_to_itself.submitted waits_there 0 refl refl) in none_in_empty r.0 r.1.ended

abbrev x_of_b : Location
x_of_b = record { row = record { family = family_f; key = key_b }; name = name_x }

abbrev present : Option Mutation → ℕ
present None = 0
present (Some m) = 1

-- the first data centre commits the batch at time 3, the second at time 8
pub one_is_done : ¬ (TablesAreEqualOnceOneIsDone two_by_two write_is_replicated)
one_is_done all =
    let h = history_of two_by_two write_is_replicated 0 in
    let g = history_of two_by_two write_is_replicated 1 in
    differ present (table_at h 3 x_of_b) (table_at g 3 x_of_b) refl
    (all 0 1 3 h g x_of_b quiet (below 0 2 refl) (below 1 2 refl) (IsPermutation-refl h) (IsPermutation-refl g) (no_more (λ c. c.commit) 3 h refl))

pub one_before : ¬ (TablesAreEqualOneBefore two_by_two write_is_replicated)
one_before all =
    let h = history_of two_by_two write_is_replicated 0 in
    let g = history_of two_by_two write_is_replicated 1 in
    differ present (table_at h 7 x_of_b) (table_at g 7 x_of_b) refl
    (all 0 1 7 h g x_of_b quiet (below 0 2 refl) (below 1 2 refl) (IsPermutation-refl h) (IsPermutation-refl g)
    (no_more (λ c. c.commit) 8 h refl) (no_more (λ c. c.commit) 8 g refl))

-- the read that was given up in a quiet run
abbrev abandoned : Completed
abandoned = ended 3 1 0 (op.Read (x_of (key_b ∷ key_a ∷ []))) outcome.Collected

collected_quiet : IsQuiet collected_and_quiet
collected_quiet = each_found (handled collected_and_quiet) (length collected_and_quiet.sent) refl

pub completed : ¬ (QuietMeansCompleted collected_and_quiet)
completed all = no_truth _ (all collected_quiet abandoned (at collected_and_quiet.transcript abandoned 0 refl refl)) refl
