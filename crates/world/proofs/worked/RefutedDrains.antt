-- Worked runs against forms that resemble what is promised of drains.
use Rattle.std.proofs.Common.{◌≡◌, refl, [], ◌∷◌, length, slice_index_or}
use Rattle.std.specs.Prelude.{◌==◌, drop}
use Rattle.messages.specs.declared.body.Body.TheVariants as body
use Rattle.messages.specs.declared.envelope.Envelope.{Envelope}
use Rattle.messages.specs.Words.{envelope}
use Rattle.messages.specs.Shard.{ShardState}
use Rattle.shard.proofs.worked.Closed.{below, not_more, not_below, at, none}
use Rattle.world.specs.Run.{Run, Deliver, step}
use Rattle.world.specs.Quiet.{handled}
use Rattle.world.specs.Worked.{operation, one_shard, only_submitted, two_shards}
use Rattle.world.specs.WorkedTimes.{two_shards_of_three}
use Rattle.world.specs.WorkedDrains.{one_is_answered, batch_for_two, batch_is_prepared}
use Rattle.world.specs.Drains.{HasSame, drained}
use Rattle.world.specs.Lookalikes.{LowerWithYesAbove, SendsAreLower, left_without_waiting, FewerWithoutWaiting, UnhandledAreEnough, ClocksAreBelowEvents}
use Rattle.world.proofs.fresh.HeardRuns.{changed_actor}

-- the cohort's vote
abbrev vote : Envelope
vote = envelope 1 0 2 (body.Yes (operation 2 1))

abbrev voted : Run
voted = step two_shards batch_for_two (Deliver 1)

none_decided : HasSame batch_for_two voted
none_decided m = changed_actor (λ (a : ShardState). a.decided ≡ []) batch_for_two.shards 1 (voted.shards 1) m (λ same. refl) (λ other. refl)

pub yes_above : ¬ (LowerWithYesAbove two_shards batch_for_two)
yes_above all =
    not_below 5 1 refl
    (all 1 (slice_index_or batch_for_two.sent 1 vote) vote (vote ∷ []) refl refl none_decided (at (vote ∷ []) vote 0 refl refl))

-- the last vote, at which the coordinator sends Commit
abbrev committed : Run
committed = step two_shards batch_is_prepared (Deliver 2)

pub decisions : ¬ (SendsAreLower two_shards batch_is_prepared)
decisions all =
    not_below 4 0 refl
    (all 2 (slice_index_or batch_is_prepared.sent 2 vote) (slice_index_or committed.sent 3 vote) (drop 3 committed.sent) refl refl
    (at (drop 3 committed.sent) (slice_index_or committed.sent 3 vote) 0 refl refl))

pub waiting : ¬ (FewerWithoutWaiting two_shards_of_three one_is_answered)
waiting all =
    not_below (left_without_waiting two_shards_of_three (step two_shards_of_three one_is_answered (Deliver 15)))
    (left_without_waiting two_shards_of_three one_is_answered) refl
    (all 15 (below 15 (length one_is_answered.sent) refl) (λ has. none (λ j. j == 15) (handled one_is_answered) 15 refl has refl) refl)

pub unhandled : ¬ (UnhandledAreEnough one_shard only_submitted)
unhandled all =
    none (λ j. j == 1) (handled (drained one_shard 1 only_submitted)) 1 refl (all 1 (not_more 1 1 refl) 1 (below 1 2 refl)) refl

pub clocks : ¬ (ClocksAreBelowEvents only_submitted)
clocks all = not_below 1 1 refl (all 1)
