-- Worked runs against forms that resemble what is promised of histories and of stamps.
use Rattle.std.proofs.Common.{◌≡◌, ◌∙◌, sym, ap, subst, refl, ℕ, ◌<◌, Bool, true, false, inl, inr, List, [], ◌∷◌, ◌++◌, Option, Some, None}
use Rattle.std.specs.Prelude.{nat_lt}
use Rattle.std.proofs.lemmas.List.Sorted.{IsPermutation-refl}
use Rattle.logical_time.specs.Stamps.{TxnValue}
use Rattle.column_family.specs.declared.batch.Change.{Change}
use Rattle.column_family.specs.Normal.{committed}
use Rattle.planner.specs.Plan.{coordinator_of}
use Rattle.store.proofs.lists.Lists.{none_in_empty}
use Rattle.messages.specs.declared.op.Op.{Op}
use Rattle.messages.specs.declared.op.Op.TheVariants as op
use Rattle.messages.specs.declared.outcome.Outcome.{Outcome}
use Rattle.messages.specs.declared.outcome.Outcome.TheVariants as outcome
use Rattle.messages.specs.Topology.{TopologyValue, shard_node}
use Rattle.messages.specs.Shard.{Decision}
use Rattle.shard.proofs.worked.Closed.{below, not_below, differ, at, none, is_below}
use Rattle.world.specs.Run.{Run, Submission, run}
use Rattle.world.specs.Histories.{decisions_in, history_of}
use Rattle.world.specs.Before.{EndRestsOn, IsJustBefore, IsBeforeOver}
use Rattle.world.specs.Worked.{operation, insert, key_a, key_b, name_x, one_shard, two_shards, three_sessions, two_centres, two_by_two, insert_then_read, only_submitted, b_is_read, a_is_written, two_shard_write, write_is_replicated, dependency_holds_back, concurrent_inserts_meet}
use Rattle.world.specs.Lookalikes.{HistoriesNeverGrow, SubmittedBatchesHaveEntries, EntriesHaveOwnTimes, FirstCentreDecides, CommitTimesAgree, StampsAreCommitTimes, StampsAreBelowCommitTimes, CommitTimesFollowCauses, StampsTellCauses}
use Rattle.world.proofs.worked.WorkedEntries.{stamp, accepted, decided}
use Rattle.world.proofs.worked.WorkedPasts.{own_write}

-- ## Histories

pub never_grow : ¬ (HistoriesNeverGrow one_shard [] insert_then_read)
never_grow all =
    let h = history_of one_shard (run one_shard insert_then_read) 0 in
    none_in_empty (committed (insert key_b name_x 1 ∷ []) (stamp 2 0) 2)
    (all 0 [] h (IsPermutation-refl []) (IsPermutation-refl h) (committed (insert key_b name_x 1 ∷ []) (stamp 2 0) 2)
    (at h (committed (insert key_b name_x 1 ∷ []) (stamp 2 0) 2) 0 refl refl))

pub submitted : ¬ (SubmittedBatchesHaveEntries one_shard only_submitted)
submitted all =
    let r = all 0 [] (operation 1 1) (insert key_b name_x 1 ∷ []) (IsPermutation-refl []) refl in none_in_empty r.0 r.1

abbrev at_one_time : Run
at_one_time = run three_sessions (b_is_read ++ a_is_written)

pub own_times : ¬ (EntriesHaveOwnTimes three_sessions at_one_time)
own_times all =
    let h = history_of three_sessions at_one_time 0 in
    all 0 h (IsPermutation-refl h) 0 1 (committed [] (stamp 0 0) 0) (below 0 1 refl) (below 1 2 refl) refl

-- the batch for both shards, at home where it was submitted and where it was replicated
abbrev both_changes : List Change
both_changes = insert key_b name_x 1 ∷ insert key_a name_x 2 ∷ []

-- the coordinator of a batch in the first data centre
abbrev first_coordinator : Option (List Change) → ℕ
first_coordinator None = 0
first_coordinator (Some batch) = shard_node two_by_two 0 (coordinator_of 2 batch)

pub first_centre : ¬ (FirstCentreDecides two_by_two write_is_replicated)
first_centre all =
    let r = all 2 (decided 4 8 (stamp 3 0)) (at (write_is_replicated.shards 2).decided (decided 4 8 (stamp 3 0)) 0 refl refl) in
    differ (λ n. n) 2 0 refl (r.2 ∙ sym (ap first_coordinator r.1))

-- ## Stamps

pub commit_times_agree : ¬ (CommitTimesAgree two_by_two write_is_replicated)
commit_times_agree all =
    differ (λ n. n) 3 8 refl
    (all 0 1 (decided 4 3 (stamp 3 0)) (decided 4 8 (stamp 3 0))
    (at (decisions_in two_by_two write_is_replicated 0) (decided 4 3 (stamp 3 0)) 0 refl refl)
    (at (decisions_in two_by_two write_is_replicated 1) (decided 4 8 (stamp 3 0)) 0 refl refl) refl)

pub commit_times : ¬ (StampsAreCommitTimes two_by_two write_is_replicated)
commit_times all =
    differ (λ n. n) 3 8 refl
    (all 1 (decided 4 8 (stamp 3 0)) (at (decisions_in two_by_two write_is_replicated 1) (decided 4 8 (stamp 3 0)) 0 refl refl))

abbrev both_submitted : Submission
both_submitted = accepted 2 1 0 1 (op.Batch both_changes)

pub below_commits : ¬ (StampsAreBelowCommitTimes two_shards two_shard_write)
below_commits all =
    not_below 3 3 refl
    (all (decided 2 3 (stamp 3 0)) both_submitted (at (decisions_in two_shards two_shard_write 0) (decided 2 3 (stamp 3 0)) 0 refl refl)
    (record { among = at two_shard_write.submitted both_submitted 0 refl refl; txn = refl }))

-- a session's second write, as it is decided at home; its first comes to the other data centre at time 8
abbrev second : Decision
second = record { txn = operation 2 2; commit = 5; stamp = stamp 5 0 }

pub causes : ¬ (CommitTimesFollowCauses two_centres dependency_holds_back)
causes all =
    not_below 8 5 refl
    (all (operation 2 1) (operation 2 2) 1 0 (decided 2 8 (stamp 2 0)) second own_write
    (at (decisions_in two_centres dependency_holds_back 1) (decided 2 8 (stamp 2 0)) 0 refl refl) refl
    (at (decisions_in two_centres dependency_holds_back 0) second 1 refl refl) refl)

-- ## Nothing is before a concurrent write

abbrev is_read : Op → Bool
is_read (op.Batch batch) = false
is_read (op.Read read) = true
is_read (op.Move dc) = false

only_reads : (o : Op) (end : Outcome) (top : TopologyValue) (w : Run) (home : ℕ) (u : TxnValue) → EndRestsOn o end top w home u → is_read o ≡ true
only_reads (op.Batch batch) end top w home u rests = absurd rests
only_reads (op.Read read) (outcome.Wrote commit s) top w home u rests = absurd rests
only_reads (op.Read read) (outcome.Read time answer) top w home u rests = refl
only_reads (op.Read read) outcome.Collected top w home u rests = absurd rests
only_reads (op.Read read) (outcome.Moved dc floor) top w home u rests = absurd rests
only_reads (op.Move dc) end top w home u rests = absurd rests

-- the second of the writes is the first operation of its session and no read, so no link leads to it
no_link : (u : TxnValue) → ¬ (IsJustBefore two_centres concurrent_inserts_meet u (operation 3 1))
no_link u (inl (done, later, same, less)) =
    let c = done.0 in
    none (λ e. nat_lt e.number 1) concurrent_inserts_meet.transcript c refl done.1.0
    (is_below c.number 1 (subst (λ (t : TxnValue). t.number < 1) (sym done.1.1) less))
no_link u (inr (c, is_end, rests)) =
    none (λ e. is_read e.op) concurrent_inserts_meet.transcript c refl is_end.0
    (only_reads c.op c.outcome two_centres concurrent_inserts_meet c.home u rests)

no_chain : (u : TxnValue) (between : List TxnValue) → ¬ (IsBeforeOver two_centres concurrent_inserts_meet u between (operation 3 1))
no_chain u [] link = no_link u link
no_chain u (x ∷ xs) chain = no_chain x xs chain.1

pub converse : ¬ (StampsTellCauses two_centres concurrent_inserts_meet)
converse all =
    let r =
    all 0 0 (decided 2 2 (stamp 2 0)) (decided 3 3 (stamp 2 1))
    (at (decisions_in two_centres concurrent_inserts_meet 0) (decided 2 2 (stamp 2 0)) 0 refl refl)
    (at (decisions_in two_centres concurrent_inserts_meet 0) (decided 3 3 (stamp 2 1)) 1 refl refl) refl
    in
    no_chain (operation 2 1) r.1.0 r.1.1
