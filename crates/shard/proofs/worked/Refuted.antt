-- Worked runs of one shard against forms that resemble its law, and against the law without a clause of honesty.
use Rattle.std.proofs.Common.{◌≡◌, ap, sym, subst, refl, inl, inr, ℕ, false, List, [], ◌∷◌, ◌++◌, length}
use Rattle.std.specs.Prelude.{⊤, ◌==◌, nat_lt, Contains}
use Rattle.std.specs.List.{AllByRecursion}
use Rattle.std.proofs.lemmas.List.Elements.{Contains-append_right}
use Rattle.logical_time.specs.Stamps.{WriterValue}
use Rattle.slice.specs.declared.column.Column.{Column}
use Rattle.slice.specs.declared.read.Read.{Read}
use Rattle.slice.specs.Live.{live_columns}
use Rattle.slice.specs.Slice.{slice_of}
use Rattle.store.specs.declared.part.Applied.{Applied}
use Rattle.store.specs.declared.part.Part.{Part}
use Rattle.store.specs.Part.{history_of, applied_by, IsRightPart}
use Rattle.store.proofs.lists.Lists.{none_in_empty, contains_first, given}
use Rattle.messages.specs.declared.rows_now.RowNow.{RowNow}
use Rattle.messages.specs.declared.rows_at.RowAt.{RowAt}
use Rattle.messages.specs.declared.rows_at.AtTime.TheVariants as at_time
use Rattle.messages.specs.declared.body.Body.{Body}
use Rattle.messages.specs.declared.body.Body.TheVariants as body
use Rattle.messages.specs.declared.envelope.Envelope.{Envelope}
use Rattle.messages.specs.declared.event.ActorEvent.{ActorEvent}
use Rattle.messages.specs.declared.event.ActorEvent.TheVariants.{Handle}
use Rattle.messages.specs.Actors.{envelope_of}
use Rattle.messages.specs.Words.{envelope}
use Rattle.messages.specs.Honest.{all_told}
use Rattle.slice.specs.Rows.{row_of}
use Rattle.shard.specs.Events.{ShardRun, envelopes_handled}
use Rattle.shard.specs.Right.{part_now, part_then}
use Rattle.shard.specs.Worked.{two_shards, key_a, key_b, name_x, x_gets, x_of, first_of, stamp, written_then_read, read_then_written, read_at_its_mark, collected_then_read, commit_at_its_mark, excluded_at_its_commit_time, read_above_its_time, two_of_one_stamp}
use Rattle.shard.specs.Lookalikes.{RowsAreRightEarlier, RowsAreRightLater, RowsAtATimeAreRightEarlier, RowsAtATimeAreRightLater, PartsAreAppliedAbove, GivenUpFarBelow, Marks, Exclusions, TimesOfReads, Stamps, IsRightWithout}
use Rattle.shard.proofs.lists.Lists.{each_contained}
use Rattle.shard.proofs.worked.Closed.{not_more, not_below, is_below, are_equal, differ, at, none}
use Rattle.shard.proofs.worked.WorkedHonest.{honest_written, honest_read, honest_mark, honest_collected, but_for_marks, but_for_exclusions, but_for_times, but_for_stamps}

-- ## What is asked, and what is shown

-- this read is asked, if any is
abbrev Asks : Read → Body → Type 0
Asks expected (body.Read number read) = read ≡ expected
Asks expected (body.ReadAt number time read) = read ≡ expected
Asks expected other = ⊤

asked_now : (es : List Envelope) (expected : Read) → AllByRecursion (λ e. Asks expected e.body) es
    → (asked : Envelope) (number : ℕ) (read : Read) → Contains es asked → asked.body ≡ body.Read number read → read ≡ expected
asked_now es expected all asked number read has is = subst (Asks expected) is (each_contained (λ (e : Envelope). Asks expected e.body) es all asked has)

asked_then : (es : List Envelope) (expected : Read) → AllByRecursion (λ e. Asks expected e.body) es
    → (asked : Envelope) (number time : ℕ) (read : Read) → Contains es asked → asked.body ≡ body.ReadAt number time read → read ≡ expected
asked_then es expected all asked number time read has is = subst (Asks expected) is (each_contained (λ (e : Envelope). Asks expected e.body) es all asked has)

-- a part with another number of columns than the table shows isn't right
wrong : (applied : List Applied) (read expected : Read) (key : List ℕ) (time : ℕ) (part : Part) → read ≡ expected
    → (length part.columns == length (slice_of expected.predicate (live_columns (history_of (applied_by time applied)) (row_of expected key)))) ≡ false
    → IsRightPart applied (row_of read key) read.predicate time part → ⊥
wrong applied read expected key time part is apart right =
    let r = subst (λ (x : Read). IsRightPart applied (row_of x key) x.predicate time part) is right in
    differ (λ (cs : List Column). length cs) part.columns
    (slice_of expected.predicate (live_columns (history_of (applied_by time applied)) (row_of expected key))) apart r.columns

abbrev writer : ℕ → WriterValue
writer session = record { txn = first_of session; shard = 0 }

abbrev x_shown : List Column
x_shown = record { name = name_x; value = 1 ∷ [] } ∷ []

abbrev empty_now : List ℕ → ℕ → RowNow
empty_now key lvt = record { key = key; columns = []; writers = []; evt = 0; lvt = lvt }

abbrev empty_then : List ℕ → RowAt
empty_then key = record { key = key; columns = []; writers = [] }

abbrev told_now : ℕ → ℕ → RowNow → Envelope
told_now node time row = envelope node 3 time (body.PartNow 1 (row ∷ []))

abbrev told_then : ℕ → ℕ → ℕ → RowAt → Envelope
told_then node time as_of row = envelope node 3 time (body.PartAt 1 as_of (at_time.Rows (row ∷ [])))

-- ## Honest envelopes

abbrev written_now : RowNow
written_now = record { key = key_b; columns = x_shown; writers = writer 2 ∷ []; evt = 2; lvt = 3 }

pub earlier : ¬ (RowsAreRightEarlier written_then_read)
earlier all =
    let w = written_then_read in
    let r = all honest_written (told_now 0 3 written_now) 1 (written_now ∷ []) (at w.sent (told_now 0 3 written_now) 1 refl refl) refl in
    wrong w.state.applied r.read (x_of key_b) key_b 1 (part_now written_now)
    (asked_now (envelopes_handled w) (x_of key_b) (tt, (refl, (refl, tt))) r.asked 1 r.read r.handled r.body) refl
    (r.each written_now (at (written_now ∷ []) written_now 0 refl refl) 1 (not_more 2 2 refl) (not_more 1 3 refl))

pub later : ¬ (RowsAreRightLater read_then_written)
later all =
    let w = read_then_written in
    let row = empty_now key_b 2 in
    let r = all honest_read (told_now 0 2 row) 1 (row ∷ []) (at w.sent (told_now 0 2 row) 0 refl refl) refl in
    wrong w.state.applied r.read (x_of key_b) key_b 3 (part_now row)
    (asked_now (envelopes_handled w) (x_of key_b) (refl, (tt, tt)) r.asked 1 r.read r.handled r.body) refl
    (r.each row (at (row ∷ []) row 0 refl refl) 3 (not_more 0 3 refl) (not_more 3 3 refl))

abbrev written_at : RowAt
written_at = record { key = key_b; columns = x_shown; writers = writer 2 ∷ [] }

pub at_earlier : ¬ (RowsAtATimeAreRightEarlier written_then_read)
at_earlier all =
    let w = written_then_read in
    let r = all honest_written (told_then 0 5 2 written_at) 1 2 (written_at ∷ []) (at w.sent (told_then 0 5 2 written_at) 2 refl refl) refl in
    wrong w.state.applied r.read (x_of key_b) key_b 1 (part_then written_at)
    (asked_then (envelopes_handled w) (x_of key_b) (tt, (refl, (refl, tt))) r.asked 1 2 r.read r.handled r.body) refl
    (r.each written_at (at (written_at ∷ []) written_at 0 refl refl))

pub at_later : ¬ (RowsAtATimeAreRightLater read_at_its_mark)
at_later all =
    let w = read_at_its_mark in
    let row = empty_then key_a in
    let r = all honest_mark (told_then 1 3 2 row) 1 2 (row ∷ []) (at w.sent (told_then 1 3 2 row) 1 refl refl) refl in
    wrong w.state.applied r.read (x_of key_a) key_a 3 (part_then row)
    (asked_then (envelopes_handled w) (x_of key_a) (tt, (refl, (tt, tt))) r.asked 1 2 r.read r.handled r.body) refl
    (r.each row (at (row ∷ []) row 0 refl refl))

abbrev at_three : Applied
at_three = record { part = record { writer = writer 2; batch = x_gets key_a 1 }; commit = 3; stamp = stamp 3 }

pub applied_above : ¬ (PartsAreAppliedAbove read_at_its_mark)
applied_above all =
    let w = read_at_its_mark in
    elim (all honest_mark at_three (at w.state.applied at_three 0 refl refl)) [
      | inl y ↦ none (λ x. nat_lt x.commit 3) (all_told (envelopes_handled w)) y.0 refl y.1 (is_below y.0.commit 3 y.3)
      | inr d ↦ none_in_empty d.0 d.1
    ]

pub given_up : ¬ (GivenUpFarBelow collected_then_read)
given_up all =
    let e = envelope 0 3 10 (body.PartAt 1 9 at_time.Collected) in
    not_below 10 10 refl (all honest_collected e 1 9 (at collected_then_read.sent e 0 refl refl) refl)

-- ## Envelopes that are honest but for one clause

-- what stands in the journal of a shard was handled
was_handled : (w : ShardRun) (asked : Envelope) (before after : List ActorEvent) → w.events ≡ before ++ Handle asked ∷ after → Contains (envelopes_handled w) asked
was_handled w asked before after split =
    given envelope_of w.events (Handle asked) asked
    (subst (λ (xs : List ActorEvent). Contains xs (Handle asked)) (sym split)
    (Contains-append_right before (Handle asked ∷ after) (Handle asked) (contains_first (Handle asked) after))) refl

pub marks : ¬ (IsRightWithout Marks two_shards 1 commit_at_its_mark)
marks all =
    let w = commit_at_its_mark in
    let row = empty_now key_a 2 in
    let r = (all but_for_marks).now (told_now 1 3 row) 1 (row ∷ []) (at w.sent (told_now 1 3 row) 1 refl refl) refl in
    wrong w.state.applied r.read (x_of key_a) key_a 2 (part_now row)
    (asked_now (envelopes_handled w) (x_of key_a) (tt, (refl, (tt, tt))) r.asked 1 r.read (was_handled w r.asked r.cause.before r.cause.after r.cause.split) r.body) refl
    (r.right row (at (row ∷ []) row 0 refl refl) 2 (not_more 0 2 refl) (not_more 2 2 refl))

pub exclusions : ¬ (IsRightWithout Exclusions two_shards 1 excluded_at_its_commit_time)
exclusions all =
    let w = excluded_at_its_commit_time in
    let row = empty_then key_a in
    let r = (all but_for_exclusions).then (told_then 1 5 3 row) 1 3 (row ∷ []) (at w.sent (told_then 1 5 3 row) 2 refl refl) refl in
    wrong w.state.applied r.read (x_of key_a) key_a 3 (part_then row)
    (asked_then (envelopes_handled w) (x_of key_a) (tt, (refl, (tt, (tt, tt)))) r.asked 1 3 r.read (was_handled w r.asked r.cause.before r.cause.after r.cause.split) r.body) refl
    (r.right row (at (row ∷ []) row 0 refl refl))

pub times_of_reads : ¬ (IsRightWithout TimesOfReads two_shards 0 read_above_its_time)
times_of_reads all =
    let w = read_above_its_time in
    let row = empty_then key_b in
    let r = (all but_for_times).then (told_then 0 2 3 row) 1 3 (row ∷ []) (at w.sent (told_then 0 2 3 row) 0 refl refl) refl in
    wrong w.state.applied r.read (x_of key_b) key_b 3 (part_then row)
    (asked_then (envelopes_handled w) (x_of key_b) (refl, (tt, tt)) r.asked 1 3 r.read (was_handled w r.asked r.cause.before r.cause.after r.cause.split) r.body) refl
    (r.right row (at (row ∷ []) row 0 refl refl))

-- both writers from time 3 on, where only the first has committed
abbrev both_now : RowNow
both_now = record { key = key_a; columns = x_shown; writers = writer 2 ∷ writer 3 ∷ []; evt = 3; lvt = 6 }

pub stamps : ¬ (IsRightWithout Stamps two_shards 1 two_of_one_stamp)
stamps all =
    let w = two_of_one_stamp in
    let r = (all but_for_stamps).now (told_now 1 6 both_now) 1 (both_now ∷ []) (at w.sent (told_now 1 6 both_now) 2 refl refl) refl in
    let rested = ((r.right both_now (at (both_now ∷ []) both_now 0 refl refl) 3 (not_more 3 3 refl) (not_more 3 6 refl)).writers (writer 3)).0 (at (writer 2 ∷ writer 3 ∷ []) (writer 3) 1 refl refl) in
    none (λ x. x.part.writer.txn.session == 3) (applied_by 3 w.state.applied) rested.0 refl rested.1
    (are_equal rested.0.part.writer.txn.session 3 (ap (λ (x : WriterValue). x.txn.session) rested.2))
