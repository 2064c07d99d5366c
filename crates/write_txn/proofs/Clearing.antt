-- The marks once those of a transaction are cleared: they stand on the rows that it writes.
use Rattle.std.proofs.Common.{◌≡◌, ◌∙◌, ap, sym, refl, ℕ, Bool, true, false, List, Option, Some, None}
use Rattle.std.specs.Prelude.{if◌then◌else◌, ◌&&◌}
use Rattle.std.specs.Ordering.{is_eq}
use Rattle.logical_time.specs.Stamps.{TxnValue, txn_cmp}
use Rattle.column_family.specs.declared.batch.Row.{Row}
use Rattle.column_family.specs.declared.batch.Change.{Change}
use Rattle.pending.specs.Marks.{MarkList, time_at}
use Rattle.pending.specs.Marked.{AreCleared, touches}
use Rattle.pending.proofs.Maps.{by_cases}
use Rattle.txn_state.specs.Ballot.{CompleteValue}
use Rattle.txn_state.specs.Prepared.{PreparedValue}
use Rattle.txn_state.specs.Votes.{counted, are_all_there}
use Rattle.txn_state.specs.Voted.{voted_if}
use Rattle.write_txn.specs.declared.open.Open.TheVariants as in_open
use Rattle.write_txn.specs.Ledger.{LedgerValue, State, Holds, IsApplied, IsDecided, state_of, Becomes, complete_in, completed_by, led_after, state_voted, part_in, state_applied}
use Rattle.write_txn.specs.Stands.{mark_of}
use Rattle.write_txn.specs.Transactions.{AreMarksOf}
use Rattle.write_txn.proofs.Txns.{by_txn}

-- what stands of a transaction has no mark but on the rows that these changes touch
abbrev StandsWithin : List Change → Option State → Type 0
StandsWithin changes s = (r : Row) → touches changes r ≡ false → mark_of s r ≡ None

-- a transaction is cleared that comes to stand without a mark
cleared_marks : (m n : MarkList) (l k : LedgerValue) (u : TxnValue) (s : Option State) (changes : List Change) → AreMarksOf m l → AreCleared m n changes u → Becomes u s l k
    → ((r : Row) → mark_of s r ≡ None) → StandsWithin changes (state_of l u) → AreMarksOf n k
cleared_marks m n l k u s changes marks cleared becomes none within r t =
    cleared r t
    ∙ by_txn {P = (if is_eq (txn_cmp u t) && touches changes r then None else time_at m r t) ≡ mark_of (if is_eq (txn_cmp u t) then s else state_of l t) r} u t
    (λ is yes. by_cases {P = (if is_eq (txn_cmp u t) && touches changes r then None else time_at m r t) ≡ mark_of (if is_eq (txn_cmp u t) then s else state_of l t) r} (touches changes r)
    (λ here. rw (yes, here) (sym (none r)))
    (λ not_here. rw (yes, not_here) (marks r t ∙ ap (λ (v : TxnValue). mark_of (state_of l v) r) (sym is) ∙ within r not_here ∙ sym (none r))))
    (λ other. rw other (marks r t))
    ∙ ap (λ (o : Option State). mark_of o r) (sym (becomes t))

-- a part that is applied
pub applied_marks : (m n : MarkList) (l k : LedgerValue) (u : TxnValue) (p : PreparedValue) → AreMarksOf m l → part_in (state_of l u) ≡ Some p → AreCleared m n p.part.batch u → Becomes u (state_applied (state_of l u)) l k → AreMarksOf n k
applied_marks m n l k u p marks is cleared becomes =
    cleared_marks m n l k u (state_applied (state_of l u)) p.part.batch marks cleared becomes (none (state_of l u) is) (within (state_of l u) is)
  where
    none : (s : Option State) → part_in s ≡ Some p → (r : Row) → mark_of (state_applied s) r ≡ None
    none None h r = absurd (cc)
    none (Some (Holds (in_open.Kept x))) h r = absurd (cc)
    none (Some (Holds (in_open.Part x))) h r = refl
    none (Some (Holds (in_open.Led x))) h r = absurd (cc)
    none (Some (Holds (in_open.Remote x))) h r = absurd (cc)
    none (Some IsApplied) h r = absurd (cc)
    none (Some (IsDecided c stamp)) h r = absurd (cc)

    rows_touch : Option PreparedValue → Row → Bool
    rows_touch (Some q) r = touches q.part.batch r
    rows_touch None r = false

    within : (s : Option State) → part_in s ≡ Some p → StandsWithin p.part.batch s
    within None h r not_here = refl
    within (Some (Holds (in_open.Kept x))) h r not_here = refl
    within (Some (Holds (in_open.Part x))) h r not_here =
        let same : touches x.rows r ≡ false = ap (λ (o : Option PreparedValue). rows_touch o r) h ∙ not_here in
        rw same refl
    within (Some (Holds (in_open.Led x))) h r not_here = absurd (cc)
    within (Some (Holds (in_open.Remote x))) h r not_here = refl
    within (Some IsApplied) h r not_here = refl
    within (Some (IsDecided c stamp)) h r not_here = refl

-- a ballot that the last vote decides
pub voted_marks : (m n : MarkList) (l k : LedgerValue) (u : TxnValue) (me commit node : ℕ) (x : CompleteValue) → AreMarksOf m l → completed_by node (state_of l u) ≡ Some x → AreCleared m n x.own.part.batch u
    → Becomes u (state_voted me commit node (state_of l u)) l k → AreMarksOf n k
voted_marks m n l k u me commit node x marks is cleared becomes =
    cleared_marks m n l k u (state_voted me commit node (state_of l u)) x.own.part.batch marks cleared becomes (none (state_of l u) is) (within (state_of l u) is)
  where
    none : (s : Option State) → completed_by node s ≡ Some x → (r : Row) → mark_of (state_voted me commit node s) r ≡ None
    none None h r = refl
    none (Some (Holds (in_open.Kept y))) h r = absurd (cc)
    none (Some (Holds (in_open.Part y))) h r = absurd (cc)
    none (Some (Holds (in_open.Led y))) h r = go (are_all_there (counted y.ballot.votes node)) h
      where
        go : (b : Bool) → complete_in (voted_if b (record y.ballot { votes = counted y.ballot.votes node })) ≡ Some x
            → mark_of (Some (led_after y me commit (voted_if b (record y.ballot { votes = counted y.ballot.votes node })))) r ≡ None
        go true h = refl
        go false h = absurd (cc)
    none (Some (Holds (in_open.Remote y))) h r = absurd (cc)
    none (Some IsApplied) h r = absurd (cc)
    none (Some (IsDecided c stamp)) h r = absurd (cc)

    rows_touch : Option CompleteValue → Row → Bool
    rows_touch (Some q) r = touches q.own.part.batch r
    rows_touch None r = false

    within : (s : Option State) → completed_by node s ≡ Some x → StandsWithin x.own.part.batch s
    within None h r not_here = refl
    within (Some (Holds (in_open.Kept y))) h r not_here = refl
    within (Some (Holds (in_open.Part y))) h r not_here = absurd (cc)
    within (Some (Holds (in_open.Led y))) h r not_here = go (are_all_there (counted y.ballot.votes node)) h
      where
        go : (b : Bool) → complete_in (voted_if b (record y.ballot { votes = counted y.ballot.votes node })) ≡ Some x → mark_of (Some (Holds (in_open.Led y))) r ≡ None
        go true h =
            let same : touches y.ballot.own.part.batch r ≡ false = ap (λ (o : Option CompleteValue). rows_touch o r) h ∙ not_here in
            rw same refl
        go false h = absurd (cc)
    within (Some (Holds (in_open.Remote y))) h r not_here = refl
    within (Some IsApplied) h r not_here = refl
    within (Some (IsDecided c stamp)) h r not_here = refl
