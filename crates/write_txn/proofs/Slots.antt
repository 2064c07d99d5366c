-- What is found among slots in the order of their numbers, as one is added or changed.
use Rattle.std.proofs.Common.{◌≡◌, ◌≢◌, ◌∙◌, ap, sym, subst, refl, ℕ, zero, suc, ◌<◌, ◌≤◌, true, false, nat_lt, ◌==◌, List, [], ◌∷◌, length, get_or, set, Option, Some, None, arith}
use Rattle.std.specs.Prelude.{if◌then◌else◌, slice_get, insert, option_map}
use Rattle.std.specs.List.Sorted.{IsPartitionPoint}
use Rattle.std.proofs.lemmas.Bool.{eq-eqb, ne_eqb}
use Rattle.std.proofs.lemmas.Bool.Decides.{nat_tests}
use Rattle.std.proofs.lemmas.List.Sorted.{IsNonDecreasingBy-insert}
use Rattle.std.proofs.lemmas.Option.{same_Some, slice_get_within, slice_get-get_or, get_or_from_slice_get}
use Rattle.write_txn.specs.declared.status.Status.{Status}
use Rattle.write_txn.specs.declared.slot.Slot.{Slot}
use Rattle.write_txn.specs.Statuses.{slot_number, slot_status, AreInOrder, IsSplitAt, status_among}
use Rattle.write_txn.proofs.Lists.{by_equal, by_below}

-- the place that a binary search finds
pub split_from : (n i : ℕ) (ss : List Slot) → IsPartitionPoint (λ (s : Slot). nat_lt (slot_number s) n ≡ true) (λ (s : Slot). nat_lt (slot_number s) n ≡ false) ss i → IsSplitAt n i ss
split_from n i ss point = record {
  before = λ k d lt. let e = point.0 k d (omega arith) lt in grind (arith, nat_tests, e);
  after = λ k d le lt. let e = point.1 k d le lt in grind (arith, nat_tests, e);
}

-- the first slot of a number has its status
pub found_at : (ss : List Slot) (i n : ℕ) (s : Slot) → ((k : ℕ) (d : Slot) → k < i → slot_number (get_or ss k d) < n) → slice_get ss i ≡ Some s → slot_number s ≡ n → status_among ss n ≡ Some (slot_status s)
found_at [] i n s before at own = absurd (let lt = slice_get_within [] i s at in omega (arith, lt))
found_at (x ∷ xs) zero n s before at own =
    let same : x ≡ s = same_Some x s at in
    let here = eq-eqb (slot_number x) n (ap slot_number same ∙ own) in
    rw here (ap (λ (y : Slot). Some (slot_status y)) same)
found_at (x ∷ xs) (suc i) n s before at own =
    let lt = before zero x (omega arith) in
    let there = ne_eqb (slot_number x) n (λ e. absurd (omega (arith, lt, e))) in
    rw there (found_at xs i n s (λ k d le. before (suc k) d (omega (arith, le))) at own)

-- a number that no slot is of has no status
none_of : (ss : List Slot) (n : ℕ) → ((k : ℕ) (d : Slot) → k < length ss → slot_number (get_or ss k d) ≢ n) → status_among ss n ≡ None
none_of [] n apart = refl
none_of (x ∷ xs) n apart =
    let there = ne_eqb (slot_number x) n (apart zero x (omega arith)) in
    rw there (none_of xs n (λ k d lt. apart (suc k) d (omega (arith, lt))))

-- so it is where the place is that of a greater number
pub none_at : (ss : List Slot) (i n : ℕ) (s : Slot) → AreInOrder ss → IsSplitAt n i ss → slice_get ss i ≡ Some s → slot_number s ≢ n → status_among ss n ≡ None
none_at ss i n s order split at apart =
    none_of ss n (λ k d lt e.
    by_below k i
    (λ early _. let b = split.before k d early in absurd (omega (arith, b, e)))
    (λ late _.
    let within = slice_get_within ss i s at in
    let own = ap slot_number (get_or_from_slice_get ss i s d at) in
    let above = split.after i d (omega arith) within in
    let rises = order i k d late lt in
    absurd (apart (omega (arith, own, above, rises, e)))))

-- and where it is past the last one
pub none_past : (ss : List Slot) (i n : ℕ) → IsSplitAt n i ss → slice_get ss i ≡ None → status_among ss n ≡ None
none_past ss i n split past =
    none_of ss n (λ k d lt e.
    by_below k i
    (λ early _. let b = split.before k d early in absurd (omega (arith, b, e)))
    (λ late _. absurd (let some = slice_get-get_or ss i d (omega (arith, late, lt)) in let no : ◌≡◌ {A = Option Slot} None (Some (get_or ss i d)) = sym past ∙ some in cc)))

-- ## Added

-- a slot was put before all that aren't of smaller numbers
pub inserted : (ss : List Slot) (i : ℕ) (s : Slot) (n : ℕ) → ((k : ℕ) (d : Slot) → k < i → slot_number (get_or ss k d) < slot_number s) → i ≤ length ss → status_among (insert ss i s) n ≡ (if slot_number s == n then Some (slot_status s) else status_among ss n)
inserted [] zero s n before le = refl
inserted [] (suc i) s n before le = absurd (omega arith)
inserted (x ∷ xs) zero s n before le = refl
inserted (x ∷ xs) (suc i) s n before le =
    let rest = inserted xs i s n (λ k d lt. before (suc k) d (omega (arith, lt))) (omega (arith, le)) in
    let below = before zero x (omega arith) in
    by_equal (slot_number x) n
    (λ e here. let there = ne_eqb (slot_number s) n (λ f. absurd (omega (arith, e, f, below))) in rw (here, there) refl)
    (λ ne there. rw there rest)

-- the same, and the order stays, where the place is that of its number
pub inserted_by : (ss ys : List Slot) (i : ℕ) (s : Slot) (number : ℕ) (status : Status) → slot_number s ≡ number → slot_status s ≡ status → ys ≡ insert ss i s → i ≤ length ss → IsSplitAt number i ss → (n : ℕ) → status_among ys n ≡ (if number == n then Some status else status_among ss n)
inserted_by ss ys i s number status own says is le split n =
    ap (λ (xs : List Slot). status_among xs n) is
    ∙ inserted ss i s n (λ k d lt. let b = split.before k d lt in omega (arith, b, own)) le
    ∙ ap (λ (m : ℕ). if m == n then Some (slot_status s) else status_among ss n) own
    ∙ ap (λ (x : Status). if number == n then Some x else status_among ss n) says

pub inserted_order : (ss ys : List Slot) (i : ℕ) (s : Slot) (number : ℕ) → slot_number s ≡ number → ys ≡ insert ss i s → i ≤ length ss → IsSplitAt number i ss → AreInOrder ss → AreInOrder ys
inserted_order ss ys i s number own is le split order =
    subst AreInOrder (sym is)
    (IsNonDecreasingBy-insert slot_number ss i s order le
    (λ k d lt. let b = split.before k d lt in omega (arith, b, own))
    (λ k d from lt. let b = split.after k d from lt in omega (arith, b, own)))

-- ## Changed

-- the first slot of its number was replaced by another one of the number
pub replaced : (ss : List Slot) (i : ℕ) (s o : Slot) (n : ℕ) → ((k : ℕ) (d : Slot) → k < i → slot_number (get_or ss k d) < slot_number s) → slice_get ss i ≡ Some o → slot_number o ≡ slot_number s → status_among (set ss i s) n ≡ (if slot_number s == n then option_map (λ _. slot_status s) (status_among ss n) else status_among ss n)
replaced [] i s o n before at own = absurd (let lt = slice_get_within [] i o at in omega (arith, lt))
replaced (x ∷ xs) zero s o n before at own =
    let same : slot_number x ≡ slot_number s = ap slot_number (same_Some x o at) ∙ own in
    by_equal (slot_number s) n
    (λ e here. let also = eq-eqb (slot_number x) n (same ∙ e) in rw (here, also) refl)
    (λ ne there. let also = ne_eqb (slot_number x) n (λ e. absurd (ne (sym same ∙ e))) in rw (there, also) refl)
replaced (x ∷ xs) (suc i) s o n before at own =
    let rest = replaced xs i s o n (λ k d lt. before (suc k) d (omega (arith, lt))) at own in
    let below = before zero x (omega arith) in
    by_equal (slot_number x) n
    (λ e here. let there = ne_eqb (slot_number s) n (λ f. absurd (omega (arith, e, f, below))) in rw (here, there) refl)
    (λ ne there. rw there rest)

-- the same at the place of its number
pub replaced_by : (ss : List Slot) (i : ℕ) (s o : Slot) (number : ℕ) (status : Status) → slot_number s ≡ number → slot_status s ≡ status → IsSplitAt number i ss → slice_get ss i ≡ Some o → slot_number o ≡ number → (n : ℕ) → status_among (set ss i s) n ≡ (if number == n then option_map (λ _. status) (status_among ss n) else status_among ss n)
replaced_by ss i s o number status own says split at there n =
    replaced ss i s o n (λ k d lt. let b = split.before k d lt in omega (arith, b, own)) at (there ∙ sym own)
    ∙ ap (λ (m : ℕ). if m == n then option_map (λ _. slot_status s) (status_among ss n) else status_among ss n) own
    ∙ ap (λ (x : Status). if number == n then option_map (λ _. x) (status_among ss n) else status_among ss n) says

-- where a number has no status nothing is changed
pub unchanged : (ss : List Slot) (number : ℕ) (status : Status) → status_among ss number ≡ None → (n : ℕ) → status_among ss n ≡ (if number == n then option_map (λ _. status) (status_among ss n) else status_among ss n)
unchanged ss number status none n =
    by_equal number n
    (λ e here. let is : status_among ss n ≡ None = ap (status_among ss) (sym e) ∙ none in rw here (is ∙ ap (option_map (λ _. status)) (sym is)))
    (λ ne there. rw there refl)
