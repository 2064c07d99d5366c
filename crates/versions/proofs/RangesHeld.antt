-- What range deletions are held after a put and after a removal, in their order.
use Rattle.std.proofs.Common.{◌≡◌, sym, ℕ, zero, suc, ap, subst, false, List, [], ◌∷◌, Some, inl, inr, ⊎_elim}
use Rattle.std.specs.Prelude.{remove, Contains, slice_get, ◌↔◌, ◌⊎◌}
use Rattle.logical_time.specs.Stamps.{StampValue, is_older}
use Rattle.versions.specs.declared.range.RangeDeletion.{RangeDeletion}
use Rattle.versions.specs.Ranges.{NoneNewer, RangesFall, put_range}
use Rattle.versions.proofs.Tests.{by_cases, not_newer_too}
use Rattle.versions.proofs.RangeOrder.{none_newer_further, none_in_empty, first_or_rest, contains_first, contains_rest, placed_is_contained}

-- ---- the order
pub none_newer : (r s : StampValue) (xs : List RangeDeletion) → is_older r s ≡ false → NoneNewer s xs → NoneNewer r xs
none_newer r s [] above h = tt
none_newer r s (x ∷ xs) above h = (none_newer_further r s x.stamp above h.0, none_newer r s xs above h.1)

none_newer_put : (s : StampValue) (xs : List RangeDeletion) (v : RangeDeletion) → is_older s v.stamp ≡ false → NoneNewer s xs → NoneNewer s (put_range xs v)
none_newer_put s [] v above h = (above, tt)
none_newer_put s (x ∷ xs) v above h =
    by_cases (is_older v.stamp x.stamp)
    (λ lt. rw lt (h.0, none_newer_put s xs v above h.1))
    (λ ge. rw ge (above, h))

pub fall_put : (xs : List RangeDeletion) (v : RangeDeletion) → RangesFall xs → RangesFall (put_range xs v)
fall_put [] v h = (tt, tt)
fall_put (x ∷ xs) v h =
    by_cases (is_older v.stamp x.stamp)
    (λ lt. rw lt (none_newer_put x.stamp xs v (not_newer_too v.stamp x.stamp lt) h.0, fall_put xs v h.1))
    (λ ge. rw ge ((ge, none_newer v.stamp x.stamp xs ge h.0), h))

none_newer_remove : (s : StampValue) (xs : List RangeDeletion) (i : ℕ) → NoneNewer s xs → NoneNewer s (remove xs i)
none_newer_remove s [] zero h = tt
none_newer_remove s [] (suc i) h = tt
none_newer_remove s (x ∷ xs) zero h = h.1
none_newer_remove s (x ∷ xs) (suc i) h = (h.0, none_newer_remove s xs i h.1)

pub fall_remove : (xs : List RangeDeletion) (i : ℕ) → RangesFall xs → RangesFall (remove xs i)
fall_remove [] zero h = tt
fall_remove [] (suc i) h = tt
fall_remove (x ∷ xs) zero h = h.1
fall_remove (x ∷ xs) (suc i) h = (none_newer_remove x.stamp xs i h.0, fall_remove xs i h.1)

-- ---- a put
held_before : (xs : List RangeDeletion) (v w : RangeDeletion) → Contains xs w → Contains (put_range xs v) w
held_before [] v w c = absurd (none_in_empty w c)
held_before (x ∷ xs) v w c =
    by_cases (is_older v.stamp x.stamp)
    (λ lt. rw lt (⊎_elim (λ e. subst (Contains (x ∷ put_range xs v)) e (contains_first x (put_range xs v))) (λ k. contains_rest x w (put_range xs v) (held_before xs v w k)) (first_or_rest x w xs c)))
    (λ ge. rw ge (contains_rest v w (x ∷ xs) c))

put_is_held : (xs : List RangeDeletion) (v : RangeDeletion) → Contains (put_range xs v) v
put_is_held [] v = contains_first v []
put_is_held (x ∷ xs) v =
    by_cases (is_older v.stamp x.stamp)
    (λ lt. rw lt (contains_rest x v (put_range xs v) (put_is_held xs v)))
    (λ ge. rw ge (contains_first v (x ∷ xs)))

held_only : (xs : List RangeDeletion) (v w : RangeDeletion) → Contains (put_range xs v) w → Contains xs w ⊎ (w ≡ v)
held_only [] v w c = ⊎_elim (λ e. inr (sym e)) (λ k. absurd (none_in_empty w k)) (first_or_rest v w [] c)
held_only (x ∷ xs) v w c =
    by_cases (is_older v.stamp x.stamp)
    (λ lt. later (held_only xs v w) (rw lt at c))
    (λ ge. ⊎_elim (λ e. inr (sym e)) inl (first_or_rest v w (x ∷ xs) (rw ge at c)))
  where
    later : (Contains (put_range xs v) w → Contains xs w ⊎ (w ≡ v)) → Contains (x ∷ put_range xs v) w → Contains (x ∷ xs) w ⊎ (w ≡ v)
    later rest c =
        ⊎_elim
        (λ e. inl (subst (Contains (x ∷ xs)) e (contains_first x xs)))
        (λ k. ⊎_elim (λ old. inl (contains_rest x w xs old)) inr (rest k))
        (first_or_rest x w (put_range xs v) c)

pub held_after_put : (xs ys : List RangeDeletion) (v : RangeDeletion) → ys ≡ put_range xs v → (w : RangeDeletion) → Contains ys w ↔ (Contains xs w ⊎ (w ≡ v))
held_after_put xs ys v e w =
    subst
    (λ (zs : List RangeDeletion). Contains zs w ↔ (Contains xs w ⊎ (w ≡ v)))
    (sym e)
    (held_only xs v w, ⊎_elim (held_before xs v w) (λ new. subst (Contains (put_range xs v)) (sym new) (put_is_held xs v)))

-- ---- a removal
held_after_removal : (xs : List RangeDeletion) (place : ℕ) (w : RangeDeletion) → Contains (remove xs place) w → Contains xs w
held_after_removal [] zero w c = c
held_after_removal [] (suc place) w c = c
held_after_removal (x ∷ xs) zero w c = contains_rest x w xs c
held_after_removal (x ∷ xs) (suc place) w c =
    ⊎_elim
    (λ e. subst (Contains (x ∷ xs)) e (contains_first x xs))
    (λ k. contains_rest x w xs (held_after_removal xs place w k))
    (first_or_rest x w (remove xs place) c)

removed_or_held : (xs : List RangeDeletion) (place : ℕ) (w : RangeDeletion) → Contains xs w → Contains (remove xs place) w ⊎ (slice_get xs place ≡ Some w)
removed_or_held [] place w c = absurd (none_in_empty w c)
removed_or_held (x ∷ xs) zero w c = ⊎_elim (λ e. inr (ap Some e)) inl (first_or_rest x w xs c)
removed_or_held (x ∷ xs) (suc place) w c =
    ⊎_elim
    (λ e. inl (subst (Contains (x ∷ remove xs place)) e (contains_first x (remove xs place))))
    (λ k. ⊎_elim (λ kept. inl (contains_rest x w (remove xs place) kept)) inr (removed_or_held xs place w k))
    (first_or_rest x w xs c)

pub held_but_removed : (xs : List RangeDeletion) (place : ℕ) (w : RangeDeletion) → Contains xs w ↔ (Contains (remove xs place) w ⊎ (slice_get xs place ≡ Some w))
held_but_removed xs place w = (removed_or_held xs place w, ⊎_elim (held_after_removal xs place w) (placed_is_contained xs place w))
