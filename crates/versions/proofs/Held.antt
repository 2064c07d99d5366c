-- What is held after a put and after a removal.
use Rattle.std.proofs.Common.{◌≡◌, refl, sym, ℕ, zero, suc, ◌≤◌, ◌∙◌, ap, length, subst, true, false, List, [], ◌∷◌, Some, inl, inr, ⊎_elim, arith}
use Rattle.std.proofs.lemmas.Bool.Decides.{nat_tests}
use Rattle.std.proofs.lemmas.List.Edits.{length-insert}
use Rattle.std.specs.Prelude.{insert, remove, Contains, slice_get, ◌↔◌, ◌⊎◌}
use Rattle.std.specs.Ordering.{is_eq}
use Rattle.logical_time.specs.Stamps.{StampValue, stamp_cmp, is_older}
use Rattle.versions.specs.declared.version.Version.{Version}
use Rattle.versions.specs.Chain.{AreOlder, IsFalling, put_of}
use Rattle.versions.specs.Newest.{has_stamp}
use Rattle.versions.proofs.Tests.{by_cases, newer_if_not}
use Rattle.versions.proofs.Members.{none_in_empty, first_or_rest, contains_first, contains_rest, same_value, placed_is_contained, not_among_older}
use Rattle.versions.proofs.Falling.{all_older}

same_if_older : (s t : StampValue) → is_older s t ≡ true → is_eq (stamp_cmp t s) ≡ false
same_if_older s t h = grind (arith, nat_tests)

pub same_if_newer : (s t : StampValue) → is_older s t ≡ true → is_eq (stamp_cmp s t) ≡ false
same_if_newer s t h = grind (arith, nat_tests)

-- a stamp is not held where all are older
pub new_if_older : (s : StampValue) (xs : List Version) → AreOlder s xs → has_stamp xs s ≡ false
new_if_older s [] h = refl
new_if_older s (x ∷ xs) h = rw (same_if_older x.stamp s h.0) (new_if_older s xs h.1)

-- a version whose stamp is held changes nothing
pub put_if_held : (xs : List Version) (v : Version) → IsFalling xs → has_stamp xs v.stamp ≡ true → put_of xs v ≡ xs
put_if_held [] v h held = absurd (cc)
put_if_held (x ∷ xs) v h held =
    by_cases (is_older v.stamp x.stamp)
    (λ lt. rw lt (ap (λ ys. x ∷ ys) (put_if_held xs v h.1 (rw (same_if_newer v.stamp x.stamp lt) at held))))
    (λ ge. by_cases (is_eq (stamp_cmp v.stamp x.stamp))
    (λ eq. rw (ge, eq) refl)
    (λ ne.
    let none = new_if_older v.stamp xs (all_older v.stamp x.stamp xs (newer_if_not v.stamp x.stamp ge ne) h.0) in
    let some : has_stamp xs v.stamp ≡ true = rw ne at held in
    absurd (cc)))

held_before : (xs : List Version) (v w : Version) → Contains xs w → Contains (put_of xs v) w
held_before [] v w c = absurd (none_in_empty w c)
held_before (x ∷ xs) v w c =
    by_cases (is_older v.stamp x.stamp)
    (λ lt. rw lt (⊎_elim (λ e. subst (Contains (x ∷ put_of xs v)) e (contains_first x (put_of xs v))) (λ r. contains_rest x w (put_of xs v) (held_before xs v w r)) (first_or_rest x w xs c)))
    (λ ge. by_cases (is_eq (stamp_cmp v.stamp x.stamp))
    (λ eq. rw (ge, eq) c)
    (λ ne. rw (ge, ne) (contains_rest v w (x ∷ xs) c)))

put_is_held : (xs : List Version) (v : Version) → has_stamp xs v.stamp ≡ false → Contains (put_of xs v) v
put_is_held [] v h = contains_first v []
put_is_held (x ∷ xs) v h =
    by_cases (is_older v.stamp x.stamp)
    (λ lt. rw lt (contains_rest x v (put_of xs v) (put_is_held xs v (rw (same_if_newer v.stamp x.stamp lt) at h))))
    (λ ge. by_cases (is_eq (stamp_cmp v.stamp x.stamp))
    (λ eq. let k : true ≡ false = rw eq at h in absurd (cc))
    (λ ne. rw (ge, ne) (contains_first v (x ∷ xs))))

held_only : (xs : List Version) (v w : Version) → IsFalling xs → Contains (put_of xs v) w → Contains xs w ⊎ ((w ≡ v) × (has_stamp xs v.stamp ≡ false))
held_only [] v w h c = ⊎_elim (λ e. inr (sym e, refl)) (λ r. absurd (none_in_empty w r)) (first_or_rest v w [] c)
held_only (x ∷ xs) v w h c =
    by_cases (is_older v.stamp x.stamp)
    (λ lt. later lt (held_only xs v w h.1) (rw lt at c))
    (λ ge. by_cases (is_eq (stamp_cmp v.stamp x.stamp))
    (λ eq. inl (rw (ge, eq) at c))
    (λ ne. here ne (newer_if_not v.stamp x.stamp ge ne) (rw (ge, ne) at c)))
  where
    later : is_older v.stamp x.stamp ≡ true → (Contains (put_of xs v) w → Contains xs w ⊎ ((w ≡ v) × (has_stamp xs v.stamp ≡ false))) → Contains (x ∷ put_of xs v) w → Contains (x ∷ xs) w ⊎ ((w ≡ v) × (has_stamp (x ∷ xs) v.stamp ≡ false))
    later lt rest c =
        ⊎_elim
        (λ e. inl (subst (Contains (x ∷ xs)) e (contains_first x xs)))
        (λ r. ⊎_elim (λ old. inl (contains_rest x w xs old)) (λ new. inr (new.0, rw (same_if_newer v.stamp x.stamp lt) new.1)) (rest r))
        (first_or_rest x w (put_of xs v) c)

    here : is_eq (stamp_cmp v.stamp x.stamp) ≡ false → is_older x.stamp v.stamp ≡ true → Contains (v ∷ x ∷ xs) w → Contains (x ∷ xs) w ⊎ ((w ≡ v) × (has_stamp (x ∷ xs) v.stamp ≡ false))
    here ne older c =
        ⊎_elim
        (λ e. inr (sym e, rw ne (new_if_older v.stamp xs (all_older v.stamp x.stamp xs older h.0))))
        inl
        (first_or_rest v w (x ∷ xs) c)

pub held_after_put : (xs ys : List Version) (v : Version) → IsFalling xs → ys ≡ put_of xs v → (w : Version) → Contains ys w ↔ (Contains xs w ⊎ ((w ≡ v) × (has_stamp xs v.stamp ≡ false)))
held_after_put xs ys v h e w =
    subst
    (λ (zs : List Version). Contains zs w ↔ (Contains xs w ⊎ ((w ≡ v) × (has_stamp xs v.stamp ≡ false))))
    (sym e)
    (held_only xs v w h, ⊎_elim (held_before xs v w) (λ new. subst (Contains (put_of xs v)) (sym new.0) (put_is_held xs v new.1)))

held_after_removal : (xs : List Version) (place : ℕ) (w : Version) → Contains (remove xs place) w → Contains xs w
held_after_removal [] zero w c = c
held_after_removal [] (suc place) w c = c
held_after_removal (x ∷ xs) zero w c = contains_rest x w xs c
held_after_removal (x ∷ xs) (suc place) w c =
    ⊎_elim
    (λ e. subst (Contains (x ∷ xs)) e (contains_first x xs))
    (λ r. contains_rest x w xs (held_after_removal xs place w r))
    (first_or_rest x w (remove xs place) c)

removed_or_held : (xs : List Version) (place : ℕ) (w : Version) → Contains xs w → Contains (remove xs place) w ⊎ (slice_get xs place ≡ Some w)
removed_or_held [] place w c = absurd (none_in_empty w c)
removed_or_held (x ∷ xs) zero w c = ⊎_elim (λ e. inr (ap Some e)) inl (first_or_rest x w xs c)
removed_or_held (x ∷ xs) (suc place) w c =
    ⊎_elim
    (λ e. inl (subst (Contains (x ∷ remove xs place)) e (contains_first x (remove xs place))))
    (λ r. ⊎_elim (λ kept. inl (contains_rest x w (remove xs place) kept)) inr (removed_or_held xs place w r))
    (first_or_rest x w xs c)

pub held_but_removed : (xs : List Version) (place : ℕ) (w : Version) → Contains xs w ↔ (Contains (remove xs place) w ⊎ (slice_get xs place ≡ Some w))
held_but_removed xs place w = (removed_or_held xs place w, ⊎_elim (held_after_removal xs place w) (placed_is_contained xs place w))

-- what was removed is held no longer: a stamp is held once
pub removed_is_gone : (xs : List Version) (place : ℕ) (w : Version) → IsFalling xs → slice_get xs place ≡ Some w → Contains (remove xs place) w → ⊥
removed_is_gone [] place w h e c = absurd (cc)
removed_is_gone (x ∷ xs) zero w h e c = not_among_older x xs h.0 (subst (Contains xs) (sym (same_value x w e)) c)
removed_is_gone (x ∷ xs) (suc place) w h e c =
    ⊎_elim
    (λ same. not_among_older x xs h.0 (placed_is_contained xs place x (e ∙ ap Some (sym same))))
    (removed_is_gone xs place w h.1 e)
    (first_or_rest x w (remove xs place) c)

-- a version that is inserted changes the list
pub not_inserted : (xs : List Version) (v : Version) (place : ℕ) → place ≤ length xs → put_of xs v ≡ insert xs place v → put_of xs v ≡ xs → ⊥
not_inserted xs v place le is same =
    let more = length-insert xs place v le in
    let equal : length (insert xs place v) ≡ length xs = ap length (sym is ∙ same) in
    omega arith
