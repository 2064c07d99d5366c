-- The newest range deletion over a name has the greatest stamp, also after a put.
use Rattle.std.proofs.Common.{◌≡◌, refl, ℕ, ap, ◌∙◌, subst, Bool, true, false, if◌then◌else◌, List, [], ◌∷◌, Option, Some, None, ⊎_elim}
use Rattle.std.specs.Prelude.{MatchOption, Contains}
use Rattle.logical_time.specs.Stamps.{is_older}
use Rattle.versions.specs.declared.range.RangeDeletion.{RangeDeletion}
use Rattle.versions.specs.Ranges.{NoneNewer, RangesFall, put_range, is_over, over_of, newer_range, over_with, IsNewestOver}
use Rattle.versions.proofs.Tests.{by_cases, not_older_than_itself}
use Rattle.versions.proofs.RangeOrder.{none_in_empty, first_or_rest, contains_first, contains_rest, contained_no_newer}
use Rattle.versions.proofs.RangesHeld.{none_newer}

first_is_newest : (x : RangeDeletion) (xs : List RangeDeletion) → NoneNewer x.stamp xs → (w : RangeDeletion) → Contains (x ∷ xs) w → is_older x.stamp w.stamp ≡ false
first_is_newest x xs h w c =
    ⊎_elim
    (λ e. subst (λ (u : RangeDeletion). is_older x.stamp u.stamp ≡ false) e (not_older_than_itself x.stamp))
    (contained_no_newer x.stamp xs w h)
    (first_or_rest x w xs c)

pub over_is_greatest : (xs : List RangeDeletion) (name : List ℕ) (t : ℕ) → RangesFall xs
    → MatchOption (over_of xs name t) ((x : RangeDeletion) → Contains xs x → is_over name t x ≡ false) (IsNewestOver xs name t)
over_is_greatest [] name t h = λ w c. absurd (none_in_empty w c)
over_is_greatest (x ∷ xs) name t h =
    by_cases (is_over name t x)
    (λ over. rw over (contains_first x xs, over, λ w c k. first_is_newest x xs h.0 w c))
    (λ not. rw not (later not (over_of xs name t) (over_is_greatest xs name t h.1)))
  where
    later : is_over name t x ≡ false → (o : Option RangeDeletion) → MatchOption o ((w : RangeDeletion) → Contains xs w → is_over name t w ≡ false) (IsNewestOver xs name t)
        → MatchOption o ((w : RangeDeletion) → Contains (x ∷ xs) w → is_over name t w ≡ false) (IsNewestOver (x ∷ xs) name t)
    later not None m = λ w c. ⊎_elim (λ e. subst (λ (u : RangeDeletion). is_over name t u ≡ false) e not) (m w) (first_or_rest x w xs c)
    later not (Some v) m = (
      contains_rest x v xs m.0,
      m.1,
      λ w c over.
          ⊎_elim
          (λ e. absurd (let k : is_over name t x ≡ true = ap (is_over name t) e ∙ over in cc))
          (λ k. m.2 w k over)
          (first_or_rest x w xs c),
    )

-- ---- a put
either_way : {T : Type 0} (b : Bool) (x : T) → x ≡ (if b then x else x)
either_way true x = refl
either_way false x = refl

-- what is found among those that are no newer is no newer
newer_than_found : (v : RangeDeletion) (xs : List RangeDeletion) (name : List ℕ) (t : ℕ) → NoneNewer v.stamp xs → newer_range v (over_of xs name t) ≡ Some v
newer_than_found v [] name t h = refl
newer_than_found v (x ∷ xs) name t h =
    by_cases (is_over name t x)
    (λ over. rw (over, h.0) refl)
    (λ not. rw not (newer_than_found v xs name t h.1))

over_put : (xs : List RangeDeletion) (v : RangeDeletion) (name : List ℕ) (t : ℕ) → RangesFall xs → over_of (put_range xs v) name t ≡ over_with xs v name t
over_put [] v name t h = refl
over_put (x ∷ xs) v name t h =
    by_cases (is_older v.stamp x.stamp)
    (λ lt. rw lt (behind lt (over_put xs v name t h.1)))
    (λ ge. rw ge (rw (newer_than_found v (x ∷ xs) name t (ge, none_newer v.stamp x.stamp xs ge h.0)) refl))
  where
    behind : is_older v.stamp x.stamp ≡ true → over_of (put_range xs v) name t ≡ over_with xs v name t
        → over_of (x ∷ put_range xs v) name t ≡ (if is_over name t v then newer_range v (over_of (x ∷ xs) name t) else over_of (x ∷ xs) name t)
    behind lt rest =
        by_cases (is_over name t x)
        (λ over. rw (over, lt) (either_way (is_over name t v) (Some x)))
        (λ not. rw not rest)

pub over_after_put : (xs ys : List RangeDeletion) (v : RangeDeletion) → RangesFall xs → ys ≡ put_range xs v → (name : List ℕ) (t : ℕ) → over_of ys name t ≡ over_with xs v name t
over_after_put xs ys v h e name t = ap (λ (zs : List RangeDeletion). over_of zs name t) e ∙ over_put xs v name t h
