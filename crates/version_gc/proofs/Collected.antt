-- What a collection keeps.
use Rattle.std.proofs.Common.{◌≡◌, refl, ◌∙◌, ap, sym, subst, ℕ, max, ◌≤◌, ◌<◌, true, false, nat_le, List, [], ◌∷◌, Option, Some, ⊎_elim, arith}
use Rattle.std.proofs.lemmas.Bool.Decides.{nat_tests}
use Rattle.std.specs.Prelude.{Contains, slice_get, ◌↔◌}
use Rattle.versions.specs.declared.version.Version.{Version}
use Rattle.versions.specs.Chain.{at_of, is_kept, kept_below, kept_from}
use Rattle.versions.proofs.Tests.{by_cases}
use Rattle.versions.proofs.Members.{none_in_empty, first_or_rest, seen_is_contained}
use Rattle.version_gc.specs.Collection.{IsNewestFrom}

at_kept_below : (t bound : ℕ) (xs : List Version) (at : ℕ) → t ≤ at → at < bound → at_of (kept_below t bound xs) at ≡ at_of xs at
at_kept_below t bound [] at from before = refl
at_kept_below t bound (x ∷ xs) at from before =
    by_cases (nat_le x.evt at)
    (λ le. let kept : is_kept t bound x.evt ≡ true = grind (arith, nat_tests, le, from, before) in rw (kept, le) refl)
    (λ gt. rw gt (by_cases (is_kept t bound x.evt)
    (λ kept. rw (kept, gt) (at_kept_below t x.evt xs at from (grind (arith, nat_tests, gt))))
    (λ gone. rw gone (at_kept_below t bound xs at from before))))

-- from the time on, what is seen stays
pub at_kept : (t : ℕ) (xs : List Version) (at : ℕ) → t ≤ at → at_of (kept_from t xs) at ≡ at_of xs at
at_kept t [] at from = refl
at_kept t (x ∷ xs) at from =
    by_cases (nat_le x.evt at)
    (λ le. rw le refl)
    (λ gt. rw gt (at_kept_below t x.evt xs at from (grind (arith, nat_tests, gt))))

pub first_kept : (t : ℕ) (xs : List Version) → slice_get (kept_from t xs) 0 ≡ slice_get xs 0
first_kept t [] = refl
first_kept t (x ∷ xs) = refl

-- ---- what is kept is the newest at some time from `t` on
seen_later : (x : Version) (xs : List Version) (at : ℕ) (o : Option Version) → at < x.evt → at_of xs at ≡ o → at_of (x ∷ xs) at ≡ o
seen_later x xs at o before e = let gt : nat_le x.evt at ≡ false = grind (arith, nat_tests, before) in rw gt e

below_is_newest : (t bound : ℕ) (xs : List Version) (v : Version) → Contains (kept_below t bound xs) v → (at : ℕ) × (t ≤ at) × (at < bound) × (at_of xs at ≡ Some v)
below_is_newest t bound [] v has = absurd (none_in_empty v has)
below_is_newest t bound (x ∷ xs) v has =
    by_cases (is_kept t bound x.evt)
    (λ kept. ⊎_elim (λ e. here kept e) (λ r. later kept (below_is_newest t x.evt xs v r)) (first_or_rest x v (kept_below t x.evt xs) (rw kept at has)))
    (λ gone. past gone (below_is_newest t bound xs v (rw gone at has)))
  where
    here : is_kept t bound x.evt ≡ true → x ≡ v → (at : ℕ) × (t ≤ at) × (at < bound) × (at_of (x ∷ xs) at ≡ Some v)
    here kept e =
        let before : (x.evt < bound) × (t < bound) = (grind (arith, nat_tests, kept), grind (arith, nat_tests, kept)) in
        let le : nat_le x.evt (max x.evt t) ≡ true = grind (arith, nat_tests) in
        (max x.evt t, omega arith, omega (arith, before.0, before.1), rw le (ap Some e))

    later : is_kept t bound x.evt ≡ true → (at : ℕ) × (t ≤ at) × (at < x.evt) × (at_of xs at ≡ Some v) → (at : ℕ) × (t ≤ at) × (at < bound) × (at_of (x ∷ xs) at ≡ Some v)
    later kept k =
        let before : x.evt < bound = grind (arith, nat_tests, kept) in
        (k.0, k.1, omega (arith, before, k.2), seen_later x xs k.0 (Some v) k.2 k.3)

    past : is_kept t bound x.evt ≡ false → (at : ℕ) × (t ≤ at) × (at < bound) × (at_of xs at ≡ Some v) → (at : ℕ) × (t ≤ at) × (at < bound) × (at_of (x ∷ xs) at ≡ Some v)
    past gone k =
        let before : k.0 < x.evt = grind (arith, nat_tests, gone, k.1, k.2) in
        (k.0, k.1, k.2, seen_later x xs k.0 (Some v) before k.3)

kept_is_newest : (t : ℕ) (xs : List Version) (v : Version) → Contains (kept_from t xs) v → IsNewestFrom t xs v
kept_is_newest t [] v has = absurd (none_in_empty v has)
kept_is_newest t (x ∷ xs) v has =
    ⊎_elim
    (λ e. let le : nat_le x.evt (max x.evt t) ≡ true = grind (arith, nat_tests) in (max x.evt t, omega arith, rw le (ap Some e)))
    (λ r. let k = below_is_newest t x.evt xs v r in (k.0, k.1, seen_later x xs k.0 (Some v) k.2 k.3))
    (first_or_rest x v (kept_below t x.evt xs) has)

newest_is_kept : (t : ℕ) (xs : List Version) (v : Version) → IsNewestFrom t xs v → Contains (kept_from t xs) v
newest_is_kept t xs v k = seen_is_contained (kept_from t xs) k.0 v (at_kept t xs k.0 k.1 ∙ k.2)

pub kept_exactly : (t : ℕ) (xs ys : List Version) → ys ≡ kept_from t xs → (v : Version) → Contains ys v ↔ IsNewestFrom t xs v
kept_exactly t xs ys is v =
    subst (λ (zs : List Version). Contains zs v ↔ IsNewestFrom t xs v) (sym is) (kept_is_newest t xs v, newest_is_kept t xs v)
