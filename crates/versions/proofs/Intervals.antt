-- An interval holds exactly the times at which a version is the newest.
use Rattle.std.proofs.Common.{◌≡◌, refl, ℕ, zero, suc, ◌≤◌, ◌<◌, sym, ◌∙◌, true, false, nat_le, List, [], ◌∷◌, Option, Some, None, arith}
use Rattle.std.proofs.lemmas.Bool.Decides.{nat_tests}
use Rattle.std.specs.Prelude.{nat_lt, MatchOption, IfSome, slice_get, ◌↔◌}
use Rattle.versions.specs.declared.version.Version.{Version}
use Rattle.versions.specs.Chain.{IsFalling, at_of, least, interval_of}
use Rattle.versions.specs.Newest.{IsWithin, IsPlaceNewestAt}
use Rattle.versions.proofs.Tests.{by_cases}
use Rattle.versions.proofs.Members.{seen_is_contained, placed_is_contained, not_among_older}

-- the least bound bounds a time that comes before both
before_least : (b e t : ℕ) → t < b → nat_le e t ≡ false → t < least b e
before_least b e t lt gt = by_cases (nat_lt e b) (λ l. rw l (grind (arith, nat_tests, gt))) (λ l. rw l lt)

least_before : (b e t : ℕ) → t < least b e → (t < b) × (nat_le e t ≡ false)
least_before b e t h =
    by_cases (nat_lt e b)
    (λ l. let k = rw l at h in (grind (arith, nat_tests, l, k), grind (arith, nat_tests, l, k)))
    (λ l. let k = rw l at h in (k, grind (arith, nat_tests, l, k)))

within_if : (b : ℕ) (xs : List Version) (place t : ℕ) → IsFalling xs → t < b → IsPlaceNewestAt xs place t → IsWithin (interval_of b xs place) t
within_if b [] place t h lt p = p
within_if b (x ∷ xs) zero t h lt p =
    by_cases (nat_le x.evt t)
    (λ le.
    let before : nat_lt x.evt b ≡ true = grind (arith, nat_tests, le, lt) in
    rw before (grind (arith, nat_tests, le), omega (arith, lt)))
    (λ gt. absurd (not_among_older x xs h.0 (seen_is_contained xs t x (rw gt at p))))
within_if b (x ∷ xs) (suc place) t h lt p =
    by_cases (nat_le x.evt t)
    (λ le. absurd (hidden le (slice_get xs place) refl p))
    (λ gt. within_if (least b x.evt) xs place t h.1 (before_least b x.evt t lt gt) (rw gt at p))
  where
    hidden : nat_le x.evt t ≡ true → (o : Option Version) → slice_get xs place ≡ o → MatchOption o ⊥ (λ v. at_of (x ∷ xs) t ≡ Some v) → ⊥
    hidden le None e m = m
    hidden le (Some v) e m = not_among_older x xs h.0 (placed_is_contained xs place x (e ∙ sym (rw le at m)))

within_only : (b : ℕ) (xs : List Version) (place t : ℕ) → IsFalling xs → IsWithin (interval_of b xs place) t → (t < b) × IsPlaceNewestAt xs place t
within_only b [] place t h w = absurd w
within_only b (x ∷ xs) zero t h w =
    by_cases (nat_lt x.evt b)
    (λ lt.
    let k = rw lt at w in
    let le : nat_le x.evt t ≡ true = grind (arith, nat_tests, k.0) in
    (grind (arith, nat_tests, lt, k.1), rw le refl))
    (λ ge. absurd (rw ge at w))
within_only b (x ∷ xs) (suc place) t h w =
    let r = within_only (least b x.evt) xs place t h.1 w in
    let k = least_before b x.evt t r.0 in
    (k.0, rw k.1 r.1)

pub interval_is_exact : (b : ℕ) (xs : List Version) (place : ℕ) → IsFalling xs → (t : ℕ) → IsWithin (interval_of b xs place) t ↔ ((t < b) × IsPlaceNewestAt xs place t)
interval_is_exact b xs place h t = (within_only b xs place t h, λ p. within_if b xs place t h p.0 p.1)

pub interval_is_ordered : (b : ℕ) (xs : List Version) (place : ℕ) → IfSome (interval_of b xs place) (λ times. times.0 ≤ times.1)
interval_is_ordered b [] place = tt
interval_is_ordered b (x ∷ xs) zero =
    by_cases (nat_lt x.evt b)
    (λ lt. rw lt (grind (arith, nat_tests, lt)))
    (λ ge. rw ge tt)
interval_is_ordered b (x ∷ xs) (suc place) = interval_is_ordered (least b x.evt) xs place
