-- The order of range deletions, and what a list of them contains.
use Rattle.std.proofs.Common.{◌≡◌, refl, ℕ, zero, suc, ◌<◌, subst, false, List, [], ◌∷◌, Some, length, get_or, inl, inr, ⊎_elim, arith}
use Rattle.std.proofs.lemmas.Bool.Decides.{nat_tests}
use Rattle.std.specs.Prelude.{Contains, slice_get, ◌⊎◌}
use Rattle.logical_time.specs.Stamps.{StampValue, is_older}
use Rattle.versions.specs.declared.range.RangeDeletion.{RangeDeletion}
use Rattle.versions.specs.Ranges.{NoneNewer}

pub none_newer_further : (r s t : StampValue) → is_older r s ≡ false → is_older s t ≡ false → is_older r t ≡ false
none_newer_further r s t h k = grind (arith, nat_tests)

-- ---- what a list contains
pub none_in_empty : (z : RangeDeletion) → Contains [] z → ⊥
none_in_empty z c = omega (arith, c.1)

pub first_or_rest : (x z : RangeDeletion) (xs : List RangeDeletion) → Contains (x ∷ xs) z → (x ≡ z) ⊎ Contains xs z
first_or_rest x z xs c = go c.0 c.1 c.2
  where
    go : (k : ℕ) → k < length (x ∷ xs) → get_or (x ∷ xs) k z ≡ z → (x ≡ z) ⊎ Contains xs z
    go zero l e = inl e
    go (suc k) l e = inr (k, omega arith, e)

pub contains_first : (x : RangeDeletion) (xs : List RangeDeletion) → Contains (x ∷ xs) x
contains_first x xs = (0, omega arith, refl)

pub contains_rest : (x z : RangeDeletion) (xs : List RangeDeletion) → Contains xs z → Contains (x ∷ xs) z
contains_rest x z xs c = (suc c.0, omega (arith, c.1), c.2)

pub same_range : (a b : RangeDeletion) → Some a ≡ Some b → a ≡ b
same_range a b e = cc

pub placed_is_contained : (xs : List RangeDeletion) (place : ℕ) (r : RangeDeletion) → slice_get xs place ≡ Some r → Contains xs r
placed_is_contained [] place r e = absurd (cc)
placed_is_contained (x ∷ xs) zero r e = subst (Contains (x ∷ xs)) (same_range x r e) (contains_first x xs)
placed_is_contained (x ∷ xs) (suc place) r e = contains_rest x r xs (placed_is_contained xs place r e)

pub contained_no_newer : (s : StampValue) (xs : List RangeDeletion) (x : RangeDeletion) → NoneNewer s xs → Contains xs x → is_older s x.stamp ≡ false
contained_no_newer s [] w h c = absurd (none_in_empty w c)
contained_no_newer s (x ∷ xs) w h c = ⊎_elim (λ e. subst (λ (u : RangeDeletion). is_older s u.stamp ≡ false) e h.0) (contained_no_newer s xs w h.1) (first_or_rest x w xs c)
