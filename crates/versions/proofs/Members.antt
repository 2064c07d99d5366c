-- What a list of versions contains, where it was found, and what is older than a stamp.
use Rattle.std.proofs.Common.{◌≡◌, refl, ℕ, zero, suc, ◌<◌, subst, true, nat_le, List, [], ◌∷◌, Some, length, get_or, inl, inr, ⊎_elim, arith}
use Rattle.std.specs.Prelude.{Contains, slice_get, ◌⊎◌}
use Rattle.logical_time.specs.Stamps.{StampValue, is_older}
use Rattle.versions.specs.declared.version.Version.{Version}
use Rattle.versions.specs.Chain.{AreOlder, at_of}
use Rattle.versions.proofs.Tests.{by_cases, not_older_than_itself}

pub none_in_empty : (z : Version) → Contains [] z → ⊥
none_in_empty z c = omega (arith, c.1)

pub first_or_rest : (x z : Version) (xs : List Version) → Contains (x ∷ xs) z → (x ≡ z) ⊎ Contains xs z
first_or_rest x z xs c = go c.0 c.1 c.2
  where
    go : (k : ℕ) → k < length (x ∷ xs) → get_or (x ∷ xs) k z ≡ z → (x ≡ z) ⊎ Contains xs z
    go zero l e = inl e
    go (suc k) l e = inr (k, omega arith, e)

pub contains_first : (x : Version) (xs : List Version) → Contains (x ∷ xs) x
contains_first x xs = (0, omega arith, refl)

pub contains_rest : (x z : Version) (xs : List Version) → Contains xs z → Contains (x ∷ xs) z
contains_rest x z xs c = (suc c.0, omega (arith, c.1), c.2)

pub contained_older : (s : StampValue) (xs : List Version) (w : Version) → AreOlder s xs → Contains xs w → is_older w.stamp s ≡ true
contained_older s [] w h c = absurd (none_in_empty w c)
contained_older s (x ∷ xs) w h c = ⊎_elim (λ e. subst (λ (u : Version). is_older u.stamp s ≡ true) e h.0) (contained_older s xs w h.1) (first_or_rest x w xs c)

pub same_value : (a b : Version) → Some a ≡ Some b → a ≡ b
same_value a b e = cc

-- what is seen in a list is contained in it
pub seen_is_contained : (xs : List Version) (t : ℕ) (v : Version) → at_of xs t ≡ Some v → Contains xs v
seen_is_contained [] t v e = absurd (cc)
seen_is_contained (x ∷ xs) t v e =
    by_cases (nat_le x.evt t)
    (λ le. subst (Contains (x ∷ xs)) (same_value x v (rw le at e)) (contains_first x xs))
    (λ gt. contains_rest x v xs (seen_is_contained xs t v (rw gt at e)))

-- what stands in a list is contained in it
pub placed_is_contained : (xs : List Version) (place : ℕ) (v : Version) → slice_get xs place ≡ Some v → Contains xs v
placed_is_contained [] place v e = absurd (cc)
placed_is_contained (x ∷ xs) zero v e = subst (Contains (x ∷ xs)) (same_value x v e) (contains_first x xs)
placed_is_contained (x ∷ xs) (suc place) v e = contains_rest x v xs (placed_is_contained xs place v e)

-- a version is not among the older ones
pub not_among_older : (x : Version) (xs : List Version) → AreOlder x.stamp xs → Contains xs x → ⊥
not_among_older x xs h c =
    let older = contained_older x.stamp xs x h c in
    let not = not_older_than_itself x.stamp in
    absurd (cc)
