-- The elements of a list, first to last.
use Rattle.std.proofs.Common.{◌≡◌, refl, zero, suc, ◌⊎◌, inl, inr, List, [], ◌∷◌, arith}
use Rattle.std.specs.Prelude.{Contains}

pub none_in_empty : {X : Type 0} (x : X) → Contains [] x → ⊥
none_in_empty x (k, lt, e) = omega arith

pub contains_first : {X : Type 0} (x : X) (xs : List X) → Contains (x ∷ xs) x
contains_first x xs = (zero, omega arith, refl)

pub contains_rest : {X : Type 0} (x z : X) (xs : List X) → Contains xs z → Contains (x ∷ xs) z
contains_rest x z xs (k, lt, e) = (suc k, omega arith, e)

pub first_or_rest : {X : Type 0} (x z : X) (xs : List X) → Contains (x ∷ xs) z → (x ≡ z) ⊎ Contains xs z
first_or_rest x z xs (zero, lt, e) = inl e
first_or_rest x z xs (suc k, lt, e) = inr (k, omega arith, e)
