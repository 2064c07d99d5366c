-- Items of a list at their places.
use Rattle.std.proofs.Common.{◌≡◌, ℕ, zero, suc, ◌<◌, List, [], ◌∷◌, ◌++◌, length, Some, None, refl, sym, ap, ◌∙◌, arith}
use Rattle.std.specs.Prelude.{slice_get, slice_set, slice_index_or}
use Rattle.std.proofs.lemmas.Option.{slice_get_read}

pub get_set_same : {A : Type 0} (xs : List A) (i : ℕ) (y : A) → i < length xs → slice_get (slice_set xs i y) i ≡ Some y
get_set_same [] i y lt = absurd (omega arith)
get_set_same (x ∷ xs) zero y lt = refl
get_set_same (x ∷ xs) (suc i) y lt = get_set_same xs i y (omega arith)

pub get_set_other : {A : Type 0} (xs : List A) (i j : ℕ) (y : A) → (i ≡ j → ⊥) → slice_get (slice_set xs i y) j ≡ slice_get xs j
get_set_other [] i j y ne = refl
get_set_other (x ∷ xs) zero zero y ne = absurd (ne refl)
get_set_other (x ∷ xs) zero (suc j) y ne = refl
get_set_other (x ∷ xs) (suc i) zero y ne = refl
get_set_other (x ∷ xs) (suc i) (suc j) y ne = get_set_other xs i j y (λ e. ne (ap suc e))

pub set_set : {A : Type 0} (xs : List A) (i : ℕ) (x y : A) → slice_set (slice_set xs i x) i y ≡ slice_set xs i y
set_set [] i x y = refl
set_set (z ∷ xs) zero x y = refl
set_set {A = A} (z ∷ xs) (suc i) x y = ap (λ (r : List A). z ∷ r) (set_set xs i x y)

some_is : {A : Type 0} (x y : A) → Some x ≡ Some y → x ≡ y
some_is x y e = cc

pub set_same : {A : Type 0} (xs : List A) (i : ℕ) (y : A) → slice_get xs i ≡ Some y → slice_set xs i y ≡ xs
set_same [] i y is = refl
set_same {A = A} (x ∷ xs) zero y is = ap (λ (z : A). z ∷ xs) (some_is y x (sym is))
set_same {A = A} (x ∷ xs) (suc i) y is = ap (λ (r : List A). x ∷ r) (set_same xs i y is)

pub got_within : {A : Type 0} (xs : List A) (i : ℕ) (y : A) → slice_get xs i ≡ Some y → i < length xs
got_within [] i y is = absurd cc
got_within (x ∷ xs) zero y is = omega arith
got_within (x ∷ xs) (suc i) y is = let lt = got_within xs i y is in omega arith

pub get_last : {A : Type 0} (xs : List A) (y : A) → slice_get (xs ++ y ∷ []) (length xs) ≡ Some y
get_last [] y = refl
get_last (x ∷ xs) y = get_last xs y

pub get_past : {A : Type 0} (xs : List A) → slice_get xs (length xs) ≡ None
get_past [] = refl
get_past (x ∷ xs) = get_past xs

pub get_before : {A : Type 0} (xs : List A) (y : A) (k : ℕ) → (length xs ≡ k → ⊥) → slice_get (xs ++ y ∷ []) k ≡ slice_get xs k
get_before [] y zero ne = absurd (ne refl)
get_before [] y (suc k) ne = refl
get_before (x ∷ xs) y zero ne = refl
get_before (x ∷ xs) y (suc k) ne = get_before xs y k (λ e. ne (ap suc e))

-- what is read at a place
pub place_is : {A : Type 0} (xs : List A) (n i : ℕ) (x y : A) → n ≡ length xs → i < n → x ≡ slice_index_or xs i x → x ≡ y → slice_get xs i ≡ Some y
place_is {A = A} xs n i x y len lt is same = slice_get_read xs n i x len lt is ∙ ap (λ (z : A). Some z) same
