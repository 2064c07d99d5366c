-- Lists: beginnings, ends, and what is found in them.
use Rattle.std.proofs.Common.{append-nil, ◌≡◌, ◌∙◌, ℕ, zero, suc, ◌+◌, List, [], ◌∷◌, ◌++◌, length, take, slice_get, Some, ◌⊎◌, inl, inr, refl, sym, ap, arith}
use Rattle.std.specs.Prelude.{flat_map}
use Rattle.std.specs.List.{range_with_len}
use Rattle.std.proofs.lemmas.List.{append_assoc}

-- a beginning of a list with one more at its end is one of the list, or the whole
pub begins_or_whole : {X : Type 0} (xs : List X) (x : X) (before after : List X) → xs ++ x ∷ [] ≡ before ++ after
    → ((rest : List X) × (xs ≡ before ++ rest)) ⊎ (before ≡ xs ++ x ∷ [])
begins_or_whole xs x [] after q = inl (xs, refl)
begins_or_whole [] x (z ∷ []) after q = let same : x ≡ z = cc in inr (ap (λ w. w ∷ []) (sym same))
begins_or_whole {X} [] x (z ∷ w ∷ before) after q = let none : [] ≡ w ∷ (before ++ after) = cc in absurd (cc)
begins_or_whole (y ∷ xs) x (z ∷ before) after q =
    let head : y ≡ z = cc in
    let tail : xs ++ x ∷ [] ≡ before ++ after = cc in
    elim (begins_or_whole xs x before after tail) [
      | inl inner ↦ inl (inner.0, ap (λ v. v ∷ xs) head ∙ ap (λ l. z ∷ l) inner.1)
      | inr whole ↦ inr (ap (λ l. z ∷ l) whole ∙ ap (λ v. v ∷ (xs ++ x ∷ [])) (sym head))
    ]

-- what follows one beginning
pub same_rest : {X : Type 0} (xs ys zs : List X) → xs ++ ys ≡ xs ++ zs → ys ≡ zs
same_rest [] ys zs q = q
same_rest (x ∷ xs) ys zs q = same_rest xs ys zs (cc)

-- one element more of a beginning
pub take_one_more : {X : Type 0} (xs : List X) (n : ℕ) (x : X) → slice_get xs n ≡ Some x → take (suc n) xs ≡ take n xs ++ x ∷ []
take_one_more [] n x e = absurd (cc)
take_one_more (y ∷ xs) zero x e = let same : y ≡ x = cc in ap (λ z. z ∷ []) same
take_one_more (y ∷ xs) (suc n) x e = ap (λ l. y ∷ l) (take_one_more xs n x e)

-- what stands in a list with one more at its end
pub last_or_before : {X : Type 0} (xs : List X) (x y : X) (i : ℕ) → slice_get (xs ++ x ∷ []) i ≡ Some y → (slice_get xs i ≡ Some y) ⊎ ((i ≡ length xs) × (x ≡ y))
last_or_before [] x y zero at = let same : x ≡ y = cc in inr (refl, same)
last_or_before [] x y (suc i) at = absurd (cc)
last_or_before (z ∷ xs) x y zero at = inl at
last_or_before (z ∷ xs) x y (suc i) at = elim (last_or_before xs x y i at) [ inl old ↦ inl old | inr new ↦ inr (ap suc new.0, new.1) ]

-- ## Numbers in a row

pub range_more : (start n : ℕ) → range_with_len start (suc n) ≡ range_with_len start n ++ (start + n) ∷ []
range_more start zero = ap (λ k. k ∷ []) (omega arith)
range_more start (suc n) = ap (λ l. start ∷ l) (range_more (start + 1) n ∙ ap (λ k. range_with_len (start + 1) n ++ k ∷ []) (omega arith))

pub flat_more : {X Y : Type 0} (f : X → List Y) (xs : List X) (x : X) → flat_map f (xs ++ x ∷ []) ≡ flat_map f xs ++ f x
flat_more f [] x = append-nil (f x)
flat_more f (y ∷ xs) x = ap (λ l. f y ++ l) (flat_more f xs x) ∙ sym (append_assoc (f y) (flat_map f xs) (f x))
