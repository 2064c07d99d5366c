-- What is taken from the end of one list and put to the end of another.
use Rattle.std.proofs.Common.{◌≡◌, ◌∙◌, ℕ, zero, suc, ◌+◌, List, [], ◌∷◌, ◌++◌, length, take, drop, slice_get, Some, refl, sym, ap, append_assoc, arith}
use Rattle.std.specs.Prelude.{reverse}
use Rattle.std.proofs.lemmas.List.{length_push, reverse-append}

-- a list by all but its last
but_last : {X : Type 0} (xs : List X) (k : ℕ) (x : X) → suc k ≡ length xs → slice_get xs k ≡ Some x → (take k xs ++ drop (suc k) xs) ++ x ∷ [] ≡ xs
but_last [] k x long at = absurd (cc)
but_last (y ∷ []) zero x long at = let same : y ≡ x = cc in ap (λ z. z ∷ []) (sym same)
but_last (y ∷ z ∷ zs) zero x long at = absurd (omega (arith, long))
but_last (y ∷ ys) (suc k) x long at = ap (λ l. y ∷ l) (but_last ys k x (omega (arith, long)) at)

one_on : (k : ℕ) → k + 1 ≡ suc k
one_on k = omega arith

-- the last of what was sent comes before those whose turn it is
pub turned : {X : Type 0} (xs ts : List X) (k : ℕ) (x : X) → k + 1 ≡ length xs → slice_get xs k ≡ Some x
    → (take k xs ++ drop (k + 1) xs) ++ reverse (ts ++ x ∷ []) ≡ xs ++ reverse ts
turned xs ts k x long at =
    ap (λ n. (take k xs ++ drop n xs) ++ reverse (ts ++ x ∷ [])) (one_on k)
    ∙ ap (λ l. (take k xs ++ drop (suc k) xs) ++ l) (reverse-append ts (x ∷ []))
    ∙ sym (append_assoc (take k xs ++ drop (suc k) xs) (x ∷ []) (reverse ts))
    ∙ ap (λ l. l ++ reverse ts) (but_last xs k x (omega (arith, long)) at)

-- without it what was sent is one less
pub one_fewer : {X : Type 0} (xs : List X) (k : ℕ) (x : X) → k + 1 ≡ length xs → slice_get xs k ≡ Some x → length (take k xs ++ drop (k + 1) xs) + 1 ≡ length xs
one_fewer xs k x long at =
    ap (λ n. length (take k xs ++ drop n xs) + 1) (one_on k)
    ∙ sym (length_push (take k xs ++ drop (suc k) xs) x)
    ∙ ap length (but_last xs k x (omega (arith, long)) at)

pub none_left : {X : Type 0} (xs : List X) → length xs ≡ 0 → xs ≡ []
none_left [] e = refl
none_left (x ∷ xs) e = absurd (omega (arith, e))
