-- Lists whose first elements are seen alike, and what holds of all numbers below one more.
use Rattle.std.proofs.Common.{◌≡◌, ◌∙◌, ap, sym, subst, ℕ, ◌+◌, ◌<◌, List, length, take, map, get_or, inl, inr, arith, eqb}
use Rattle.std.proofs.lemmas.Bool.{cases_lt}
use Rattle.std.proofs.lemmas.List.{take_more_same, get_or-map, get_or-take, length-map}

-- one more is seen alike
pub one_more : {A B : Type 0} (f : A → B) (xs ys : List A) (i : ℕ) (x y : A) → i < length xs → i < length ys → x ≡ get_or xs i x → y ≡ get_or ys i y
    → take i (map f xs) ≡ take i (map f ys) → f x ≡ f y → take (i + 1) (map f xs) ≡ take (i + 1) (map f ys)
one_more f xs ys i x y in_xs in_ys is_x is_y same this =
    let e : length (map f xs) ≡ length xs = length-map xs f in
    let e' : length (map f ys) ≡ length ys = length-map ys f in
    take_more_same (map f xs) (map f ys) i (f x) (omega arith) (omega arith) same
    (get_or-map f xs i x (f x) in_xs ∙ sym (ap f is_x) ∙ this ∙ ap f is_y ∙ sym (get_or-map f ys i y (f x) in_ys))

-- what is seen first in a list is seen there at each of its places
pub seen_at : {A B : Type 0} (f : A → B) (xs ys : List A) (i : ℕ) (x y : A) → i < length xs → i < length ys → x ≡ get_or xs i x → y ≡ get_or ys i y
    → map f xs ≡ take (length (map f xs)) (map f ys) → f x ≡ f y
seen_at f xs ys i x y in_xs in_ys is_x is_y first =
    let e : length (map f xs) ≡ length xs = length-map xs f in
    ap f is_x ∙ sym (get_or-map f xs i x (f x) in_xs) ∙ ap (λ l. get_or l i (f x)) first ∙ get_or-take (length (map f xs)) (map f ys) i (f x) (omega arith)
    ∙ get_or-map f ys i y (f x) in_ys ∙ sym (ap f is_y)

-- what holds of all numbers below one, and of that one, holds of all below the next
pub below_next : (P : ℕ → Type 0) (n : ℕ) → ((k : ℕ) → k < n → P k) → P n → (k : ℕ) → k < n + 1 → P k
below_next P n before last k lt = elim (cases_lt k n) [ inl less ↦ before k less | inr le ↦ subst P (omega (arith, lt, le)) last ]
