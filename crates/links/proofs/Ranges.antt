-- The numbers of a range at which a test gives true, and one more number.
use Rattle.std.proofs.Common.{◌≡◌, ℕ, zero, suc, ◌+◌, ◌<◌, ◌≤◌, Bool, true, false, cond, List, [], ◌∷◌, ◌++◌, map, refl, ap, ◌∙◌, arith, add-one}
use Rattle.std.specs.Prelude.{filter}
use Rattle.std.specs.List.{range_with_len}
use Rattle.std.proofs.lemmas.List.{append-nil}

before : (b : Bool) (a : ℕ) (xs ys : List ℕ) → cond b (a ∷ (xs ++ ys)) (xs ++ ys) ≡ cond b (a ∷ xs) xs ++ ys
before true a xs ys = refl
before false a xs ys = refl

pub filter_more : (p : ℕ → Bool) (n a j : ℕ) → a + n ≡ j
    → filter p (range_with_len a (suc n)) ≡ filter p (range_with_len a n) ++ cond (p j) (j ∷ []) []
filter_more p zero a j e = let h : a ≡ j = omega arith in rw h refl
filter_more p (suc n) a j e =
    rw (filter_more p n (a + 1) j (omega arith)) (before (p a) a (filter p (range_with_len (a + 1) n)) (cond (p j) (j ∷ []) []))

map_append : {X Y : Type 0} (f : X → Y) (xs ys : List X) → map f (xs ++ ys) ≡ map f xs ++ map f ys
map_append f [] ys = refl
map_append f (x ∷ xs) ys = ap (λ zs. f x ∷ zs) (map_append f xs ys)

pub shown_more : {Y : Type 0} (f : ℕ → Y) (p : ℕ → Bool) (n : ℕ) → p n ≡ true
    → map f (filter p (range_with_len 0 (n + 1))) ≡ map f (filter p (range_with_len 0 n)) ++ f n ∷ []
shown_more f p n is =
    rw add-one (ap (λ xs. map f xs) (filter_more p n 0 n (omega arith) ∙ rw is refl) ∙ map_append f (filter p (range_with_len 0 n)) (n ∷ []))

pub not_shown : {Y : Type 0} (f : ℕ → Y) (p : ℕ → Bool) (n : ℕ) → p n ≡ false
    → map f (filter p (range_with_len 0 (n + 1))) ≡ map f (filter p (range_with_len 0 n))
not_shown f p n is = rw add-one (ap (λ xs. map f xs) (filter_more p n 0 n (omega arith) ∙ (rw is (append-nil (filter p (range_with_len 0 n))))))

-- functions that agree below n give the same of the numbers there
pub map_agree : {Y : Type 0} (f g : ℕ → Y) (p : ℕ → Bool) (n : ℕ) → ((k : ℕ) → k < n → g k ≡ f k)
    → map g (filter p (range_with_len 0 n)) ≡ map f (filter p (range_with_len 0 n))
map_agree {Y} f g p n agree = within n 0 (λ k low high. agree k (omega (arith, high)))
  where
    one : (b : Bool) (a : ℕ) (xs : List ℕ) → g a ≡ f a → map g xs ≡ map f xs → map g (cond b (a ∷ xs) xs) ≡ map f (cond b (a ∷ xs) xs)
    one true a xs here rest = rw (here, rest) refl
    one false a xs here rest = rest

    within : (m a : ℕ) → ((k : ℕ) → a ≤ k → k < a + m → g k ≡ f k) → map g (filter p (range_with_len a m)) ≡ map f (filter p (range_with_len a m))
    within zero a same = refl
    within (suc m) a same =
        one (p a) a (filter p (range_with_len (a + 1) m)) (same a (omega arith) (omega arith))
        (within m (a + 1) (λ k low high. same k (omega (arith, low)) (omega (arith, high))))
