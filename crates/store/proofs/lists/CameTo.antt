-- What comes before a name, and what after it, of things that stand in name order.
use Rattle.std.proofs.Common.{◌≡◌, ◌∙◌, ℕ, zero, suc, ◌<◌, ◌≤◌, ap, sym, refl, Bool, true, false, not, List, [], ◌∷◌, map, filter, take, drop, get_or, length, arith}
use Rattle.std.specs.declared.cmp.Ordering.{Ordering}
use Rattle.std.specs.declared.cmp.Ordering.TheVariants.{Less, Equal, Greater}
use Rattle.std.specs.Ordering.{is_lt, is_le, ordering_reverse}
use Rattle.std.specs.List.{AllByRecursion}
use Rattle.std.specs.List.Sorted.{IsStrictlySortedBy}
use Rattle.std.proofs.lemmas.Cmp.{nat_list_cmp_total, tied_itself}
use Rattle.slice.specs.Slice.{name_le}
use Rattle.store.specs.Stored.{name_cmp}
use Rattle.store.proofs.lists.Bounds.{le_through}
use Rattle.store.proofs.lists.Maps.{by_cases}

at_of_all : {X : Type 0} (f : X → List ℕ) (P : List ℕ → Type 0) (xs : List X) (j : ℕ) (d : X) → AllByRecursion P (map f xs) → j < length xs → P (f (get_or xs j d))
at_of_all f P [] j d all lt = absurd (omega (arith, lt))
at_of_all f P (x ∷ xs) zero d all lt = all.0
at_of_all f P (x ∷ xs) (suc j) d all lt = at_of_all f P xs j d all.1 (omega (arith, lt))

-- an earlier one isn't above a later one
pub ordered : {X : Type 0} (f : X → List ℕ) (xs : List X) (i j : ℕ) (d : X) → IsStrictlySortedBy name_cmp (map f xs) → i ≤ j → j < length xs
    → name_le (f (get_or xs i d)) (f (get_or xs j d)) ≡ true
unfolding IsStrictlySortedBy
ordered f [] i j d sorted le lt = absurd (omega (arith, lt))
ordered f (x ∷ xs) zero zero d sorted le lt = ap is_le (tied_itself nat_list_cmp_total (f x))
ordered f (x ∷ xs) zero (suc j) d sorted le lt = ap is_le (at_of_all f (λ n. name_cmp (f x) n ≡ Less) xs j d sorted.0 (omega (arith, lt)))
ordered f (x ∷ xs) (suc i) zero d sorted le lt = absurd (omega (arith, le))
ordered f (x ∷ xs) (suc i) (suc j) d sorted le lt = ordered f xs i j d sorted.1 (omega (arith, le)) (omega (arith, lt))

before : (o : Ordering) → is_lt (ordering_reverse o) ≡ not (is_le o)
before Less = refl
before Equal = refl
before Greater = refl

-- a name comes before another where that one isn't at or before it
pub lt_not_le : (a b : List ℕ) → is_lt (name_cmp a b) ≡ not (name_le b a)
lt_not_le a b = ap is_lt (nat_list_cmp_total.antisymm a b) ∙ before (name_cmp b a)

not_true : (b : Bool) → not b ≡ true → b ≡ false
not_true true e = absurd (cc)
not_true false e = refl

not_false : (b : Bool) → not b ≡ false → b ≡ true
not_false true e = refl
not_false false e = absurd (cc)

-- what comes before a name comes before those that aren't
pub below_first : {X : Type 0} (f : X → List ℕ) (n : List ℕ) (xs : List X) → IsStrictlySortedBy name_cmp (map f xs)
    → (i j : ℕ) (d : X) → i ≤ j → j < length xs → is_lt (name_cmp (f (get_or xs j d)) n) ≡ true → is_lt (name_cmp (f (get_or xs i d)) n) ≡ true
below_first f n xs sorted i j d le lt is =
    let x = f (get_or xs i d) in
    let y = f (get_or xs j d) in
    let above : name_le n y ≡ false = not_true (name_le n y) (sym (lt_not_le y n) ∙ is) in
    lt_not_le x n ∙ by_cases (name_le n x)
    (λ up. let up2 : name_le n y ≡ true = le_through n x y up (ordered f xs i j d sorted le lt) in absurd (cc))
    (λ down. rw down refl)

pub up_to_first : {X : Type 0} (f : X → List ℕ) (n : List ℕ) (xs : List X) → IsStrictlySortedBy name_cmp (map f xs)
    → (i j : ℕ) (d : X) → i ≤ j → j < length xs → name_le (f (get_or xs j d)) n ≡ true → name_le (f (get_or xs i d)) n ≡ true
up_to_first f n xs sorted i j d le lt is = le_through (f (get_or xs i d)) (f (get_or xs j d)) n (ordered f xs i j d sorted le lt) is

pub none_left : {X : Type 0} (q : X → Bool) (xs : List X) → ((k : ℕ) (d : X) → k < length xs → q (get_or xs k d) ≡ false) → filter q xs ≡ []
none_left q [] fail = refl
none_left q (x ∷ xs) fail = rw (fail zero x (omega arith)) (none_left q xs (λ k d lt. fail (suc k) d (omega (arith, lt))))

pub all_left : {X : Type 0} (q : X → Bool) (xs : List X) → ((k : ℕ) (d : X) → k < length xs → q (get_or xs k d) ≡ true) → filter q xs ≡ xs
all_left q [] pass = refl
all_left q (x ∷ xs) pass = rw (pass zero x (omega arith)) (ap (λ ys. x ∷ ys) (all_left q xs (λ k d lt. pass (suc k) d (omega (arith, lt)))))

-- where the first pass a test and no later one does, they are what passes
pub front_kept : {X : Type 0} (q : X → Bool) (xs : List X) (r : ℕ) → r ≤ length xs → ((k : ℕ) (d : X) → k < r → q (get_or xs k d) ≡ true)
    → ((k : ℕ) (d : X) → r ≤ k → k < length xs → q (get_or xs k d) ≡ false) → take r xs ≡ filter q xs
front_kept q [] zero le pass fail = refl
front_kept q [] (suc r) le pass fail = absurd (omega (arith, le))
front_kept q (x ∷ xs) zero le pass fail = sym (none_left q (x ∷ xs) (λ k d lt. fail k d (omega arith) lt))
front_kept q (x ∷ xs) (suc r) le pass fail =
    rw (pass zero x (omega arith)) (ap (λ ys. x ∷ ys) (front_kept q xs r (omega (arith, le)) (λ k d lt. pass (suc k) d (omega (arith, lt))) (λ k d ge lt. fail (suc k) d (omega (arith, ge)) (omega (arith, lt)))))

-- where the first don't pass a test and each later one does, these are what passes
pub back_kept : {X : Type 0} (q : X → Bool) (xs : List X) (r : ℕ) → r ≤ length xs → ((k : ℕ) (d : X) → k < r → q (get_or xs k d) ≡ false)
    → ((k : ℕ) (d : X) → r ≤ k → k < length xs → q (get_or xs k d) ≡ true) → drop r xs ≡ filter q xs
back_kept q [] zero le fail pass = refl
back_kept q [] (suc r) le fail pass = absurd (omega (arith, le))
back_kept q (x ∷ xs) zero le fail pass = sym (all_left q (x ∷ xs) (λ k d lt. pass k d (omega arith) lt))
back_kept q (x ∷ xs) (suc r) le fail pass =
    rw (fail zero x (omega arith)) (back_kept q xs r (omega (arith, le)) (λ k d lt. fail (suc k) d (omega (arith, lt))) (λ k d ge lt. pass (suc k) d (omega (arith, ge)) (omega (arith, lt))))

-- one that isn't before a name is at it or after it
pub not_below : (a n : List ℕ) → is_lt (name_cmp a n) ≡ false → name_le n a ≡ true
not_below a n e = not_false (name_le n a) (sym (lt_not_le a n) ∙ e)

pub is_below : (a n : List ℕ) → is_lt (name_cmp a n) ≡ true → name_le n a ≡ false
is_below a n e = not_true (name_le n a) (sym (lt_not_le a n) ∙ e)
