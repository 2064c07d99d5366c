-- What closed lists and numbers come to.
use Rattle.std.proofs.Common.{◌≡◌, ap, refl, ℕ, ◌<◌, ◌≤◌, Bool, true, false, nat_lt, List, length, slice_index_or, arith}
use Rattle.std.specs.Prelude.{◌==◌, nat_le, Contains}
use Rattle.std.specs.List.{list_any}
use Rattle.std.proofs.lemmas.Bool.Decides.{nat_tests}
use Rattle.planner.proofs.Members.{contains_any}
use Rattle.shard.proofs.lists.Lists.{no_truth}

-- ## Numbers

pub below : (k n : ℕ) → nat_lt k n ≡ true → k < n
below k n is = grind (arith, nat_tests)

pub not_more : (k n : ℕ) → nat_le k n ≡ true → k ≤ n
not_more k n is = grind (arith, nat_tests)

pub not_below : (k n : ℕ) → nat_lt k n ≡ false → k < n → ⊥
not_below k n is lt = grind (arith, nat_tests)

pub not_above : (k n : ℕ) → nat_le k n ≡ false → k ≤ n → ⊥
not_above k n is le = grind (arith, nat_tests)

pub is_below : (k n : ℕ) → k < n → nat_lt k n ≡ true
is_below k n lt = grind (arith, nat_tests)

pub is_at_most : (k n : ℕ) → k ≤ n → nat_le k n ≡ true
is_at_most k n le = grind (arith, nat_tests)

pub equal : (j n : ℕ) → (j == n) ≡ true → j ≡ n
equal j n same = grind (arith, nat_tests)

pub are_equal : (j n : ℕ) → j ≡ n → (j == n) ≡ true
are_equal j n same = grind (arith, nat_tests)

unequal : (j n : ℕ) → (j == n) ≡ false → j ≡ n → ⊥
unequal j n other same = grind (arith, nat_tests)

not_less : (k n : ℕ) → nat_lt k n ≡ false → n ≤ k
not_less k n is = grind (arith, nat_tests)

-- two values differ if a number of each tells them apart
pub differ : {X : Type 0} (f : X → ℕ) (a b : X) → (f a == f b) ≡ false → a ≡ b → ⊥
differ f a b apart same = unequal (f a) (f b) apart (ap f same)

-- ## Lists

-- the element at a place of a list is in it
pub at : {X : Type 0} (xs : List X) (x : X) (k : ℕ) → nat_lt k (length xs) ≡ true → slice_index_or xs k x ≡ x → Contains xs x
at xs x k is_place is = (k, below k (length xs) is_place, is)

-- where no element passes the test, none does
pub none : {X : Type 0} (p : X → Bool) (xs : List X) (x : X) → list_any p xs ≡ false → Contains xs x → p x ≡ true → ⊥
none p xs x without has passes = no_truth (list_any p xs) (contains_any p xs x has passes) without

-- where none is above a number, each is at most that
pub no_more : {X : Type 0} (f : X → ℕ) (n : ℕ) (xs : List X) → list_any (λ x. nat_lt n (f x)) xs ≡ false → (x : X) → Contains xs x → f x ≤ n
no_more f n xs without x has = split (nat_lt n (f x)) refl
  where
    split : (b : Bool) → nat_lt n (f x) ≡ b → f x ≤ n
    split true is = absurd (none (λ y. nat_lt n (f y)) xs x without has is)
    split false is = not_less n (f x) is
