-- What lists contain: short ones, and those that are put together, cut and mapped; and what tests of them tell.
use Rattle.std.proofs.Common.{◌≡◌, ℕ, zero, suc, ◌+◌, ◌<◌, ◌≤◌, Bool, true, false, cond, ◌||◌, List, [], ◌∷◌, ◌++◌, map, length, Some, None, ◌⊎◌, inl, inr, refl, sym, ap, ◌∙◌, slice_get, arith}
use Rattle.std.specs.Prelude.{find, Contains}
use Rattle.std.specs.List.{list_any, range_with_len}
use Rattle.std.proofs.lemmas.Bool.{or_parts}
use Rattle.std.proofs.lemmas.List.FromFn.{length-range_with_len, get_or-range_with_len}
use Rattle.logical_time.specs.Stamps.{TxnValue}
use Rattle.messages.specs.Words.{is_same_txn}
use Rattle.planner.proofs.Members.{map_contains}
use Rattle.store.proofs.lists.Lists.{first_or_rest}
use Rattle.shard.proofs.lists.Lists.{same_if_equal}
pub use Rattle.std.proofs.lemmas.List.Elements.{Contains-push, Contains-append_left, Contains-append_right, Contains-append_cases}
pub use Rattle.planner.proofs.Members.{contains_map, contains_filter, filter_contains, contains_flat, flat_contains, contains_below}
pub use Rattle.store.proofs.lists.Lists.{none_in_empty, contains_first, contains_rest, any_has}
pub use Rattle.shard.proofs.lists.Lists.{any_found, all_have, found, same_txn}

-- ## Short lists

-- what a list contains is its first element, or in the rest
pub contains_cases : {X : Type 0} (y x : X) (ys : List X) → Contains (y ∷ ys) x → (x ≡ y) ⊎ Contains ys x
contains_cases y x ys m = elim (first_or_rest y x ys m) [ inl q ↦ inl (sym q) | inr r ↦ inr r ]

pub contains_one : {X : Type 0} (y x : X) → Contains (y ∷ []) x → x ≡ y
contains_one y x m = elim (contains_cases y x [] m) [ inl q ↦ q | inr n ↦ absurd (none_in_empty x n) ]

pub contains_two : {X : Type 0} (y z x : X) → Contains (y ∷ z ∷ []) x → (x ≡ y) ⊎ (x ≡ z)
contains_two y z x m = elim (contains_cases y x (z ∷ []) m) [ inl q ↦ inl q | inr r ↦ inr (contains_one z x r) ]

pub contains_second : {X : Type 0} (y z : X) (zs : List X) → Contains (y ∷ z ∷ zs) z
contains_second y z zs = contains_rest y z (z ∷ zs) (contains_first z zs)

-- ## Lists that are put together and mapped

-- what a list with one element added contains is old or that element
pub last_or_old : {X : Type 0} (x y : X) (xs : List X) → Contains (xs ++ y ∷ []) x → Contains xs x ⊎ (x ≡ y)
last_or_old x y xs m = elim (Contains-append_cases xs (y ∷ []) x m) [ inl a ↦ inl a | inr b ↦ inr (contains_one y x b) ]

pub mapped_from : {X Y : Type 0} (f : X → Y) (xs : List X) (y : Y) → Contains (map f xs) y → (x : X) × Contains xs x × (y ≡ f x)
mapped_from f xs y m = let r = map_contains f xs y m in (r.0, r.1, sym r.2)

pub contains_get : {X : Type 0} (xs : List X) (k : ℕ) (x : X) → slice_get xs k ≡ Some x → Contains xs x
contains_get [] k x e = absurd (cc)
contains_get (y ∷ ys) zero x e = let same : y ≡ x = cc in (0, omega arith, same)
contains_get (y ∷ ys) (suc k) x e = contains_rest y x ys (contains_get ys k x e)

pub within_range : (a n k : ℕ) → Contains (range_with_len a n) k → (a ≤ k) × (k < a + n)
within_range a n k m =
    let long = length-range_with_len a n in
    let lt = m.1 in
    let is = sym (get_or-range_with_len a n m.0 k (omega arith)) ∙ m.2 in
    (omega arith, omega arith)

-- what a list contains stands at a place
pub contains_at : {X : Type 0} (xs : List X) (x : X) → Contains xs x → (k : ℕ) × (slice_get xs k ≡ Some x) × (k < length xs)
contains_at [] x m = absurd (none_in_empty x m)
contains_at (y ∷ ys) x m = elim (contains_cases y x ys m) [
  | inl q ↦ (zero, ap Some (sym q), omega arith)
  | inr later ↦ let r = contains_at ys x later in let lt = r.2 in (suc r.0, r.1, omega arith)
]

-- ## Elements that pass a test

pub any_false : {X : Type 0} (p : X → Bool) (xs : List X) → list_any p xs ≡ false → (x : X) → Contains xs x → p x ≡ false
any_false p [] e x m = absurd (none_in_empty x m)
any_false p (y ∷ ys) e x m = elim (contains_cases y x ys m) [
  | inl q ↦ ap p q ∙ (or_parts (p y) (list_any p ys) e).0
  | inr r ↦ any_false p ys (or_parts (p y) (list_any p ys) e).1 x r
]

pub find_none : {X : Type 0} (p : X → Bool) (xs : List X) → find p xs ≡ None → list_any p xs ≡ false
find_none p [] e = refl
find_none {X} p (y ∷ ys) e = go (p y) refl e (find_none p ys)
  where
    go : (b : Bool) → p y ≡ b → cond b (Some y) (find p ys) ≡ None → (find p ys ≡ None → list_any p ys ≡ false) → (b || list_any p ys) ≡ false
    go true q h ih = absurd (cc)
    go false q h ih = ih h

pub same_txn_self : (t : TxnValue) → is_same_txn t t ≡ true
same_txn_self t = same_if_equal t t refl
