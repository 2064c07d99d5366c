-- What lists contain, and what the tests of them tell.
use Rattle.std.proofs.Common.{◌≡◌, ◌∙◌, sym, ap, subst, refl, Bool, true, false, cond, ◌&&◌, not, ◌⊎◌, inl, inr, List, [], ◌∷◌, ◌++◌, map, Some, arith}
use Rattle.std.specs.Prelude.{find, is_some, Contains}
use Rattle.std.specs.List.{list_any, list_all, AllByRecursion}
use Rattle.std.specs.Ordering.{is_eq}
use Rattle.std.proofs.lemmas.Bool.Decides.{nat_tests}
use Rattle.std.proofs.lemmas.List.Folds.{list_any-append}
use Rattle.logical_time.specs.Stamps.{TxnValue, StampValue, stamp_cmp}
use Rattle.column_family.proofs.Options.{both_true, either_true}
use Rattle.store.proofs.lists.Lists.{none_in_empty, first_or_rest, contains_first, contains_rest}
pub use Rattle.store.proofs.lists.Lists.{no_truth, or_left, or_right, any_has, each_from}
use Rattle.messages.specs.Words.{is_same_txn}

-- ## Tests

pub both_hold : (a b : Bool) → a ≡ true → b ≡ true → (a && b) ≡ true
both_hold true b p q = q
both_hold false b p q = absurd (cc)

pub not_true : (b : Bool) → not b ≡ true → b ≡ false
not_true true e = absurd (cc)
not_true false e = refl

-- ## Transactions and stamps

same_session : (t u : TxnValue) → is_same_txn t u ≡ true → t.session ≡ u.session
same_session t u e = grind (arith, nat_tests)

same_number : (t u : TxnValue) → is_same_txn t u ≡ true → t.number ≡ u.number
same_number t u e = grind (arith, nat_tests)

pub same_txn : (t u : TxnValue) → is_same_txn t u ≡ true → t ≡ u
same_txn t u e =
    ap (λ s. record { session = s; number = t.number }) (same_session t u e)
    ∙ ap (λ n. record { session = u.session; number = n }) (same_number t u e)

own_txn : (t : TxnValue) → is_same_txn t t ≡ true
own_txn t = grind (arith, nat_tests)

pub same_if_equal : (t u : TxnValue) → t ≡ u → is_same_txn t u ≡ true
same_if_equal t u e = subst (λ v. is_same_txn t v ≡ true) e (own_txn t)

same_time : (s z : StampValue) → is_eq (stamp_cmp s z) ≡ true → s.time ≡ z.time
same_time s z e = grind (arith, nat_tests)

same_node : (s z : StampValue) → is_eq (stamp_cmp s z) ≡ true → s.node ≡ z.node
same_node s z e = grind (arith, nat_tests)

pub same_stamp : (s z : StampValue) → is_eq (stamp_cmp s z) ≡ true → s ≡ z
same_stamp s z e =
    ap (λ t. record { time = t; node = s.node }) (same_time s z e) ∙ ap (λ n. record { time = z.time; node = n }) (same_node s z e)

-- ## Elements that pass a test

pub any_found : {X : Type 0} (q : X → Bool) (xs : List X) → list_any q xs ≡ true → (x : X) × Contains xs x × (q x ≡ true)
any_found q [] e = absurd (cc)
any_found {X} q (x ∷ xs) e = elim (either_true (q x) (list_any q xs) e) [
  | inl here ↦ (x, contains_first x xs, here)
  | inr there ↦ (let m = any_found q xs there in (m.0, contains_rest x m.0 xs m.1, m.2))
]

pub any_none : {X : Type 0} (q : X → Bool) (xs : List X) → ((x : X) → Contains xs x → q x ≡ true → ⊥) → list_any q xs ≡ false
any_none {X} q xs none = go (list_any q xs) refl
  where
    go : (b : Bool) → list_any q xs ≡ b → b ≡ false
    go true e = (let m = any_found q xs e in absurd (none m.0 m.1 m.2))
    go false e = refl

pub any_more : {X : Type 0} (q : X → Bool) (xs ys : List X) → list_any q xs ≡ true → list_any q (xs ++ ys) ≡ true
any_more q xs ys e = list_any-append q xs ys ∙ or_left (list_any q xs) (list_any q ys) e

pub all_have : {X : Type 0} (q : X → Bool) (xs : List X) (x : X) → list_all q xs ≡ true → Contains xs x → q x ≡ true
all_have q [] x e has = absurd (none_in_empty x has)
all_have q (y ∷ ys) x e has = elim (first_or_rest y x ys has) [
  | inl here ↦ sym (ap q here) ∙ (both_true (q y) (list_all q ys) e).0
  | inr there ↦ all_have q ys x (both_true (q y) (list_all q ys) e).1 there
]

pub all_weaker : {X : Type 0} (q p : X → Bool) → ((x : X) → q x ≡ true → p x ≡ true) → (xs : List X) → list_all q xs ≡ true → list_all p xs ≡ true
all_weaker q p f [] e = refl
all_weaker q p f (x ∷ xs) e =
    let b = both_true (q x) (list_all q xs) e in
    both_hold (p x) (list_all p xs) (f x b.0) (all_weaker q p f xs b.1)

pub found : {X : Type 0} (q : X → Bool) (xs : List X) (x : X) → find q xs ≡ Some x → Contains xs x × (q x ≡ true)
found q [] x e = absurd (cc)
found {X} q (y ∷ ys) x e = go (q y) refl e (found q ys x)
  where
    go : (b : Bool) → q y ≡ b → cond b (Some y) (find q ys) ≡ Some x → (find q ys ≡ Some x → Contains ys x × (q x ≡ true)) → Contains (y ∷ ys) x × (q x ≡ true)
    go true is f more =
        let same : y ≡ x = cc in
        (subst (Contains (y ∷ ys)) same (contains_first y ys), ap q (sym same) ∙ is)
    go false is f more = (let m = more f in (contains_rest y x ys m.0, m.1))

pub found_some : {X : Type 0} (q : X → Bool) (xs : List X) (x : X) → Contains xs x → q x ≡ true → is_some (find q xs) ≡ true
found_some q [] x has is = absurd (none_in_empty x has)
found_some {X} q (y ∷ ys) x has is = go (q y) refl (first_or_rest y x ys has) (λ there. found_some q ys x there is)
  where
    go : (b : Bool) → q y ≡ b → (y ≡ x) ⊎ Contains ys x → (Contains ys x → is_some (find q ys) ≡ true) → is_some (cond b (Some y) (find q ys)) ≡ true
    go true e h more = refl
    go false e (inl here) more = no_truth (q y) (ap q here ∙ is) e
    go false e (inr there) more = more there

-- ## All of a list

pub each_contained : {X : Type 0} (P : X → Type 0) (xs : List X) → AllByRecursion P xs → (x : X) → Contains xs x → P x
each_contained P [] h x has = absurd (none_in_empty x has)
each_contained P (y ∷ ys) h x has = elim (first_or_rest y x ys has) [
  | inl here ↦ subst P here h.0
  | inr there ↦ each_contained P ys h.1 x there
]

pub each_weaker : {X : Type 0} (P Q : X → Type 0) → ((x : X) → P x → Q x) → (xs : List X) → AllByRecursion P xs → AllByRecursion Q xs
each_weaker P Q f [] h = h
each_weaker P Q f (x ∷ xs) h = (f x h.0, each_weaker P Q f xs h.1)

pub each_joined : {X : Type 0} (P : X → Type 0) (xs ys : List X) → AllByRecursion P xs → AllByRecursion P ys → AllByRecursion P (xs ++ ys)
each_joined P [] ys h k = k
each_joined P (x ∷ xs) ys h k = (h.0, each_joined P xs ys h.1 k)

pub each_mapped : {X Y : Type 0} (P : Y → Type 0) (f : X → Y) (xs : List X) → ((x : X) → Contains xs x → P (f x)) → AllByRecursion P (map f xs)
each_mapped P f [] h = tt
each_mapped P f (x ∷ xs) h = (h x (contains_first x xs), each_mapped P f xs (λ y has. h y (contains_rest x y xs has)))
