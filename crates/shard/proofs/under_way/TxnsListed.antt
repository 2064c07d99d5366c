-- The transactions of what is under way in a set, and the parts that are gathered of them.
use Rattle.std.proofs.Common.{◌≡◌, ◌∙◌, sym, ap, subst, Bool, true, false, cond, inl, inr, refl, List, [], ◌∷◌, ◌++◌, Option, Some, Contains, append_assoc}
use Rattle.std.specs.Prelude.{filter_map, slice_get}
use Rattle.std.specs.List.{list_any, cons_option}
use Rattle.std.specs.Ordering.{is_eq}
use Rattle.std.proofs.lemmas.List.Elements.{Contains-append_cases}
use Rattle.std.proofs.lemmas.Option.{slice_get_within, get_or_from_slice_get}
use Rattle.logical_time.specs.Stamps.{TxnValue, txn_cmp}
use Rattle.store.proofs.lists.Lists.{none_in_empty, first_or_rest}
use Rattle.write_txn.specs.declared.open.Open.{Open}
use Rattle.write_txn.specs.Ledger.{txn_of}
use Rattle.write_txn.proofs.Finds.{own_txn}
use Rattle.shard.proofs.lists.Lists.{any_found, any_has, same_txn}

contained : (ts : List TxnValue) (t : TxnValue) → list_any (λ u. is_eq (txn_cmp t u)) ts ≡ true → Contains ts t
contained ts t e = let m = any_found (λ u. is_eq (txn_cmp t u)) ts e in subst (Contains ts) (sym (same_txn t m.0 m.2)) m.1

either_way : (b : Bool) → cond b true true ≡ true
either_way true = refl
either_way false = refl

-- with one more put in a set the transactions of one more are listed
pub listed_more : (os : List Open) (o : Open) (before after : List TxnValue)
    → ((t : TxnValue) → list_any (λ u. is_eq (txn_cmp t u)) after ≡ cond (is_eq (txn_cmp (txn_of o) t)) true (list_any (λ u. is_eq (txn_cmp t u)) before))
    → ((x : Open) → Contains os x → Contains before (txn_of x)) → (x : Open) → Contains (os ++ o ∷ []) x → Contains after (txn_of x)
listed_more os o before after put listed x has = contained after (txn_of x) (elim (Contains-append_cases os (o ∷ []) x has) [
  | inl old ↦
      put (txn_of x) ∙ ap (λ (b : Bool). cond (is_eq (txn_cmp (txn_of o) (txn_of x))) true b) (any_has (λ u. is_eq (txn_cmp (txn_of x) u)) before (txn_of x) (listed x old) (own_txn (txn_of x)))
      ∙ either_way (is_eq (txn_cmp (txn_of o) (txn_of x)))
  | inr new ↦ elim (first_or_rest o x [] new) [
    | inl here ↦
        put (txn_of x) ∙ ap (λ (b : Bool). cond b true (list_any (λ u. is_eq (txn_cmp (txn_of x) u)) before)) (ap (λ (z : Open). is_eq (txn_cmp (txn_of z) (txn_of x))) here ∙ own_txn (txn_of x))
    | inr none ↦ absurd (none_in_empty x none)
  ]
])

pub placed : {X : Type 0} (xs : List X) (x : X) → (place : _) × (slice_get xs place ≡ Some x) → Contains xs x
placed xs x (place, is) = (place, slice_get_within xs place x is, get_or_from_slice_get xs place x x is)

-- what is gathered so far, with what is left to gather, is all
pub gathered_more : {X Y : Type 0} (f : X → Option Y) (ys : List Y) (left rest : List X) (x : X) (y : Y) (all : List Y) → left ≡ x ∷ rest → f x ≡ Some y
    → ys ++ filter_map f left ≡ all → (ys ++ y ∷ []) ++ filter_map f rest ≡ all
gathered_more f ys left rest x y all is gives so_far =
    append_assoc ys (y ∷ []) (filter_map f rest) ∙ ap (λ o. ys ++ cons_option o (filter_map f rest)) (sym gives) ∙ ap (λ xs. ys ++ filter_map f xs) (sym is) ∙ so_far
