-- Writers that stand in order are told by their members, and so are those of transactions that stand in order.
use Rattle.std.proofs.Common.{◌≡◌, ◌∙◌, sym, subst, refl, inl, inr, List, [], ◌∷◌, Option, Some, None, Contains, arith}
use Rattle.std.specs.Prelude.{filter_map}
use Rattle.std.specs.List.{AllByRecursion, cons_option}
use Rattle.std.specs.List.Sorted.{IsStrictlySortedBy}
use Rattle.std.specs.declared.cmp.Ordering.TheVariants.{Less}
use Rattle.std.proofs.lemmas.Bool.Decides.{nat_tests}
use Rattle.logical_time.specs.Stamps.{TxnValue, txn_cmp, WriterValue, writer_cmp}
use Rattle.store.proofs.lists.Lists.{none_in_empty, contains_first, contains_rest, first_or_rest, given, given_only}
use Rattle.messages.specs.Words.{in_writer_order}
use Rattle.messages.proofs.WritersInOrder.{writers_ascend, writers_stay}
use Rattle.shard.proofs.lists.Lists.{each_contained}

-- ## Same members

not_both : (v w : WriterValue) → writer_cmp v w ≡ Less → writer_cmp w v ≡ Less → ⊥
not_both v w e f = grind (arith, nat_tests)

not_itself : (v : WriterValue) → writer_cmp v v ≡ Less → ⊥
not_itself v e = not_both v v e e

-- of two lists in order the first writers are the same
same_first : (v w : WriterValue) (vs ws : List WriterValue) → AllByRecursion (λ y. writer_cmp v y ≡ Less) vs → AllByRecursion (λ y. writer_cmp w y ≡ Less) ws
    → Contains (w ∷ ws) v → Contains (v ∷ vs) w → v ≡ w
same_first v w vs ws above over has back = elim (first_or_rest w v ws has) [
  | inl here ↦ sym here
  | inr later ↦ elim (first_or_rest v w vs back) [
    | inl here ↦ here
    | inr after ↦ absurd (not_both v w (each_contained (λ y. writer_cmp v y ≡ Less) vs above w after) (each_contained (λ y. writer_cmp w y ≡ Less) ws over v later))
  ]
]

-- what stands after the first stands after the first of the other list
in_rest : (v w u : WriterValue) (vs ws : List WriterValue) → v ≡ w → AllByRecursion (λ y. writer_cmp v y ≡ Less) vs → Contains vs u → Contains (w ∷ ws) u → Contains ws u
in_rest v w u vs ws same above has in_all = elim (first_or_rest w u ws in_all) [
  | inl here ↦ absurd (not_itself u (subst (λ x. writer_cmp x u ≡ Less) (same ∙ here) (each_contained (λ y. writer_cmp v y ≡ Less) vs above u has)))
  | inr later ↦ later
]

pub same_members : (vs ws : List WriterValue) → IsStrictlySortedBy writer_cmp vs → IsStrictlySortedBy writer_cmp ws
    → ((u : WriterValue) → Contains vs u → Contains ws u) → ((u : WriterValue) → Contains ws u → Contains vs u) → vs ≡ ws
unfolding IsStrictlySortedBy
same_members [] [] s t into back = refl
same_members [] (w ∷ ws) s t into back = absurd (none_in_empty w (back w (contains_first w ws)))
same_members (v ∷ vs) [] s t into back = absurd (none_in_empty v (into v (contains_first v vs)))
same_members (v ∷ vs) (w ∷ ws) s t into back =
    let same : v ≡ w = same_first v w vs ws s.0 t.0 (into v (contains_first v vs)) (back w (contains_first w ws)) in
    let rest : vs ≡ ws = same_members vs ws s.1 t.1
    (λ u has. in_rest v w u vs ws same s.0 has (into u (contains_rest v u vs has)))
    (λ u has. in_rest w v u ws vs (sym same) t.0 has (back u (contains_rest w u ws has))) in
    cc

-- ## Writers of transactions

-- what a function gives is of the transaction
abbrev pub GivesOwn : (TxnValue → Option WriterValue) → Type 0
GivesOwn f = (t : TxnValue) (w : WriterValue) → f t ≡ Some w → w.txn ≡ t

below_by_txn : (v w : WriterValue) → txn_cmp v.txn w.txn ≡ Less → writer_cmp v w ≡ Less
below_by_txn v w e = rw e refl

given_above : (f : TxnValue → Option WriterValue) → GivesOwn f → (v : WriterValue) (ts : List TxnValue) → AllByRecursion (λ u. txn_cmp v.txn u ≡ Less) ts
    → AllByRecursion (λ w. writer_cmp v w ≡ Less) (filter_map f ts)
given_above f own v [] above = tt
given_above f own v (t ∷ ts) above = go (f t) refl (given_above f own v ts above.1)
  where
    go : (o : Option WriterValue) → f t ≡ o → AllByRecursion (λ w. writer_cmp v w ≡ Less) (filter_map f ts)
        → AllByRecursion (λ w. writer_cmp v w ≡ Less) (cons_option o (filter_map f ts))
    go None e rest = rest
    go (Some w) e rest = (below_by_txn v w (subst (λ u. txn_cmp v.txn u ≡ Less) (sym (own t w e)) above.0), rest)

pub given_ascend : (f : TxnValue → Option WriterValue) → GivesOwn f → (ts : List TxnValue) → IsStrictlySortedBy txn_cmp ts → IsStrictlySortedBy writer_cmp (filter_map f ts)
unfolding IsStrictlySortedBy
given_ascend f own [] s = tt
given_ascend f own (t ∷ ts) s = go (f t) refl (given_ascend f own ts s.1)
  where
    go : (o : Option WriterValue) → f t ≡ o → IsStrictlySortedBy writer_cmp (filter_map f ts) → IsStrictlySortedBy writer_cmp (cons_option o (filter_map f ts))
    go None e rest = rest
    go (Some w) e rest = (given_above f own w ts (subst (λ u. AllByRecursion (λ y. txn_cmp u y ≡ Less) ts) (sym (own t w e)) s.0), rest)

-- the writers that are given of transactions in order are these, if each is among them and is given of its transaction
pub given_in_order : (f : TxnValue → Option WriterValue) → GivesOwn f → (ts : List TxnValue) (ws : List WriterValue) → IsStrictlySortedBy txn_cmp ts
    → ((t : TxnValue) (w : WriterValue) → Contains ts t → f t ≡ Some w → Contains ws w)
    → ((w : WriterValue) → Contains ws w → Contains ts w.txn × (f w.txn ≡ Some w))
    → filter_map f ts ≡ in_writer_order ws
given_in_order f own ts ws s into back =
    same_members (filter_map f ts) (in_writer_order ws) (given_ascend f own ts s) (writers_ascend ws)
    (λ u has. let g = given_only f ts u has in (writers_stay ws u).1 (into g.0 u g.1 g.2))
    (λ u has. let b = back u ((writers_stay ws u).0 has) in given f ts u.txn u b.0 b.1)
