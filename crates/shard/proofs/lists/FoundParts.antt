-- What is found in lists of parts.
use Rattle.std.proofs.Common.{◌≡◌, ◌∙◌, sym, ap, subst, refl, Bool, true, inl, inr, List, [], ◌∷◌, ◌++◌, map, Some, None, Contains, arith}
use Rattle.std.specs.Prelude.{filter, find, option_map}
use Rattle.std.specs.Ordering.{is_eq}
use Rattle.std.proofs.lemmas.Bool.Decides.{nat_tests}
use Rattle.std.proofs.lemmas.List.Elements.{Contains-append_cases}
use Rattle.logical_time.specs.Stamps.{TxnValue, WriterValue, writer_cmp}
use Rattle.column_family.proofs.Options.{by_cases}
use Rattle.txn_state.specs.declared.part.WritePart.{WritePart}
use Rattle.messages.specs.Words.{is_same_txn}
use Rattle.shard.proofs.lists.Lists.{no_truth}

-- ## Finding

find_left : {X : Type 0} (q : X → Bool) (xs ys : List X) (x : X) → find q xs ≡ Some x → find q (xs ++ ys) ≡ Some x
find_left q [] ys x e = absurd (cc)
find_left q (z ∷ zs) ys x e = by_cases (q z) (λ is. rw is (rw is at e)) (λ isnt. rw isnt (find_left q zs ys x (rw isnt at e)))

find_right : {X : Type 0} (q : X → Bool) (xs ys : List X) → find q xs ≡ None → find q (xs ++ ys) ≡ find q ys
find_right q [] ys e = refl
find_right q (z ∷ zs) ys e = by_cases (q z) (λ is. absurd (let f : Some z ≡ None = rw is at e in cc)) (λ isnt. rw isnt (find_right q zs ys (rw isnt at e)))

pub find_filtered : {X : Type 0} (q p : X → Bool) (xs : List X) → ((x : X) → q x ≡ true → p x ≡ true) → find q (filter p xs) ≡ find q xs
find_filtered q p [] all = refl
find_filtered q p (x ∷ xs) all = by_cases (q x)
    (λ is. rw (all x is, is) refl)
    (λ isnt. by_cases (p x) (λ stays. rw (stays, isnt) (find_filtered q p xs all)) (λ goes. rw (goes, isnt) (find_filtered q p xs all)))

find_mapped : {X Y : Type 0} (q : Y → Bool) (g : X → Y) (xs : List X) → find q (map g xs) ≡ option_map g (find (λ x. q (g x)) xs)
find_mapped q g [] = refl
find_mapped q g (x ∷ xs) = by_cases (q (g x)) (λ is. rw is refl) (λ isnt. rw isnt (find_mapped q g xs))

find_narrower : {X : Type 0} (q r : X → Bool) (xs : List X) (x : X) → ((z : X) → r z ≡ true → q z ≡ true) → find q xs ≡ Some x → r x ≡ true → find r xs ≡ Some x
find_narrower q r [] x all e is = absurd (cc)
find_narrower q r (z ∷ zs) x all e is = by_cases (r z)
    (λ yes_z. rw yes_z (rw (all z yes_z) at e))
    (λ no_z. by_cases (q z)
    (λ first. let f : Some z ≡ Some x = rw first at e in let same : z ≡ x = cc in no_truth (r z) (ap r same ∙ is) no_z)
    (λ later. rw no_z (find_narrower q r zs x all (rw later at e) is)))

none_narrower : {X : Type 0} (q r : X → Bool) (xs : List X) → ((z : X) → r z ≡ true → q z ≡ true) → find q xs ≡ None → find r xs ≡ None
none_narrower q r [] all e = refl
none_narrower q r (z ∷ zs) all e = by_cases (r z)
    (λ yes_z. absurd (let f : Some z ≡ None = rw (all z yes_z) at e in cc))
    (λ no_z. by_cases (q z)
    (λ first. absurd (let f : Some z ≡ None = rw first at e in cc))
    (λ later. rw no_z (none_narrower q r zs all (rw later at e))))

-- ## By writer

pub same_writers_txn : (v w : WriterValue) → is_eq (writer_cmp v w) ≡ true → is_same_txn v.txn w.txn ≡ true
same_writers_txn v w e = grind (arith, nat_tests)

own_writer : (w : WriterValue) → is_eq (writer_cmp w w) ≡ true
own_writer w = grind (arith, nat_tests)

-- the first part of a transaction among what is shown as parts
pub part_found : {X : Type 0} (f : X → TxnValue) (g : X → WritePart) (xs : List X) (x : X) (w : WriterValue) → ((z : X) → (g z).writer.txn ≡ f z)
    → find (λ z. is_same_txn (f z) w.txn) xs ≡ Some x → (g x).writer ≡ w → find (λ p. is_eq (writer_cmp p.writer w)) (map g xs) ≡ Some (g x)
part_found f g xs x w own e is =
    find_mapped (λ p. is_eq (writer_cmp p.writer w)) g xs
    ∙ ap (option_map g) (find_narrower (λ z. is_same_txn (f z) w.txn) (λ z. is_eq (writer_cmp (g z).writer w)) xs x
    (λ z same. subst (λ u. is_same_txn u w.txn ≡ true) (own z) (same_writers_txn (g z).writer w same)) e
    (subst (λ v. is_eq (writer_cmp v w) ≡ true) (sym is) (own_writer w)))

pub no_part_found : {X : Type 0} (f : X → TxnValue) (g : X → WritePart) (xs : List X) (w : WriterValue) → ((z : X) → (g z).writer.txn ≡ f z)
    → find (λ z. is_same_txn (f z) w.txn) xs ≡ None → find (λ p. is_eq (writer_cmp p.writer w)) (map g xs) ≡ None
no_part_found f g xs w own e =
    find_mapped (λ p. is_eq (writer_cmp p.writer w)) g xs
    ∙ ap (option_map g) (none_narrower (λ z. is_same_txn (f z) w.txn) (λ z. is_eq (writer_cmp (g z).writer w)) xs
    (λ z same. subst (λ u. is_same_txn u w.txn ≡ true) (own z) (same_writers_txn (g z).writer w same)) e)

-- ## In one of four lists

pub find_first : {X : Type 0} (q : X → Bool) (xs ys zs vs : List X) (x : X) → find q xs ≡ Some x → find q (xs ++ ys ++ zs ++ vs) ≡ Some x
find_first q xs ys zs vs x e = find_left q (xs ++ ys ++ zs) vs x (find_left q (xs ++ ys) zs x (find_left q xs ys x e))

none_of_two : {X : Type 0} (q : X → Bool) (xs ys : List X) → find q xs ≡ None → find q ys ≡ None → find q (xs ++ ys) ≡ None
none_of_two q xs ys e f = find_right q xs ys e ∙ f

pub find_third : {X : Type 0} (q : X → Bool) (xs ys zs vs : List X) (x : X) → find q xs ≡ None → find q ys ≡ None → find q zs ≡ Some x → find q (xs ++ ys ++ zs ++ vs) ≡ Some x
find_third q xs ys zs vs x e f g = find_left q (xs ++ ys ++ zs) vs x (find_right q (xs ++ ys) zs (none_of_two q xs ys e f) ∙ g)

pub find_fourth : {X : Type 0} (q : X → Bool) (xs ys zs vs : List X) → find q xs ≡ None → find q ys ≡ None → find q zs ≡ None → find q (xs ++ ys ++ zs ++ vs) ≡ find q vs
find_fourth q xs ys zs vs e f g = find_right q (xs ++ ys ++ zs) vs (none_of_two q (xs ++ ys) zs (none_of_two q xs ys e f) g)

pub one_of_four : {X P : Type 0} (xs ys zs vs : List X) (x : X) → (Contains xs x → P) → (Contains ys x → P) → (Contains zs x → P) → (Contains vs x → P)
    → Contains (xs ++ ys ++ zs ++ vs) x → P
one_of_four xs ys zs vs x in_xs in_bs in_cs in_ds has = elim (Contains-append_cases (xs ++ ys ++ zs) vs x has) [
  | inl l ↦ elim (Contains-append_cases (xs ++ ys) zs x l) [
    | inl m ↦ elim (Contains-append_cases xs ys x m) [ inl a ↦ in_xs a | inr b ↦ in_bs b ]
    | inr c ↦ in_cs c
  ]
  | inr d ↦ in_ds d
]
