-- Names put in order one by one, from the last to the first.
use Rattle.std.proofs.Common.{◌≡◌, ℕ, Bool, true, false, ◌&&◌, List, [], ◌∷◌, ◌++◌, refl, ap, ◌∙◌, sym}
use Rattle.std.specs.declared.cmp.Ordering.{Ordering}
use Rattle.std.specs.declared.cmp.Ordering.TheVariants.{Less, Equal, Greater}
use Rattle.std.specs.Ordering.{nat_cmp, is_lt, match_ordering, ordering_reverse}
use Rattle.std.specs.List.{AllByRecursion}
use Rattle.std.specs.List.Sorted.{IsStrictlySortedBy}
use Rattle.std.proofs.lemmas.Cmp.{nat_list_cmp_total}
use Rattle.std.specs.Cmp.Lexicographic.{slice_cmp}
use Rattle.std.specs.BTreeSet.{insert_key}
use Rattle.slice.specs.Live.{placed_name, with_name, in_name_order, comes_first, ascend}

-- the names ns put among names that stand in order
abbrev pub put_among : List (List ℕ) → List (List ℕ) → List (List ℕ)
put_among [] ms = ms
put_among (n ∷ ns) ms = with_name n (put_among ns ms)

pub put_among_none : (ns : List (List ℕ)) → put_among ns [] ≡ in_name_order ns
put_among_none [] = refl
put_among_none (n ∷ ns) = ap (with_name n) (put_among_none ns)

placed_alike : (o : Ordering) (n m : List ℕ) (ms ks : List (List ℕ)) → match_ordering o (n ∷ m ∷ ms) (m ∷ ms) (m ∷ ks) ≡ placed_name o n m ms ks
placed_alike Less n m ms ks = refl
placed_alike Equal n m ms ks = refl
placed_alike Greater n m ms ks = refl

-- a set takes a name as `with_name` does
pub insert_key_is : (ms : List (List ℕ)) (n : List ℕ) → insert_key (slice_cmp nat_cmp) ms n ≡ with_name n ms
insert_key_is [] n = refl
insert_key_is (m ∷ ms) n =
    ap (λ ks. match_ordering (slice_cmp nat_cmp n m) (n ∷ m ∷ ms) (m ∷ ms) (m ∷ ks)) (insert_key_is ms n) ∙ placed_alike (slice_cmp nat_cmp n m) n m ms (with_name n ms)

put_among_last : (ns ms : List (List ℕ)) (n : List ℕ) → put_among (ns ++ n ∷ []) ms ≡ put_among ns (with_name n ms)
put_among_last [] ms n = refl
put_among_last (m ∷ ns) ms n = ap (with_name m) (put_among_last ns ms n)

-- the step of a loop that puts the last of what is left into a set
pub put_among_insert : (all ns ms : List (List ℕ)) (n : List ℕ) → all ≡ ns ++ n ∷ [] → put_among all ms ≡ put_among ns (insert_key (slice_cmp nat_cmp) ms n)
put_among_insert all ns ms n e = ap (λ ks. put_among ks ms) e ∙ (put_among_last ns ms n ∙ ap (put_among ns) (sym (insert_key_is ms n)))

placed_before : (o : Ordering) (n m : List ℕ) (ms others : List (List ℕ)) → is_lt o ≡ true → placed_name o n m ms others ≡ n ∷ m ∷ ms
placed_before Less n m ms others e = refl
placed_before Equal n m ms others e = absurd (cc)
placed_before Greater n m ms others e = absurd (cc)

first_true : (a b : Bool) → (a && b) ≡ true → a ≡ true
first_true true b e = refl
first_true false b e = e

second_true : (a b : Bool) → (a && b) ≡ true → b ≡ true
second_true true b e = e
second_true false b e = absurd (cc)

with_first : (n : List ℕ) (ns : List (List ℕ)) → comes_first n ns ≡ true → with_name n ns ≡ n ∷ ns
with_first n [] e = refl
with_first n (m ∷ ms) e = placed_before (slice_cmp nat_cmp n m) n m ms (with_name n ms) e

-- names that ascend are in order
pub ascending_in_order : (ns : List (List ℕ)) → ascend ns ≡ true → in_name_order ns ≡ ns
ascending_in_order [] e = refl
ascending_in_order (n ∷ ns) e =
    ap (with_name n) (ascending_in_order ns (second_true (comes_first n ns) (ascend ns) e)) ∙ with_first n ns (first_true (comes_first n ns) (ascend ns) e)

every_weaker : {X : Type 0} (P Q : X → Type 0) → ((x : X) → P x → Q x) → (xs : List X) → AllByRecursion P xs → AllByRecursion Q xs
every_weaker P Q f [] h = h
every_weaker P Q f (x ∷ xs) h = (f x h.0, every_weaker P Q f xs h.1)

every_placed : (P : List ℕ → Type 0) (o : Ordering) (n m : List ℕ) (ms others : List (List ℕ)) → P n → AllByRecursion P (m ∷ ms)
    → AllByRecursion P others → AllByRecursion P (placed_name o n m ms others)
every_placed P Less n m ms others p h k = (p, h)
every_placed P Equal n m ms others p h k = h
every_placed P Greater n m ms others p h k = (h.0, k)

every_with_name : (P : List ℕ → Type 0) (n : List ℕ) (ms : List (List ℕ)) → P n → AllByRecursion P ms → AllByRecursion P (with_name n ms)
every_with_name P n [] p h = (p, h)
every_with_name P n (m ∷ ms) p h = every_placed P (slice_cmp nat_cmp n m) n m ms (with_name n ms) p h (every_with_name P n ms p h.1)

sorted_placed : (o : Ordering) (n m : List ℕ) (ms others : List (List ℕ)) → slice_cmp nat_cmp n m ≡ o → IsStrictlySortedBy (slice_cmp nat_cmp) (m ∷ ms)
    → (slice_cmp nat_cmp m n ≡ Less → AllByRecursion (λ y. slice_cmp nat_cmp m y ≡ Less) others) → IsStrictlySortedBy (slice_cmp nat_cmp) others
    → IsStrictlySortedBy (slice_cmp nat_cmp) (placed_name o n m ms others)
unfolding IsStrictlySortedBy
sorted_placed Less n m ms others e h a s =
    ((e, every_weaker (λ y. slice_cmp nat_cmp m y ≡ Less) (λ y. slice_cmp nat_cmp n y ≡ Less) (λ y l. nat_list_cmp_total.trans n m y e l) ms h.0), h)
sorted_placed Equal n m ms others e h a s = h
sorted_placed Greater n m ms others e h a s = (a (nat_list_cmp_total.antisymm m n ∙ ap ordering_reverse e), s)

sorted_with_name : (n : List ℕ) (ms : List (List ℕ)) → IsStrictlySortedBy (slice_cmp nat_cmp) ms → IsStrictlySortedBy (slice_cmp nat_cmp) (with_name n ms)
unfolding IsStrictlySortedBy
sorted_with_name n [] h = (tt, tt)
sorted_with_name n (m ∷ ms) h =
    sorted_placed (slice_cmp nat_cmp n m) n m ms (with_name n ms) refl h
    (λ l. every_with_name (λ y. slice_cmp nat_cmp m y ≡ Less) n ms l h.0) (sorted_with_name n ms h.1)

-- names in order ascend strictly
pub sorted_in_order : (ns : List (List ℕ)) → IsStrictlySortedBy (slice_cmp nat_cmp) (in_name_order ns)
unfolding IsStrictlySortedBy
sorted_in_order [] = tt
sorted_in_order (n ∷ ns) = sorted_with_name n (in_name_order ns) (sorted_in_order ns)
