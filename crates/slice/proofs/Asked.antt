-- What a function gives of names that ascend strictly: in their order, and one for each name at which it gives.
use Rattle.std.proofs.Common.{◌≡◌, ℕ, Bool, true, false, ◌&&◌, ◌||◌, List, [], ◌∷◌, Option, Some, None, filter, filter_map, refl, ap, ◌∙◌, sym, subst, arith, if◌then◌else◌}
use Rattle.std.specs.declared.cmp.Ordering.{Ordering}
use Rattle.std.specs.declared.cmp.Ordering.TheVariants.{Less, Equal, Greater}
use Rattle.std.specs.Ordering.{nat_cmp, is_eq}
use Rattle.std.specs.Cmp.Lexicographic.{slice_cmp}
use Rattle.std.specs.List.{list_any, cons_option, AllPairs, AllByRecursion, Contains}
use Rattle.std.specs.List.Sorted.{IsStrictlySortedBy}
use Rattle.std.specs.Option.{is_some}
use Rattle.std.specs.BTreeSet.{BTreeSet}
use Rattle.std.proofs.lemmas.Cmp.{nat_list_cmp_total}
use Rattle.std.proofs.lemmas.List.Elements.{All-from_recursion, All-contains, Contains-append_left, Contains-append_right, Contains-push}
use Rattle.std.proofs.lemmas.List.Kept.{AllPairs-cons, IsStrictlySortedBy-filter}
use Rattle.std.proofs.lemmas.Map.Lookups.{exact_bytes, btree_set_from_contains}
use Rattle.std.proofs.lemmas.Map.Views.{any-filter_same}
use Rattle.slice.specs.declared.column.Column.{Column}

-- whether the name is one of these
abbrev pub is_among : List ℕ → List (List ℕ) → Bool
is_among q ns = list_any (λ n. is_eq (slice_cmp nat_cmp q n)) ns

-- the column that is given of a name has that name
abbrev pub KeepsNames : (List ℕ → Option Column) → Type 0
KeepsNames f = (n : List ℕ) (c : Column) → f n ≡ Some c → c.name ≡ n

every_given_one : (P : Column → Type 0) (o : Option Column) (rest : List Column) → ((c : Column) → o ≡ Some c → P c) → AllByRecursion P rest → AllByRecursion P (cons_option o rest)
every_given_one P None rest p h = h
every_given_one P (Some c) rest p h = (p c refl, h)

every_given : (f : List ℕ → Option Column) (P : List ℕ → Type 0) (Q : Column → Type 0) → ((n : List ℕ) (c : Column) → P n → f n ≡ Some c → Q c)
    → (ns : List (List ℕ)) → AllByRecursion P ns → AllByRecursion Q (filter_map f ns)
every_given f P Q g [] h = h
every_given f P Q g (n ∷ ns) h = every_given_one Q (f n) (filter_map f ns) (λ c e. g n c h.0 e) (every_given f P Q g ns h.1)

any_at_all : (ns : List (List ℕ)) → AllByRecursion (λ n. Unit {0}) ns
any_at_all [] = tt
any_at_all (n ∷ ns) = (tt, any_at_all ns)

-- each given column is what the function gives at its name
pub given_at_name : (f : List ℕ → Option Column) → KeepsNames f → (ns : List (List ℕ)) (c : Column) → Contains (filter_map f ns) c → f c.name ≡ Some c
given_at_name f k ns c i =
    All-contains (λ (d : Column). f d.name ≡ Some d) (filter_map f ns) c
    (All-from_recursion (λ (d : Column). f d.name ≡ Some d) (filter_map f ns)
    (every_given f (λ n. Unit {0}) (λ d. f d.name ≡ Some d) (λ n d u e. ap f (k n d e) ∙ e) ns (any_at_all ns)))
    i

contains_first : (o : Option Column) (rest : List Column) (c : Column) → o ≡ Some c → Contains (cons_option o rest) c
contains_first o rest c e = subst (λ p. Contains (cons_option p rest) c) (sym e) (Contains-append_left (c ∷ []) rest c (Contains-push [] c))

contains_more : (o : Option Column) (rest : List Column) (c : Column) → Contains rest c → Contains (cons_option o rest) c
contains_more None rest c i = i
contains_more (Some d) rest c i = Contains-append_right (d ∷ []) rest c i

equal_if : (o : Ordering) → is_eq o ≡ true → o ≡ Equal
equal_if Less e = absurd (cc)
equal_if Equal e = refl
equal_if Greater e = absurd (cc)

pub equal_names : (q n : List ℕ) → is_eq (slice_cmp nat_cmp q n) ≡ true → q ≡ n
equal_names q n e = exact_bytes q n (equal_if (slice_cmp nat_cmp q n) e)

given_one : (f : List ℕ → Option Column) (q n : List ℕ) (c : Column) (b : Bool) (rest : List Column) → is_eq (slice_cmp nat_cmp q n) ≡ b → f q ≡ Some c
    → (b ≡ false → Contains rest c) → Contains (cons_option (f n) rest) c
given_one f q n c true rest e g i = contains_first (f n) rest c (ap f (sym (equal_names q n e)) ∙ g)
given_one f q n c false rest e g i = contains_more (f n) rest c (i refl)

-- and each column that it gives at one of the names is given
pub given_if_among : (f : List ℕ → Option Column) (q : List ℕ) (c : Column) → f q ≡ Some c → (ns : List (List ℕ)) → is_among q ns ≡ true → Contains (filter_map f ns) c
given_if_among f q c g [] i = absurd (cc)
given_if_among f q c g (n ∷ ns) i =
    given_one f q n c (is_eq (slice_cmp nat_cmp q n)) (filter_map f ns) refl g
    (λ e. given_if_among f q c g ns (ap (λ b. b || is_among q ns) (sym e) ∙ i))

pairs_one : (o : Option Column) (n : List ℕ) (rest : List Column) → ((c : Column) → o ≡ Some c → c.name ≡ n)
    → AllByRecursion (λ d. slice_cmp nat_cmp n d.name ≡ Less) rest → AllPairs (λ c d. slice_cmp nat_cmp c.name d.name ≡ Less) rest
    → AllPairs (λ c d. slice_cmp nat_cmp c.name d.name ≡ Less) (cons_option o rest)
pairs_one None n rest k h p = p
pairs_one (Some c) n rest k h p =
    AllPairs-cons (λ (c d : Column). slice_cmp nat_cmp c.name d.name ≡ Less) c rest
    (All-from_recursion (λ (d : Column). slice_cmp nat_cmp c.name d.name ≡ Less) rest
    (subst (λ m. AllByRecursion (λ (d : Column). slice_cmp nat_cmp m d.name ≡ Less) rest) (sym (k c refl)) h)) p

-- the given columns ascend strictly by name
pub given_in_order : (f : List ℕ → Option Column) → KeepsNames f → (ns : List (List ℕ)) → IsStrictlySortedBy (slice_cmp nat_cmp) ns
    → AllPairs (λ c d. slice_cmp nat_cmp c.name d.name ≡ Less) (filter_map f ns)
unfolding IsStrictlySortedBy
given_in_order f k [] s = λ i j d lt in'. absurd (omega arith)
given_in_order f k (n ∷ ns) s =
    pairs_one (f n) n (filter_map f ns) (k n)
    (every_given f (λ m. slice_cmp nat_cmp n m ≡ Less) (λ d. slice_cmp nat_cmp n d.name ≡ Less) (λ m d l e. ap (slice_cmp nat_cmp n) (k m d e) ∙ l) ns s.0)
    (given_in_order f k ns s.1)

kept_one : (o : Option Column) (f : List ℕ → Option Column) (n : List ℕ) (ns : List (List ℕ)) (rest : List Column) → f n ≡ o → rest ≡ filter_map f ns
    → cons_option o rest ≡ filter_map f (if is_some o then n ∷ ns else ns)
kept_one None f n ns rest e g = g
kept_one (Some c) f n ns rest e g = ap (cons_option (Some c)) g ∙ ap (λ o. cons_option o (filter_map f ns)) (sym e)

given_of_kept : (f : List ℕ → Option Column) (ns : List (List ℕ)) → filter_map f ns ≡ filter_map f (filter (λ n. is_some (f n)) ns)
given_of_kept f [] = refl
given_of_kept f (n ∷ ns) = kept_one (f n) f n (filter (λ m. is_some (f m)) ns) (filter_map f ns) refl (given_of_kept f ns)

among_kept : (p : List ℕ → Bool) (q : List ℕ) (ns : List (List ℕ)) → is_among q (filter p ns) ≡ (p q && is_among q ns)
among_kept p q ns = any-filter_same (λ n. is_eq (slice_cmp nat_cmp q n)) p (p q) (λ n e. ap p (sym (equal_names q n e))) ns

same_kept : (b x y : Bool) → (b ≡ true → x ≡ true) → (b ≡ true → y ≡ true) → (b && x) ≡ (b && y)
same_kept true x y e f = e refl ∙ sym (f refl)
same_kept false x y e f = refl

abbrev as_set : List (List ℕ) → BTreeSet (List ℕ)
as_set ns = record { keys = ns }

-- Of two lists of names that ascend strictly, each with every name at which the function gives a column, it gives
-- the same columns.
pub given_alike : (f : List ℕ → Option Column) (ns ms : List (List ℕ)) → IsStrictlySortedBy (slice_cmp nat_cmp) ns → IsStrictlySortedBy (slice_cmp nat_cmp) ms
    → ((q : List ℕ) → is_some (f q) ≡ true → is_among q ns ≡ true) → ((q : List ℕ) → is_some (f q) ≡ true → is_among q ms ≡ true)
    → filter_map f ns ≡ filter_map f ms
given_alike f ns ms s t i j =
    given_of_kept f ns
    ∙ (ap (filter_map f)
    (btree_set_from_contains nat_list_cmp_total (as_set (filter (λ n. is_some (f n)) ns)) (as_set (filter (λ n. is_some (f n)) ms))
    (IsStrictlySortedBy-filter (slice_cmp nat_cmp) (λ n. is_some (f n)) ns s) (IsStrictlySortedBy-filter (slice_cmp nat_cmp) (λ n. is_some (f n)) ms t)
    (λ q. among_kept (λ n. is_some (f n)) q ns ∙ (same_kept (is_some (f q)) (is_among q ns) (is_among q ms) (i q) (j q) ∙ sym (among_kept (λ n. is_some (f n)) q ms)))
    exact_bytes)
    ∙ sym (given_of_kept f ms))
