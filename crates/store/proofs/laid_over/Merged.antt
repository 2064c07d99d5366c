-- What is seen in either of two rows is what is seen where one is laid over the other.
use Rattle.std.proofs.Common.{◌≡◌, ◌∙◌, sym, ap, subst, refl, ℕ, Bool, true, false, List, [], ◌∷◌, map, Option, Some, None, Contains}
use Rattle.std.specs.Prelude.{if◌then◌else◌}
use Rattle.std.specs.List.{AllByRecursion}
use Rattle.std.specs.List.Sorted.{IsStrictlySortedBy}
use Rattle.std.specs.Map.{lookup}
use Rattle.std.specs.Ordering.{is_eq, ordering_reverse}
use Rattle.std.specs.declared.cmp.Ordering.{Ordering}
use Rattle.std.specs.declared.cmp.Ordering.TheVariants.{Less, Equal, Greater}
use Rattle.std.proofs.lemmas.Cmp.{nat_list_cmp_total, eq_by_cmp_equiv}
use Rattle.std.proofs.lemmas.Map.Keys.{IsDistinct-from_sorted}
use Rattle.std.proofs.lemmas.Map.Views.{lookup-from_Contains, Contains-from_lookup}
use Rattle.logical_time.specs.Stamps.{is_older}
use Rattle.slice.specs.declared.predicate.Predicate.{Predicate}
use Rattle.slice.specs.Slice.{is_asked}
use Rattle.versions.specs.declared.version.Version.{Version}
use Rattle.store.specs.Stored.{name_cmp}
use Rattle.store.specs.Sight.{Sight, NamedVersion, AreSeen, newer_seen, laid_over, newer_named, merged_by, merged_into, merged}
use Rattle.store.proofs.lists.Maps.{by_cases, same_name, exact_name}

abbrev names_of : List NamedVersion → List (List ℕ)
names_of seen = map (λ s. s.0) seen

-- what is seen of the column of this name
abbrev found : List ℕ → List NamedVersion → Option Version
found n seen = lookup (λ k. is_eq (name_cmp n k)) seen

newer_name : (x y : NamedVersion) → (newer_named x y).0 ≡ x.0
newer_name x y = by_cases (is_older x.1.stamp y.1.stamp) (λ older. rw older refl) (λ not_older. rw not_older refl)

newer_version : (x y : NamedVersion) → Some (newer_named x y).1 ≡ newer_seen (Some x.1) (Some y.1)
newer_version x y = by_cases (is_older x.1.stamp y.1.stamp) (λ older. rw older refl) (λ not_older. rw not_older refl)

pub none_merged : (xs : List NamedVersion) → merged xs [] ≡ xs
none_merged [] = refl
none_merged (x ∷ xs) = ap (λ zs. x ∷ zs) (none_merged xs)

-- ---- each name
each_by : (P : List ℕ → Type 0) (o : Ordering) (x y : NamedVersion) (first both second : List NamedVersion) → P x.0 → P y.0
    → AllByRecursion P (names_of first) → AllByRecursion P (names_of both) → AllByRecursion P (names_of second)
    → AllByRecursion P (names_of (merged_by o x y first both second))
each_by P Less x y first both second a b f m s = (a, f)
each_by P Equal x y first both second a b f m s = (subst P (sym (newer_name x y)) a, m)
each_by P Greater x y first both second a b f m s = (b, s)

each_into : (P : List ℕ → Type 0) (x : NamedVersion) (more : List NamedVersion → List NamedVersion) → P x.0
    → ((zs : List NamedVersion) → AllByRecursion P (names_of zs) → AllByRecursion P (names_of (more zs)))
    → (ys : List NamedVersion) → AllByRecursion P (names_of ys) → AllByRecursion P (names_of (merged_into x more ys))
each_into P x more a f [] h = (a, f [] h)
each_into P x more a f (y ∷ ys) h =
    each_by P (name_cmp x.0 y.0) x y (more (y ∷ ys)) (more ys) (merged_into x more ys) a h.0 (f (y ∷ ys) h) (f ys h.1) (each_into P x more a f ys h.1)

each_merged : (P : List ℕ → Type 0) (xs ys : List NamedVersion) → AllByRecursion P (names_of xs) → AllByRecursion P (names_of ys) → AllByRecursion P (names_of (merged xs ys))
each_merged P [] ys a h = h
each_merged P (x ∷ xs) ys a h = each_into P x (λ zs. merged xs zs) a.0 (λ zs k. each_merged P xs zs a.1 k) ys h

-- ---- their order
abbrev IsFirst : List ℕ → List ℕ → Type 0
IsFirst n m = name_cmp n m ≡ Less

less_all : (a b : List ℕ) → name_cmp a b ≡ Less → (ns : List (List ℕ)) → AllByRecursion (IsFirst b) ns → AllByRecursion (IsFirst a) ns
less_all a b e [] h = tt
less_all a b e (n ∷ ns) h = (nat_list_cmp_total.trans a b n e h.0, less_all a b e ns h.1)

turned : (a b : List ℕ) → name_cmp a b ≡ Greater → name_cmp b a ≡ Less
turned a b e = nat_list_cmp_total.antisymm b a ∙ ap ordering_reverse e

sorted_into : (x : NamedVersion) (xs : List NamedVersion) → AllByRecursion (IsFirst x.0) (names_of xs)
    → ((zs : List NamedVersion) → IsStrictlySortedBy name_cmp (names_of zs) → IsStrictlySortedBy name_cmp (names_of (merged xs zs)))
    → (ys : List NamedVersion) → IsStrictlySortedBy name_cmp (names_of ys) → IsStrictlySortedBy name_cmp (names_of (merged_into x (λ zs. merged xs zs) ys))
unfolding IsStrictlySortedBy
sorted_into x xs lt f [] h = (each_merged (IsFirst x.0) xs [] lt tt, f [] h)
sorted_into x xs lt f (y ∷ ys) h = go (name_cmp x.0 y.0) refl (sorted_into x xs lt f ys h.1)
  where
    go : (o : Ordering) → name_cmp x.0 y.0 ≡ o → IsStrictlySortedBy name_cmp (names_of (merged_into x (λ zs. merged xs zs) ys))
        → IsStrictlySortedBy name_cmp (names_of (merged_by o x y (merged xs (y ∷ ys)) (merged xs ys) (merged_into x (λ zs. merged xs zs) ys)))
    go Less e rest = (each_merged (IsFirst x.0) xs (y ∷ ys) lt (e, less_all x.0 y.0 e (names_of ys) h.0), f (y ∷ ys) h)
    go Equal e rest =
        let above : AllByRecursion (IsFirst x.0) (names_of ys) = subst (λ (n : List ℕ). AllByRecursion (IsFirst n) (names_of ys)) (sym (exact_name x.0 y.0 e)) h.0 in
        (subst (λ (n : List ℕ). AllByRecursion (IsFirst n) (names_of (merged xs ys))) (sym (newer_name x y)) (each_merged (IsFirst x.0) xs ys lt above), f ys h.1)
    go Greater e rest =
        let before = turned x.0 y.0 e in
        (each_into (IsFirst y.0) x (λ zs. merged xs zs) before (λ zs k. each_merged (IsFirst y.0) xs zs (less_all y.0 x.0 before (names_of xs) lt) k) ys h.0, rest)

sorted_merged : (xs ys : List NamedVersion) → IsStrictlySortedBy name_cmp (names_of xs) → IsStrictlySortedBy name_cmp (names_of ys) → IsStrictlySortedBy name_cmp (names_of (merged xs ys))
unfolding IsStrictlySortedBy
sorted_merged [] ys h k = k
sorted_merged (x ∷ xs) ys h k = sorted_into x xs h.0 (λ zs s. sorted_merged xs zs h.1 s) ys k

-- ---- what is found of each name
not_found : (n : List ℕ) (zs : List NamedVersion) → AllByRecursion (IsFirst n) (names_of zs) → found n zs ≡ None
not_found n [] h = refl
not_found n (z ∷ zs) h = rw h.0 (not_found n zs h.1)

here_or_there : (b : Bool) (v : Version) (a o : Option Version) → (b ≡ true → o ≡ None) → (if b then Some v else newer_seen a o) ≡ newer_seen (if b then Some v else a) o
here_or_there true v a o none = ap (newer_seen (Some v)) (sym (none refl))
here_or_there false v a o none = refl

there_or_here : (b : Bool) (v : Version) (a o : Option Version) → (b ≡ true → a ≡ None) → (if b then Some v else newer_seen a o) ≡ newer_seen a (if b then Some v else o)
there_or_here true v a o none = ap (λ (x : Option Version). newer_seen x (Some v)) (sym (none refl))
there_or_here false v a o none = refl

found_both : (n : List ℕ) (x y : NamedVersion) (a o : Option Version) → x.0 ≡ y.0
    → (if is_eq (name_cmp n (newer_named x y).0) then Some (newer_named x y).1 else newer_seen a o)
    ≡ newer_seen (if is_eq (name_cmp n x.0) then Some x.1 else a) (if is_eq (name_cmp n y.0) then Some y.1 else o)
found_both n x y a o same =
    ap (λ (m : List ℕ). if is_eq (name_cmp n m) then Some (newer_named x y).1 else newer_seen a o) (newer_name x y)
    ∙ go (is_eq (name_cmp n x.0))
    ∙ ap (λ (m : List ℕ). newer_seen (if is_eq (name_cmp n x.0) then Some x.1 else a) (if is_eq (name_cmp n m) then Some y.1 else o)) same
  where
    go : (b : Bool) → (if b then Some (newer_named x y).1 else newer_seen a o) ≡ newer_seen (if b then Some x.1 else a) (if b then Some y.1 else o)
    go true = newer_version x y
    go false = refl

found_into : (n : List ℕ) (x : NamedVersion) (xs : List NamedVersion) → AllByRecursion (IsFirst x.0) (names_of xs)
    → ((zs : List NamedVersion) → IsStrictlySortedBy name_cmp (names_of zs) → found n (merged xs zs) ≡ newer_seen (found n xs) (found n zs))
    → (ys : List NamedVersion) → IsStrictlySortedBy name_cmp (names_of ys) → found n (merged_into x (λ zs. merged xs zs) ys) ≡ newer_seen (found n (x ∷ xs)) (found n ys)
unfolding IsStrictlySortedBy
found_into n x xs lt f [] h = ap (λ (zs : List NamedVersion). found n (x ∷ zs)) (none_merged xs)
found_into n x xs lt f (y ∷ ys) h = go (name_cmp x.0 y.0) refl (found_into n x xs lt f ys h.1)
  where
    go : (o : Ordering) → name_cmp x.0 y.0 ≡ o → found n (merged_into x (λ zs. merged xs zs) ys) ≡ newer_seen (found n (x ∷ xs)) (found n ys)
        → found n (merged_by o x y (merged xs (y ∷ ys)) (merged xs ys) (merged_into x (λ zs. merged xs zs) ys)) ≡ newer_seen (found n (x ∷ xs)) (found n (y ∷ ys))
    go Less e rest =
        ap (λ (o : Option Version). if is_eq (name_cmp n x.0) then Some x.1 else o) (f (y ∷ ys) h)
        ∙ here_or_there (is_eq (name_cmp n x.0)) x.1 (found n xs) (found n (y ∷ ys))
        (λ own.
        let before : name_cmp n y.0 ≡ Less = ap (λ (m : List ℕ). name_cmp m y.0) (same_name n x.0 own) ∙ e in
        not_found n (y ∷ ys) (before, less_all n y.0 before (names_of ys) h.0))
    go Equal e rest =
        ap (λ (o : Option Version). if is_eq (name_cmp n (newer_named x y).0) then Some (newer_named x y).1 else o) (f ys h.1)
        ∙ found_both n x y (found n xs) (found n ys) (exact_name x.0 y.0 e)
    go Greater e rest =
        ap (λ (o : Option Version). if is_eq (name_cmp n y.0) then Some y.1 else o) rest
        ∙ there_or_here (is_eq (name_cmp n y.0)) y.1 (found n (x ∷ xs)) (found n ys)
        (λ own.
        let before : name_cmp n x.0 ≡ Less = ap (λ (m : List ℕ). name_cmp m x.0) (same_name n y.0 own) ∙ turned x.0 y.0 e in
        not_found n (x ∷ xs) (before, less_all n x.0 before (names_of xs) lt))

found_merged : (n : List ℕ) (xs ys : List NamedVersion) → IsStrictlySortedBy name_cmp (names_of xs) → IsStrictlySortedBy name_cmp (names_of ys)
    → found n (merged xs ys) ≡ newer_seen (found n xs) (found n ys)
unfolding IsStrictlySortedBy
found_merged n [] ys h k = none_before (found n ys)
  where
    none_before : (o : Option Version) → o ≡ newer_seen None o
    none_before None = refl
    none_before (Some v) = refl
found_merged n (x ∷ xs) ys h k = found_into n x xs h.0 (λ zs s. found_merged n xs zs h.1 s) ys k

-- ---- what is seen
found_if : (seen : List NamedVersion) → IsStrictlySortedBy name_cmp (names_of seen) → (n : List ℕ) (v : Version) → Contains seen (n, v) → found n seen ≡ Some v
found_if seen sorted n v has = lookup-from_Contains (eq_by_cmp_equiv nat_list_cmp_total) n v seen (IsDistinct-from_sorted name_cmp (names_of seen) sorted) has

-- what is found of a name that is asked for is what is seen there
found_asked : (f : Sight) (p : Predicate) (seen : List NamedVersion) (n : List ℕ) → AreSeen f p seen → is_asked p n ≡ true → found n seen ≡ f (Some n)
found_asked f p seen n are asked = go (found n seen) refl (f (Some n)) refl
  where
    go : (a : Option Version) → found n seen ≡ a → (b : Option Version) → f (Some n) ≡ b → found n seen ≡ f (Some n)
    go (Some v) e b s = e ∙ sym (are.sound n v (Contains-from_lookup same_name n v seen e)).1
    go None e None s = e ∙ sym s
    go None e (Some v) s = found_if seen are.in_order n v (are.whole n v asked s) ∙ sym s

-- a name that is found is asked for
asked_found : (f : Sight) (p : Predicate) (seen : List NamedVersion) (n : List ℕ) (v : Version) → AreSeen f p seen → found n seen ≡ Some v → is_asked p n ≡ true
asked_found f p seen n v are e = (are.sound n v (Contains-from_lookup same_name n v seen e)).0

pub merged_seen : (f g : Sight) (p : Predicate) (xs ys zs : List NamedVersion) → AreSeen f p xs → AreSeen g p ys → zs ≡ merged xs ys → AreSeen (laid_over f g) p zs
merged_seen f g p xs ys zs a b is = subst (AreSeen (laid_over f g) p) (sym is) all
  where
    sorted : IsStrictlySortedBy name_cmp (names_of (merged xs ys))
    sorted = sorted_merged xs ys a.in_order b.in_order

    each : (n : List ℕ) → is_asked p n ≡ true → found n (merged xs ys) ≡ laid_over f g (Some n)
    each n asked =
        found_merged n xs ys a.in_order b.in_order
        ∙ ap (λ (o : Option Version). newer_seen o (found n ys)) (found_asked f p xs n a asked)
        ∙ ap (newer_seen (f (Some n))) (found_asked g p ys n b asked)

    either : (n : List ℕ) (v : Version) (x y : Option Version) → found n xs ≡ x → found n ys ≡ y → newer_seen x y ≡ Some v → is_asked p n ≡ true
    either n v (Some u) y e k s = asked_found f p xs n u a e
    either n v None (Some u) e k s = asked_found g p ys n u b k
    either n v None None e k s = absurd (cc)

    all : AreSeen (laid_over f g) p (merged xs ys)
    all = record {
      in_order = sorted;
      sound = λ n v has.
          let is = found_if (merged xs ys) sorted n v has in
          let asked = either n v (found n xs) (found n ys) refl refl (sym (found_merged n xs ys a.in_order b.in_order) ∙ is) in
          (asked, sym (each n asked) ∙ is);
      whole = λ n v asked sees. Contains-from_lookup same_name n v (merged xs ys) (each n asked ∙ sees);
    }
