-- The columns that are seen of a row, found by name or in a range.
use Rattle.std.proofs.Common.{◌≡◌, ℕ, zero, suc, ◌∙◌, ap, sym, subst, refl, Bool, true, false, ◌||◌, cond, inl, inr, List, [], ◌∷◌, map, filter, filter_map, Option, Some, None, option_map, Contains}
use Rattle.std.specs.List.{cons_option, AllByRecursion, list_any}
use Rattle.std.specs.List.Sorted.{IsStrictlySortedBy}
use Rattle.std.specs.Map.{lookup}
use Rattle.std.specs.Prelude.{unwrap_or}
use Rattle.std.specs.Ordering.{is_eq}
use Rattle.std.specs.declared.cmp.Ordering.TheVariants.{Less}
use Rattle.std.specs.Str.{bytes_eq}
use Rattle.std.proofs.lemmas.Cmp.{nat_list_cmp_total, eq_by_cmp_equiv}
use Rattle.std.proofs.lemmas.Slice.Eq.{bytes_eq-Decides}
use Rattle.std.proofs.lemmas.List.{map-id}
use Rattle.std.proofs.lemmas.List.Kept.{IsStrictlySortedBy-filter}
use Rattle.std.proofs.lemmas.Map.Keys.{IsDistinct-from_sorted}
use Rattle.std.proofs.lemmas.Map.Views.{lookup-from_Contains, Contains-from_lookup}
use Rattle.slice.specs.declared.predicate.Predicate.{Predicate}
use Rattle.slice.specs.declared.predicate.Predicate.TheVariants.{Names, Range}
use Rattle.slice.specs.Slice.{is_asked, is_between, slice_of}
use Rattle.slice.specs.Live.{in_name_order}
use Rattle.slice.proofs.NameOrder.{sorted_in_order}
use Rattle.slice.proofs.Selected.{any_in_order}
use Rattle.versions.specs.declared.version.Version.{Version}
use Rattle.versions.specs.Chain.{Held}
use Rattle.store.specs.declared.sight.Moment.{Moment}
use Rattle.store.specs.declared.sight.Moment.TheVariants.{Now, At}
use Rattle.logical_time.specs.Stamps.{writer_cmp}
use Rattle.store.specs.declared.part.Part.{Part}
use Rattle.store.specs.Stored.{Place, Chains, no_row, chain_of, name_cmp, column_held, nothing_held}
use Rattle.store.specs.Sight.{Sight, NamedVersion, newer_seen, laid_over, seen_in, seen_entry, seen_at, sight_of, AreSeen, is_backwards, writers_of, evt_of_sight, IsPartSeen}
use Rattle.store.specs.Struck.{standing, ranges_seen, ranges_over, IsPartUnder}
use Rattle.store.proofs.lists.Bounds.{none_between}
use Rattle.store.proofs.lists.Lists.{none_in_empty, contains_first, contains_rest, first_or_rest, kept, kept_only, given, given_only}
use Rattle.store.proofs.lists.Maps.{by_cases, same_name}

every_one : (P : List ℕ → Type 0) (o : Option NamedVersion) (rest : List NamedVersion) → ((s : NamedVersion) → o ≡ Some s → P s.0)
    → AllByRecursion P (map (λ s. s.0) rest) → AllByRecursion P (map (λ s. s.0) (cons_option o rest))
every_one P None rest f h = h
every_one P (Some s) rest f h = (f s refl, h)

-- what is given is of the element
abbrev KeepsKeys : {X : Type 0} → (X → List ℕ) → (X → Option NamedVersion) → Type 0
KeepsKeys {X} key f = (x : X) (s : NamedVersion) → f x ≡ Some s → s.0 ≡ key x

every_given : {X : Type 0} (key : X → List ℕ) (f : X → Option NamedVersion) → KeepsKeys key f → (P : List ℕ → Type 0) (xs : List X)
    → AllByRecursion P (map key xs) → AllByRecursion P (map (λ s. s.0) (filter_map f xs))
every_given key f k P [] h = tt
every_given key f k P (x ∷ xs) h =
    every_one P (f x) (filter_map f xs) (λ s e. subst P (sym (k x s e)) h.0) (every_given key f k P xs h.1)

sorted_one : (o : Option NamedVersion) (n : List ℕ) (rest : List NamedVersion) → ((s : NamedVersion) → o ≡ Some s → s.0 ≡ n)
    → AllByRecursion (λ m. name_cmp n m ≡ Less) (map (λ s. s.0) rest) → IsStrictlySortedBy name_cmp (map (λ s. s.0) rest)
    → IsStrictlySortedBy name_cmp (map (λ s. s.0) (cons_option o rest))
unfolding IsStrictlySortedBy
sorted_one None n rest k h sorted = sorted
sorted_one (Some s) n rest k h sorted =
    (subst (λ (m : List ℕ). AllByRecursion (λ q. name_cmp m q ≡ Less) (map (λ t. t.0) rest)) (sym (k s refl)) h, sorted)

-- what is given of elements in the order of their keys is in that order
sorted_given : {X : Type 0} (key : X → List ℕ) (f : X → Option NamedVersion) → KeepsKeys key f → (xs : List X)
    → IsStrictlySortedBy name_cmp (map key xs) → IsStrictlySortedBy name_cmp (map (λ s. s.0) (filter_map f xs))
unfolding IsStrictlySortedBy
sorted_given key f k [] h = tt
sorted_given key f k (x ∷ xs) h =
    sorted_one (f x) (key x) (filter_map f xs) (k x) (every_given key f k (λ m. name_cmp (key x) m ≡ Less) xs h.0) (sorted_given key f k xs h.1)

seen_pair : (n : List ℕ) (o : Option Version) (m : List ℕ) (v : Version) → option_map {U = NamedVersion} (λ w. (n, w)) o ≡ Some (m, v) → (n ≡ m) × (o ≡ Some v)
seen_pair n None m v e = absurd (cc)
seen_pair n (Some w) m v e =
    let same : (n, w) ≡ (m, v) = cc in (ap (λ (s : NamedVersion). s.0) same, ap (λ (s : NamedVersion). Some s.1) same)

entry_keeps_keys : (m : Moment) → KeepsKeys (λ e. e.0) (seen_entry m)
entry_keeps_keys m e s is = sym (seen_pair e.0 (seen_in m e.1.versions) s.0 s.1 is).0

any_named : (n : List ℕ) (ns : List (List ℕ)) → Contains ns n → list_any (λ k. bytes_eq k n) ns ≡ true
any_named n [] has = absurd (none_in_empty n has)
any_named n (k ∷ ns) has = elim (first_or_rest k n ns has) [
  | inl here ↦ ap (λ b. b || list_any (λ j. bytes_eq j n) ns) ((bytes_eq-Decides k n).1 here)
  | inr there ↦ or_true (bytes_eq k n) (any_named n ns there)
]
  where
    or_true : (b : Bool) → list_any (λ j. bytes_eq j n) ns ≡ true → (b || list_any (λ j. bytes_eq j n) ns) ≡ true
    or_true true e = refl
    or_true false e = e

named_if_any : (n : List ℕ) (ns : List (List ℕ)) → list_any (λ k. bytes_eq k n) ns ≡ true → Contains ns n
named_if_any n [] e = absurd (cc)
named_if_any n (k ∷ ns) e = go (bytes_eq k n) refl e (named_if_any n ns)
  where
    go : (b : Bool) → bytes_eq k n ≡ b → (b || list_any (λ j. bytes_eq j n) ns) ≡ true → (list_any (λ j. bytes_eq j n) ns ≡ true → Contains ns n) → Contains (k ∷ ns) n
    go true same e more = subst (λ (m : List ℕ). Contains (k ∷ ns) m) ((bytes_eq-Decides k n).0 same) (contains_first k ns)
    go false other e more = contains_rest k n ns (more e)

at_keeps_keys : (m : Moment) (columns : List (List ℕ × Held)) → KeepsKeys (λ n. n) (seen_at m columns)
at_keeps_keys m columns n s is = sym (seen_pair n (seen_in m (column_held columns n).versions) s.0 s.1 is).0

-- what is looked up by the names of a list
pub names_seen : (m : Moment) (row : Chains) (names : List (List ℕ)) (seen : List NamedVersion)
    → seen ≡ filter_map (seen_at m row.columns) (in_name_order names) → AreSeen (sight_of m row) (Names names) seen
names_seen m row names seen is =
    let ns = in_name_order names in
    let f = seen_at m row.columns in
    record {
      in_order = subst (λ (ss : List NamedVersion). IsStrictlySortedBy name_cmp (map (λ s. s.0) ss)) (sym is)
          (sorted_given (λ n. n) f (at_keeps_keys m row.columns) ns (subst (λ (ks : List (List ℕ)). IsStrictlySortedBy name_cmp ks) (sym (map-id ns)) (sorted_in_order names)));
      sound = λ n v has.
          let at = given_only f ns (n, v) (subst (λ (ss : List NamedVersion). Contains ss (n, v)) is has) in
          let pair = seen_pair at.0 (seen_in m (column_held row.columns at.0).versions) n v at.2 in
          let listed : Contains ns n = subst (λ (k : List ℕ). Contains ns k) pair.0 at.1 in (
            sym (any_in_order (λ k. bytes_eq k n) names) ∙ any_named n ns listed,
            subst (λ (k : List ℕ). seen_in m (column_held row.columns k).versions ≡ Some v) pair.0 pair.1,
          );
      whole = λ n v asked sees.
          let listed = named_if_any n ns (any_in_order (λ k. bytes_eq k n) names ∙ asked) in
          subst (λ (ss : List NamedVersion). Contains ss (n, v)) (sym is)
          (given f ns n (n, v) listed (ap (option_map (λ w. (n, w))) sees));
    }

keys_kept : (q : List ℕ → Bool) (es : List (List ℕ × Held)) → map (λ e. e.0) (filter (λ e. q e.0) es) ≡ filter q (map (λ e. e.0) es)
keys_kept q [] = refl
keys_kept q (e ∷ es) = go (q e.0) (keys_kept q es)
  where
    go : (b : Bool) → map (λ d. d.0) (filter (λ d. q d.0) es) ≡ filter q (map (λ d. d.0) es)
        → map (λ d. d.0) (cond b (e ∷ filter (λ d. q d.0) es) (filter (λ d. q d.0) es)) ≡ cond b (e.0 ∷ filter q (map (λ d. d.0) es)) (filter q (map (λ d. d.0) es))
    go true same = ap (λ ks. e.0 ∷ ks) same
    go false same = same

none_of_nothing : (m : Moment) → seen_in m [] ≡ None
none_of_nothing Now = refl
none_of_nothing (At t) = refl

-- what is walked over between two ends
pub entries_seen : (m : Moment) (row : Chains) (p : Predicate) (q : List ℕ → Bool) (seen : List NamedVersion) → ((n : List ℕ) → is_asked p n ≡ q n)
    → IsStrictlySortedBy name_cmp (map (λ e. e.0) row.columns) → seen ≡ filter_map (seen_entry m) (filter (λ e. q e.0) row.columns) → AreSeen (sight_of m row) p seen
entries_seen m row p q seen asks sorted is =
    let es = row.columns in
    let f = seen_entry m in
    let held : (n : List ℕ) (h : Held) → Contains es (n, h) → column_held es n ≡ h =
    λ n h has. ap (λ (o : Option Held). unwrap_or o nothing_held) (lookup-from_Contains (eq_by_cmp_equiv nat_list_cmp_total) n h es (IsDistinct-from_sorted name_cmp (map (λ e. e.0) es) sorted) has) in
    record {
      in_order = subst (λ (ss : List NamedVersion). IsStrictlySortedBy name_cmp (map (λ s. s.0) ss)) (sym is)
          (sorted_given (λ (e : List ℕ × Held). e.0) f (entry_keeps_keys m) (filter (λ e. q e.0) es)
          (subst (λ (ks : List (List ℕ)). IsStrictlySortedBy name_cmp ks) (sym (keys_kept q es)) (IsStrictlySortedBy-filter name_cmp q (map (λ e. e.0) es) sorted)));
      sound = λ n v has.
          let at = given_only f (filter (λ e. q e.0) es) (n, v) (subst (λ (ss : List NamedVersion). Contains ss (n, v)) is has) in
          let own = kept_only (λ e. q e.0) es at.0 at.1 in
          let pair = seen_pair at.0.0 (seen_in m at.0.1.versions) n v at.2 in
          let same = held at.0.0 at.0.1 own.0 in (
            asks n ∙ ap q (sym pair.0) ∙ own.1,
            subst (λ (k : List ℕ). seen_in m (column_held es k).versions ≡ Some v) pair.0 (ap (λ (h : Held). seen_in m h.versions) same ∙ pair.1),
          );
      whole = λ n v asked sees.
          subst (λ (ss : List NamedVersion). Contains ss (n, v)) (sym is) (found_in n v (sym (asks n) ∙ asked) sees);
    }
  where
    found_by : (n : List ℕ) (v : Version) (o : Option Held) → lookup (λ k. is_eq (name_cmp n k)) row.columns ≡ o → q n ≡ true
        → seen_in m (unwrap_or o nothing_held).versions ≡ Some v → Contains (filter_map (seen_entry m) (filter (λ e. q e.0) row.columns)) (n, v)
    found_by n v None at passes sees = let none = none_of_nothing m in absurd (cc)
    found_by n v (Some h) at passes sees =
        given (seen_entry m) (filter (λ e. q e.0) row.columns) (n, h) (n, v)
        (kept (λ e. q e.0) row.columns (n, h) (Contains-from_lookup same_name n h row.columns at) passes)
        (ap (option_map (λ w. (n, w))) sees)

    found_in : (n : List ℕ) (v : Version) → q n ≡ true → seen_in m (column_held row.columns n).versions ≡ Some v
        → Contains (filter_map (seen_entry m) (filter (λ e. q e.0) row.columns)) (n, v)
    found_in n v passes sees = found_by n v (lookup (λ k. is_eq (name_cmp n k)) row.columns) refl passes sees

sorted_nothing : IsStrictlySortedBy name_cmp []
unfolding IsStrictlySortedBy
sorted_nothing = tt

-- where nothing is asked for nothing is seen
nothing_seen : (m : Moment) (row : Chains) (p : Predicate) → ((n : List ℕ) → is_asked p n ≡ false) → AreSeen (sight_of m row) p []
nothing_seen m row p none = record {
  in_order = sorted_nothing;
  sound = λ n v has. absurd (none_in_empty (n, v) has);
  whole = λ n v asked sees. let no = none n in absurd (cc);
}

pub none_kept : (q : List ℕ → Bool) → ((n : List ℕ) → q n ≡ false) → (es : List (List ℕ × Held)) → filter (λ e. q e.0) es ≡ []
none_kept q none [] = refl
none_kept q none (e ∷ es) = rw (none e.0) (none_kept q none es)

-- whether the range is backwards or not
pub range_seen : (m : Moment) (row : Chains) (p : Predicate) (low high : List ℕ) (seen : List NamedVersion) → ((n : List ℕ) → is_asked p n ≡ is_between low high n)
    → (is_backwards low high ≡ false → IsStrictlySortedBy name_cmp (map (λ e. e.0) row.columns))
    → seen ≡ filter_map (seen_entry m) (filter (λ e. is_between low high e.0) row.columns) → AreSeen (sight_of m row) p seen
range_seen m row p low high seen asks sorted is =
    by_cases (is_backwards low high)
    (λ backwards.
    let none : filter (λ e. is_between low high e.0) row.columns ≡ [] = none_kept (is_between low high) (none_between low high backwards) row.columns in
    subst (AreSeen (sight_of m row) p) (sym (is ∙ ap (filter_map (seen_entry m)) none)) (nothing_seen m row p (λ n. asks n ∙ none_between low high backwards n)))
    (λ onwards. entries_seen m row p (is_between low high) seen asks (sorted onwards) is)

no_slice : (p : Predicate) → slice_of p [] ≡ []
no_slice (Names names) = refl
no_slice (Range start finish true zero) = refl
no_slice (Range start finish true (suc n)) = refl
no_slice (Range start finish false zero) = refl
no_slice (Range start finish false (suc n)) = refl

no_column : (m : Moment) (n : List ℕ) → seen_in m (chain_of no_row (Some n)).versions ≡ None
no_column m n = none_of_nothing m

none_seen : (m : Moment) (p : Predicate) → AreSeen (sight_of m no_row) p []
none_seen m p = record {
  in_order = sorted_nothing;
  sound = λ n v has. absurd (none_in_empty (n, v) has);
  whole = λ n v asked sees. let none = no_column m n in absurd (cc);
}

no_writer_sorted : IsStrictlySortedBy writer_cmp []
unfolding IsStrictlySortedBy
no_writer_sorted = tt

-- of a row of which nothing is kept nothing is seen
pub nothing_kept : (m : Moment) (p : Predicate) (part : Part) → part.columns ≡ [] → part.writers ≡ [] → part.evt ≡ 0 → IsPartSeen (sight_of m no_row) p part
nothing_kept m p part columns writers evt =
    let none : seen_in m [] ≡ None = none_of_nothing m in
    record {
      seen = [];
      are_seen = none_seen m p;
      made = record {
        columns = columns ∙ sym (no_slice p);
        writers = λ w. (
          λ has. absurd (none_in_empty w (subst (λ ws. Contains ws w) writers has)),
          λ has. absurd (none_in_empty w (subst (λ (o : Option Version). Contains (writers_of p part.columns o []) w) none has)),
        );
        in_order = subst (λ ws. IsStrictlySortedBy writer_cmp ws) (sym writers) no_writer_sorted;
        evt = evt ∙ ap (λ (o : Option Version). evt_of_sight o []) (sym none);
      };
    }

none_there : (m : Moment) (q : Place) → sight_of m no_row q ≡ None
none_there m None = none_of_nothing m
none_there m (Some n) = none_of_nothing m

alone : (o : Option Version) → o ≡ newer_seen None o
alone None = refl
alone (Some v) = refl

-- what is laid over a row of which nothing is kept is all that is seen
pub under_over_nothing : (m : Moment) (over : Chains) (p : Predicate) (part : Part) → IsPartUnder (sight_of m over) (ranges_seen m over) p part
    → IsPartUnder (laid_over (sight_of m no_row) (sight_of m over)) (ranges_over m no_row over) p part
under_over_nothing m over p part seen =
    let same : sight_of m over ≡ laid_over (sight_of m no_row) (sight_of m over) =
    λ i. λ q. (alone (sight_of m over q) ∙ ap (λ (o : Option Version). newer_seen o (sight_of m over q)) (sym (none_there m q))) i in
    let deletion : seen_in m over.deletions.versions ≡ newer_seen (seen_in m no_row.deletions.versions) (seen_in m over.deletions.versions) =
    alone (seen_in m over.deletions.versions) ∙ ap (λ (o : Option Version). newer_seen o (seen_in m over.deletions.versions)) (sym (none_of_nothing m)) in
    subst (λ (f : Sight). IsPartUnder f (ranges_over m no_row over) p part) same
    (subst (λ (d : Option Version). IsPartUnder (sight_of m over) (standing m d over.ranges.ranges) p part) deletion seen)
