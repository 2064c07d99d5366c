-- The normal form of a batch has of each row the deletions of ranges after its last deletion, in their order.
use Rattle.std.proofs.Common.{◌≡◌, ◌∙◌, ℕ, ◌+◌, ◌<◌, ap, sym, subst, refl, Bool, true, false, ◌&&◌, ◌||◌, List, [], ◌∷◌, ◌++◌, length, append_assoc, append-nil, arith}
use Rattle.std.specs.Prelude.{if◌then◌else◌, ◌==◌, not}
use Rattle.std.specs.List.{AllByRecursion, list_any}
use Rattle.std.specs.List.Sorted.{IsStrictlySortedBy}
use Rattle.std.specs.declared.cmp.Ordering.{Ordering}
use Rattle.std.specs.declared.cmp.Ordering.TheVariants.{Less, Equal, Greater}
use Rattle.std.specs.Ordering.{nat_cmp, match_ordering}
use Rattle.std.specs.Map.{keys_of, values_of}
use Rattle.std.specs.BTreeMap.{insert_entry}
use Rattle.std.proofs.lemmas.Bool.{eqb-true, eq-eqb}
use Rattle.column_family.specs.declared.batch.Row.{Row}
use Rattle.column_family.specs.declared.batch.Change.{Change}
use Rattle.column_family.specs.declared.batch.Mutation.{Mutation}
use Rattle.column_family.specs.declared.batch.Mutation.TheVariants.{Insert, DeleteColumn, DeleteRow, DeleteRange}
use Rattle.column_family.specs.declared.places.Place.{Place}
use Rattle.column_family.specs.Location.{is_same_row, deletes_row, deletes_range, is_row_deletion}
use Rattle.column_family.specs.Normal.{changes_before, ranges_of, ranges_left}
use Rattle.column_family.specs.Places.{Placed, part_of, part_cmp, place_cmp, is_undone, after, keep, keep_all, normal_of}
use Rattle.column_family.proofs.Options.{both_true, both_hold, denied}
use Rattle.column_family.proofs.PlaceOrder.{place_total, equal_places, in_row}
use Rattle.column_family.proofs.PlacesKept.{each_more, IsPlaced, IsNumbering, at_place, placed_after, placed_keep, sorted_after, sorted_keep}
use Rattle.column_family.proofs.Kept.{one_row}
use Rattle.column_family.proofs.Order.{first_apart, first_below}

-- ---- what undoes and replaces deletions of ranges
undone_range : (m d : Mutation) (i : ℕ) → deletes_range m ≡ true → is_undone d (part_of i m) ≡ true → deletes_row d ≡ true
undone_range (Insert n v) d i h u = absurd (cc)
undone_range (DeleteColumn n) d i h u = absurd (cc)
undone_range DeleteRow d i h u = absurd (cc)
undone_range (DeleteRange s f) (Insert n v) i h u = absurd (cc)
undone_range (DeleteRange s f) (DeleteColumn n) i h u = absurd (cc)
undone_range (DeleteRange s f) DeleteRow i h u = refl
undone_range (DeleteRange s f) (DeleteRange s' f') i h u = absurd (cc)

apart_number : (i j : ℕ) → i < j → nat_cmp j i ≡ Equal → ⊥
apart_number i j lt h = grind arith

below_number : (i j : ℕ) → i < j → nat_cmp j i ≡ Less → ⊥
below_number i j lt h = grind arith

replaced_range : (m d : Mutation) (i j : ℕ) → i < j → deletes_range m ≡ true → part_cmp (part_of j d) (part_of i m) ≡ Equal → ⊥
replaced_range (Insert n v) d i j lt h e = absurd (cc)
replaced_range (DeleteColumn n) d i j lt h e = absurd (cc)
replaced_range DeleteRow d i j lt h e = absurd (cc)
replaced_range (DeleteRange s f) (Insert n v) i j lt h e = absurd (cc)
replaced_range (DeleteRange s f) (DeleteColumn n) i j lt h e = absurd (cc)
replaced_range (DeleteRange s f) DeleteRow i j lt h e = absurd (cc)
replaced_range (DeleteRange s f) (DeleteRange s' f') i j lt h e = apart_number i j lt e

later_range : (m d : Mutation) (i j : ℕ) → i < j → deletes_range m ≡ true → deletes_range d ≡ true → part_cmp (part_of j d) (part_of i m) ≡ Less → ⊥
later_range (Insert n v) d i j lt h k e = absurd (cc)
later_range (DeleteColumn n) d i j lt h k e = absurd (cc)
later_range DeleteRow d i j lt h k e = absurd (cc)
later_range (DeleteRange s f) (Insert n v) i j lt h k e = absurd (cc)
later_range (DeleteRange s f) (DeleteColumn n) i j lt h k e = absurd (cc)
later_range (DeleteRange s f) DeleteRow i j lt h k e = absurd (cc)
later_range (DeleteRange s f) (DeleteRange s' f') i j lt h k e = below_number i j lt e

not_both : (m : Mutation) → deletes_row m ≡ true → deletes_range m ≡ false
not_both (Insert n v) h = refl
not_both (DeleteColumn n) h = refl
not_both DeleteRow h = refl
not_both (DeleteRange s f) h = absurd (cc)

all_undone : (m : Mutation) (e : Place) → deletes_row m ≡ true → is_undone m e.part ≡ true
all_undone (Insert n v) e h = absurd (cc)
all_undone (DeleteColumn n) e h = absurd (cc)
all_undone DeleteRow e h = refl
all_undone (DeleteRange s f) e h = absurd (cc)

module _ (number : Row → ℕ) (n : ℕ) (apart : IsNumbering number n) (r : Row) where
  abbrev ranged : Change → Bool
  ranged c = is_same_row r c.row && deletes_range c.mutation

  passed_over : (c : Change) (cs : List Change) → ranged c ≡ false → ranges_of r (c ∷ cs) ≡ ranges_of r cs
  passed_over c cs h = rw h refl

  taken : (c : Change) (cs : List Change) → ranged c ≡ true → ranges_of r (c ∷ cs) ≡ c ∷ ranges_of r cs
  taken c cs h = rw h refl

  of_row : (c : Change) (e : Place × Change) (i : ℕ) → IsPlaced number n i e → is_same_row r c.row ≡ true → is_same_row r e.1.row ≡ true → e.0.row ≡ number c.row
  of_row c e i placed h k = placed.0 ∙ ap number (sym (one_row r e.1.row k) ∙ one_row r c.row h)

  -- a deletion of the row takes them all
  none_left : (c : Change) (i : ℕ) → is_row_deletion r c ≡ true → (es : Placed) → AllByRecursion (IsPlaced number n i) es → ranges_of r (values_of (after (number c.row) c.mutation es)) ≡ []
  none_left c i d [] all = refl
  none_left c i d (e ∷ es) all = go (none_left c i d es all.1) (e.0.row == number c.row && is_undone c.mutation e.0.part) refl
    where
      go : ranges_of r (values_of (after (number c.row) c.mutation es)) ≡ [] → (b : Bool) → (e.0.row == number c.row && is_undone c.mutation e.0.part) ≡ b
          → ranges_of r (values_of (if not b then e ∷ after (number c.row) c.mutation es else after (number c.row) c.mutation es)) ≡ []
      go ih true u = ih
      go ih false u =
          let k = both_true (is_same_row r c.row) (deletes_row c.mutation) d in
          let none : ranged e.1 ≡ false = denied (ranged e.1) (λ t.
          let own = (both_true (is_same_row r e.1.row) (deletes_range e.1.mutation) t).0 in
          let undone = both_hold (e.0.row == number c.row) (is_undone c.mutation e.0.part) (eq-eqb e.0.row (number c.row) (of_row c e i all.0 k.0 own)) (all_undone c.mutation e.0 k.1) in
          cc) in
          passed_over e.1 (values_of (after (number c.row) c.mutation es)) none ∙ ih

  -- another change takes none
  all_left : (c : Change) (i : ℕ) → is_row_deletion r c ≡ false → (es : Placed) → AllByRecursion (IsPlaced number n i) es → ranges_of r (values_of (after (number c.row) c.mutation es)) ≡ ranges_of r (values_of es)
  all_left c i d [] all = refl
  all_left c i d (e ∷ es) all = go (all_left c i d es all.1) (e.0.row == number c.row && is_undone c.mutation e.0.part) refl
    where
      go : ranges_of r (values_of (after (number c.row) c.mutation es)) ≡ ranges_of r (values_of es) → (b : Bool) → (e.0.row == number c.row && is_undone c.mutation e.0.part) ≡ b
          → ranges_of r (values_of (if not b then e ∷ after (number c.row) c.mutation es else after (number c.row) c.mutation es)) ≡ ranges_of r (values_of (e ∷ es))
      go ih true u =
          let k = both_true (e.0.row == number c.row) (is_undone c.mutation e.0.part) u in
          let none : ranged e.1 ≡ false = denied (ranged e.1) (λ t.
          let own = both_true (is_same_row r e.1.row) (deletes_range e.1.mutation) t in
          let rows : e.1.row ≡ c.row = apart e.1.row c.row all.0.1 (sym all.0.0 ∙ eqb-true e.0.row (number c.row) k.0) in
          let deletes = undone_range e.1.mutation c.mutation all.0.2.0 own.1 (ap (is_undone c.mutation) (sym all.0.2.2) ∙ k.1) in
          let row = both_hold (is_same_row r c.row) (deletes_row c.mutation) (ap (λ (s : Row). is_same_row r s) (sym rows) ∙ own.0) deletes in
          cc) in
          ih ∙ sym (passed_over e.1 (values_of es) none)
      go ih false u = ap (λ (cs : List Change). if ranged e.1 then e.1 ∷ cs else cs) ih

  -- ---- one that is put among them
  not_replaced : (c : Change) (i : ℕ) (e : Place × Change) → IsPlaced number n i e → place_cmp (at_place number i c) e.0 ≡ Equal → ranged e.1 ≡ false
  not_replaced c i e placed equal = denied (ranged e.1) (λ t.
      let own = both_true (is_same_row r e.1.row) (deletes_range e.1.mutation) t in
      let row : number c.row ≡ e.0.row = ap (λ (p : Place). p.row) (equal_places (at_place number i c) e.0 equal) in
      replaced_range e.1.mutation c.mutation placed.2.0 i placed.2.1 own.1
      (ap (part_cmp (part_of i c.mutation)) (sym placed.2.2) ∙ (sym (in_row (at_place number i c) e.0 row) ∙ equal)))

  beside : (c : Change) (i : ℕ) → ranged c ≡ false → (es : Placed) → AllByRecursion (IsPlaced number n i) es → ranges_of r (values_of (insert_entry place_cmp es (at_place number i c) c)) ≡ ranges_of r (values_of es)
  beside c i h [] all = passed_over c [] h
  beside c i h (e ∷ es) all = go (beside c i h es all.1) (place_cmp (at_place number i c) e.0) refl
    where
      go : ranges_of r (values_of (insert_entry place_cmp es (at_place number i c) c)) ≡ ranges_of r (values_of es) → (o : Ordering) → place_cmp (at_place number i c) e.0 ≡ o
          → ranges_of r (values_of (match_ordering o ((at_place number i c, c) ∷ e ∷ es) ((e.0, c) ∷ es) (e ∷ insert_entry place_cmp es (at_place number i c) c))) ≡ ranges_of r (values_of (e ∷ es))
      go ih Less u = passed_over c (values_of (e ∷ es)) h
      go ih Equal u = passed_over c (values_of es) h ∙ sym (passed_over e.1 (values_of es) (not_replaced c i e all.0 u))
      go ih Greater u = ap (λ (cs : List Change). if ranged e.1 then e.1 ∷ cs else cs) ih

  not_behind : (c : Change) (i : ℕ) → ranged c ≡ true → (e : Place × Change) → IsPlaced number n i e → place_cmp (at_place number i c) e.0 ≡ Less → ranged e.1 ≡ false
  not_behind c i h e placed less = denied (ranged e.1) (λ t.
      let own = both_true (is_same_row r e.1.row) (deletes_range e.1.mutation) t in
      let k = both_true (is_same_row r c.row) (deletes_range c.mutation) h in
      later_range e.1.mutation c.mutation placed.2.0 i placed.2.1 own.1 k.1
      (ap (part_cmp (part_of i c.mutation)) (sym placed.2.2) ∙ (sym (in_row (at_place number i c) e.0 (sym (of_row c e i placed k.0 own.0))) ∙ less)))

  none_behind : (c : Change) (i : ℕ) → ranged c ≡ true → (es : Placed) → AllByRecursion (IsPlaced number n i) es → AllByRecursion (λ (p : Place). place_cmp (at_place number i c) p ≡ Less) (keys_of es) → ranges_of r (values_of es) ≡ []
  none_behind c i h [] all less = refl
  none_behind c i h (e ∷ es) all less = passed_over e.1 (values_of es) (not_behind c i h e all.0 less.0) ∙ none_behind c i h es all.1 less.1

  at_end : (c : Change) (i : ℕ) → ranged c ≡ true → (es : Placed) → AllByRecursion (IsPlaced number n i) es → IsStrictlySortedBy place_cmp (keys_of es)
      → ranges_of r (values_of (insert_entry place_cmp es (at_place number i c) c)) ≡ ranges_of r (values_of es) ++ c ∷ []
  unfolding IsStrictlySortedBy
  at_end c i h [] all s = taken c [] h
  at_end c i h (e ∷ es) all s = go (at_end c i h es all.1 s.1) (place_cmp (at_place number i c) e.0) refl
    where
      more : (b : Bool) (xs : List Change) → (if b then e.1 ∷ (xs ++ c ∷ []) else xs ++ c ∷ []) ≡ (if b then e.1 ∷ xs else xs) ++ c ∷ []
      more true xs = refl
      more false xs = refl

      go : ranges_of r (values_of (insert_entry place_cmp es (at_place number i c) c)) ≡ ranges_of r (values_of es) ++ c ∷ [] → (o : Ordering) → place_cmp (at_place number i c) e.0 ≡ o
          → ranges_of r (values_of (match_ordering o ((at_place number i c, c) ∷ e ∷ es) ((e.0, c) ∷ es) (e ∷ insert_entry place_cmp es (at_place number i c) c))) ≡ ranges_of r (values_of (e ∷ es)) ++ c ∷ []
      go ih Less u =
          let none : ranges_of r (values_of (e ∷ es)) ≡ [] =
          none_behind c i h (e ∷ es) all (u, each_more (λ (p : Place). place_cmp e.0 p ≡ Less) (λ (p : Place). place_cmp (at_place number i c) p ≡ Less) (λ p g. place_total.trans (at_place number i c) e.0 p u g) (keys_of es) s.0) in
          taken c (values_of (e ∷ es)) h ∙ (ap (λ (cs : List Change). c ∷ cs) none ∙ sym (ap (λ (cs : List Change). cs ++ c ∷ []) none))
      go ih Equal u =
          let none : ranges_of r (values_of (e ∷ es)) ≡ [] =
          passed_over e.1 (values_of es) (not_replaced c i e all.0 u) ∙ none_behind c i h es all.1 (subst (λ (p : Place). AllByRecursion (λ (x : Place). place_cmp p x ≡ Less) (keys_of es)) (sym (equal_places (at_place number i c) e.0 u)) s.0) in
          let rest : ranges_of r (values_of es) ≡ [] = sym (passed_over e.1 (values_of es) (not_replaced c i e all.0 u)) ∙ none in
          taken c (values_of es) h ∙ (ap (λ (cs : List Change). c ∷ cs) rest ∙ sym (ap (λ (cs : List Change). cs ++ c ∷ []) none))
      go ih Greater u = ap (λ (cs : List Change). if ranged e.1 then e.1 ∷ cs else cs) ih ∙ more (ranged e.1) (ranges_of r (values_of es))

  -- ---- one change more
  after_row : (c : Change) (i : ℕ) (es : Placed) → AllByRecursion (IsPlaced number n i) es → is_row_deletion r c ≡ true → ranges_of r (values_of (keep (number c.row) i es c)) ≡ []
  after_row c i es all d =
      let k = both_true (is_same_row r c.row) (deletes_row c.mutation) d in
      let other : ranged c ≡ false = ap (λ (b : Bool). is_same_row r c.row && b) (not_both c.mutation k.1) ∙ never (is_same_row r c.row) in
      beside c i other (after (number c.row) c.mutation es) (placed_after number n (number c.row) c.mutation i es all) ∙ none_left c i d es all
    where
      never : (b : Bool) → (b && false) ≡ false
      never true = refl
      never false = refl

  after_other : (c : Change) (i : ℕ) (es : Placed) → AllByRecursion (IsPlaced number n i) es → is_row_deletion r c ≡ false → ranged c ≡ false → ranges_of r (values_of (keep (number c.row) i es c)) ≡ ranges_of r (values_of es)
  after_other c i es all d h =
      beside c i h (after (number c.row) c.mutation es) (placed_after number n (number c.row) c.mutation i es all) ∙ all_left c i d es all

  after_range : (c : Change) (i : ℕ) (es : Placed) → AllByRecursion (IsPlaced number n i) es → IsStrictlySortedBy place_cmp (keys_of es) → is_row_deletion r c ≡ false → ranged c ≡ true
      → ranges_of r (values_of (keep (number c.row) i es c)) ≡ ranges_of r (values_of es) ++ c ∷ []
  after_range c i es all s d h =
      at_end c i h (after (number c.row) c.mutation es) (placed_after number n (number c.row) c.mutation i es all) (sorted_after (number c.row) c.mutation es s)
      ∙ ap (λ (cs : List Change). cs ++ c ∷ []) (all_left c i d es all)

  -- ---- all of them
  abbrev unless_deleted : List Change → List Change → List Change
  unless_deleted cs before = if list_any (is_row_deletion r) cs then [] else before

  ranges_all : (i : ℕ) (es : Placed) → AllByRecursion (IsPlaced number n i) es → IsStrictlySortedBy place_cmp (keys_of es) → (cs : List Change) → AllByRecursion (λ (c : Change). number c.row < n) cs
      → ranges_of r (values_of (keep_all number i es cs)) ≡ unless_deleted cs (ranges_of r (values_of es)) ++ ranges_left r cs
  ranges_all i es all s [] known = sym (append-nil (ranges_of r (values_of es)))
  ranges_all i es all s (c ∷ cs) known =
      ranges_all (i + 1) (keep (number c.row) i es c) (placed_keep number n c i known.0 es all) (sorted_keep (number c.row) i es c s) cs known.1
      ∙ go (list_any (is_row_deletion r) cs) (is_row_deletion r c) (ranged c) refl refl
    where
      go : (any d h : Bool) → is_row_deletion r c ≡ d → ranged c ≡ h
          → (if any then [] else ranges_of r (values_of (keep (number c.row) i es c))) ++ ranges_left r cs
          ≡ (if d || any then [] else ranges_of r (values_of es)) ++ (if h && not any then c ∷ ranges_left r cs else ranges_left r cs)
      go true true true u v = refl
      go true true false u v = refl
      go true false true u v = refl
      go true false false u v = refl
      go false true true u v =
          let k = both_true (is_same_row r c.row) (deletes_row c.mutation) u in
          let j = both_true (is_same_row r c.row) (deletes_range c.mutation) v in
          let none = not_both c.mutation k.1 in
          absurd (cc)
      go false true false u v = ap (λ (xs : List Change). xs ++ ranges_left r cs) (after_row c i es all u)
      go false false true u v = ap (λ (xs : List Change). xs ++ ranges_left r cs) (after_range c i es all s u v) ∙ append_assoc (ranges_of r (values_of es)) (c ∷ []) (ranges_left r cs)
      go false false false u v = ap (λ (xs : List Change). xs ++ ranges_left r cs) (after_other c i es all u v)

nothing_before : (b : Bool) (xs : List Change) → (if b then [] else []) ++ xs ≡ xs
nothing_before true xs = refl
nothing_before false xs = refl

-- the deletions of ranges of a row in the normal form
pub ranges_kept : (batch : List Change) (r : Row) → ranges_of r (normal_of batch) ≡ ranges_left r batch
unfolding IsStrictlySortedBy
ranges_kept batch r =
    ranges_all (changes_before batch) (length batch) (first_apart batch) r 0 [] tt tt batch (first_below batch)
    ∙ nothing_before (list_any (is_row_deletion r) batch) (ranges_left r batch)

pub kept_ranges : (batch kept : List Change) → kept ≡ normal_of batch → (r : Row) → ranges_of r kept ≡ ranges_left r batch
kept_ranges batch kept e r = ap (ranges_of r) e ∙ ranges_kept batch r
