-- What is kept of a batch, place by place, has the last mutation of each location, the last deletion of each row, and
-- the last of each row and of the ranges with a location.
use Rattle.std.proofs.Common.{◌≡◌, ◌∙◌, ℕ, ◌+◌, ◌<◌, ap, sym, subst, refl, Bool, true, false, List, [], ◌∷◌, Option, Some, None, arith}
use Rattle.std.specs.Prelude.{if◌then◌else◌, ◌==◌, ◌&&◌, ◌||◌, not}
use Rattle.std.specs.List.{AllByRecursion}
use Rattle.std.specs.List.Sorted.{IsStrictlySortedBy}
use Rattle.std.specs.Option.{option_or}
use Rattle.std.specs.Str.{bytes_eq}
use Rattle.std.specs.declared.cmp.Ordering.{Ordering}
use Rattle.std.specs.declared.cmp.Ordering.TheVariants.{Less, Equal, Greater}
use Rattle.std.specs.Ordering.{nat_cmp, match_ordering}
use Rattle.std.specs.Cmp.Lexicographic.{slice_cmp}
use Rattle.std.specs.Map.{keys_of, values_of}
use Rattle.std.specs.BTreeMap.{insert_entry}
use Rattle.std.proofs.lemmas.Cmp.{tied_itself, nat_list_cmp_total}
use Rattle.std.proofs.lemmas.Map.Lookups.{exact_bytes}
use Rattle.std.proofs.lemmas.Slice.Eq.{bytes_eq-Decides}
use Rattle.std.proofs.lemmas.Bool.{eqb-true, eq-eqb}
use Rattle.column_family.specs.declared.batch.Row.{Row}
use Rattle.column_family.specs.declared.batch.Change.{Change}
use Rattle.column_family.specs.declared.batch.Mutation.{Mutation}
use Rattle.column_family.specs.declared.batch.Mutation.TheVariants.{Insert, DeleteColumn, DeleteRow, DeleteRange}
use Rattle.column_family.specs.declared.places.Place.{Place}
use Rattle.column_family.specs.Names.{is_between}
use Rattle.column_family.specs.Location.{Location, is_same_row, touches_name, ranges_over, deletes_row, is_row_deletion, strikes, touches}
use Rattle.column_family.specs.History.{last_of}
use Rattle.column_family.specs.Places.{Placed, part_of, part_cmp, place_cmp, is_undone, after, keep, keep_all}
use Rattle.column_family.proofs.Options.{by_cases, both_true, both_hold, denied, or_none, or_assoc}
use Rattle.column_family.proofs.PlaceOrder.{place_total, equal_places, in_row}
use Rattle.column_family.proofs.PlacesKept.{IsPlaced, IsNumbering, at_place, placed_after, placed_keep, sorted_after, sorted_keep}

pub one_row : (r s : Row) → is_same_row r s ≡ true → r ≡ s
one_row r s h =
    let b = both_true (bytes_eq r.key s.key) (bytes_eq r.family s.family) h in
    let k = (bytes_eq-Decides r.key s.key).0 b.0 in
    let f = (bytes_eq-Decides r.family s.family).0 b.1 in
    λ i. record { key = k i; family = f i }

-- ---- a test of changes by row and mutation
abbrev pub tests : Row → (Mutation → Bool) → Change → Bool
tests r q c = is_same_row r c.row && q c.mutation

-- a newer mutation passes the test where an older one did that it undoes or replaces, and where both pass, what isn't
-- undone stands before the newer
pub record GoesByTheLast (q : Mutation → Bool) : Type 0 where
  pub undoing : (m d : Mutation) (i : ℕ) → q m ≡ true → is_undone d (part_of i m) ≡ true → q d ≡ true
  pub replacing : (m d : Mutation) (i j : ℕ) → i < j → part_cmp (part_of j d) (part_of i m) ≡ Equal → q m ≡ true → q d ≡ true
  pub before : (m d : Mutation) (i j : ℕ) → i < j → q m ≡ true → q d ≡ true → is_undone d (part_of i m) ≡ false → part_cmp (part_of j d) (part_of i m) ≡ Less → ⊥

module _ (number : Row → ℕ) (n : ℕ) (apart : IsNumbering number n) (r : Row) (q : Mutation → Bool) (by_last : GoesByTheLast q) where
  passes_too : (c : Change) (e : Place × Change) (i : ℕ) → IsPlaced number n i e → e.0.row ≡ number c.row → tests r q e.1 ≡ true → (q e.1.mutation ≡ true → q c.mutation ≡ true) → tests r q c ≡ true
  passes_too c e i placed row t f =
      let b = both_true (is_same_row r e.1.row) (q e.1.mutation) t in
      let rows : e.1.row ≡ c.row = apart e.1.row c.row placed.1 (sym placed.0 ∙ row) in
      both_hold (is_same_row r c.row) (q c.mutation) (ap (λ (s : Row). is_same_row r s) (sym rows) ∙ b.0) (f b.1)

  -- where what is undone passes, the newer change does
  undone_passes : (c : Change) (i : ℕ) (e : Place × Change) → IsPlaced number n i e → (e.0.row == number c.row && is_undone c.mutation e.0.part) ≡ true → tests r q e.1 ≡ true → tests r q c ≡ true
  undone_passes c i e placed undone t =
      let u = both_true (e.0.row == number c.row) (is_undone c.mutation e.0.part) undone in
      passes_too c e i placed (eqb-true e.0.row (number c.row) u.0) t
      (λ h. by_last.undoing e.1.mutation c.mutation placed.2.0 h (ap (is_undone c.mutation) (sym placed.2.2) ∙ u.1))

  -- where what is replaced passes, the newer change does
  replaced_passes : (c : Change) (i : ℕ) (e : Place × Change) → IsPlaced number n i e → place_cmp (at_place number i c) e.0 ≡ Equal → tests r q e.1 ≡ true → tests r q c ≡ true
  replaced_passes c i e placed equal t =
      let row : number c.row ≡ e.0.row = ap (λ (p : Place). p.row) (equal_places (at_place number i c) e.0 equal) in
      let parts : part_cmp (part_of i c.mutation) (part_of placed.2.0 e.1.mutation) ≡ Equal = ap (part_cmp (part_of i c.mutation)) (sym placed.2.2) ∙ (sym (in_row (at_place number i c) e.0 row) ∙ equal) in
      passes_too c e i placed (sym row) t (λ h. by_last.replacing e.1.mutation c.mutation placed.2.0 i placed.2.1 parts h)

  -- where both pass, what isn't undone stands before the newer change
  none_behind : (c : Change) (i : ℕ) (e : Place × Change) → IsPlaced number n i e → (e.0.row == number c.row && is_undone c.mutation e.0.part) ≡ false → tests r q c ≡ true → tests r q e.1 ≡ true → place_cmp (at_place number i c) e.0 ≡ Less → ⊥
  none_behind c i e placed left t t' less =
      let b = both_true (is_same_row r c.row) (q c.mutation) t in
      let b' = both_true (is_same_row r e.1.row) (q e.1.mutation) t' in
      let rows : c.row ≡ e.1.row = sym (one_row r c.row b.0) ∙ one_row r e.1.row b'.0 in
      let row : number c.row ≡ e.0.row = ap number rows ∙ sym placed.0 in
      let same : (e.0.row == number c.row) ≡ true = eq-eqb e.0.row (number c.row) (sym row) in
      let kept : is_undone c.mutation e.0.part ≡ false = sym (ap (λ (x : Bool). x && is_undone c.mutation e.0.part) same) ∙ left in
      by_last.before e.1.mutation c.mutation placed.2.0 i placed.2.1 b'.1 b.1 (ap (is_undone c.mutation) (sym placed.2.2) ∙ kept)
      (ap (part_cmp (part_of i c.mutation)) (sym placed.2.2) ∙ (sym (in_row (at_place number i c) e.0 row) ∙ less))

  -- ---- a change that doesn't pass
  unless : (x : Bool) (o : Option Mutation) (m : Mutation) → x ≡ false → option_or o (if x then Some m else None) ≡ o
  unless true o m h = absurd (cc)
  unless false o m h = sym (or_none o)

  last_left : (c : Change) (i : ℕ) → tests r q c ≡ false → (es : Placed) → AllByRecursion (IsPlaced number n i) es → last_of (tests r q) (values_of (after (number c.row) c.mutation es)) ≡ last_of (tests r q) (values_of es)
  last_left c i fails [] all = refl
  last_left c i fails (e ∷ es) all = go (last_left c i fails es all.1) (e.0.row == number c.row && is_undone c.mutation e.0.part) refl
    where
      go : last_of (tests r q) (values_of (after (number c.row) c.mutation es)) ≡ last_of (tests r q) (values_of es)
          → (b : Bool) → (e.0.row == number c.row && is_undone c.mutation e.0.part) ≡ b
          → last_of (tests r q) (values_of (if not b then e ∷ after (number c.row) c.mutation es else after (number c.row) c.mutation es)) ≡ last_of (tests r q) (values_of (e ∷ es))
      go ih true u =
          let none : tests r q e.1 ≡ false = denied (tests r q e.1) (λ t. let passes = undone_passes c i e all.0 u t in cc) in
          ih ∙ sym (unless (tests r q e.1) (last_of (tests r q) (values_of es)) e.1.mutation none)
      go ih false u = ap (λ (o : Option Mutation). option_or o (if tests r q e.1 then Some e.1.mutation else None)) ih

  last_beside : (c : Change) (i : ℕ) → tests r q c ≡ false → (es : Placed) → AllByRecursion (IsPlaced number n i) es → last_of (tests r q) (values_of (insert_entry place_cmp es (at_place number i c) c)) ≡ last_of (tests r q) (values_of es)
  last_beside c i fails [] all = unless (tests r q c) None c.mutation fails
  last_beside c i fails (e ∷ es) all = go (last_beside c i fails es all.1) (place_cmp (at_place number i c) e.0) refl
    where
      go : last_of (tests r q) (values_of (insert_entry place_cmp es (at_place number i c) c)) ≡ last_of (tests r q) (values_of es)
          → (o : Ordering) → place_cmp (at_place number i c) e.0 ≡ o
          → last_of (tests r q) (values_of (match_ordering o ((at_place number i c, c) ∷ e ∷ es) ((e.0, c) ∷ es) (e ∷ insert_entry place_cmp es (at_place number i c) c))) ≡ last_of (tests r q) (values_of (e ∷ es))
      go ih Less h = unless (tests r q c) (last_of (tests r q) (values_of (e ∷ es))) c.mutation fails
      go ih Equal h =
          let none : tests r q e.1 ≡ false = denied (tests r q e.1) (λ t. let passes = replaced_passes c i e all.0 h t in cc) in
          unless (tests r q c) (last_of (tests r q) (values_of es)) c.mutation fails ∙ sym (unless (tests r q e.1) (last_of (tests r q) (values_of es)) e.1.mutation none)
      go ih Greater h = ap (λ (o : Option Mutation). option_or o (if tests r q e.1 then Some e.1.mutation else None)) ih

  -- ---- a change that passes
  abbrev PassesBefore : Place → Place × Change → Type 0
  PassesBefore k e = tests r q e.1 ≡ true → place_cmp k e.0 ≡ Less → ⊥

  none_later : (k : Place) (es : Placed) → AllByRecursion (PassesBefore k) es → AllByRecursion (λ (p : Place). place_cmp k p ≡ Less) (keys_of es) → last_of (tests r q) (values_of es) ≡ None
  none_later k [] all less = refl
  none_later k (e ∷ es) all less =
      let none : tests r q e.1 ≡ false = denied (tests r q e.1) (λ t. all.0 t less.0) in
      unless (tests r q e.1) (last_of (tests r q) (values_of es)) e.1.mutation none ∙ none_later k es all.1 less.1

  each_later : (k p : Place) → place_cmp k p ≡ Less → (ps : List Place) → AllByRecursion (λ (x : Place). place_cmp p x ≡ Less) ps → AllByRecursion (λ (x : Place). place_cmp k x ≡ Less) ps
  each_later k p less [] h = tt
  each_later k p less (x ∷ xs) h = (place_total.trans k p x less h.0, each_later k p less xs h.1)

  last_put : (k : Place) (c : Change) → tests r q c ≡ true → (es : Placed) → AllByRecursion (PassesBefore k) es → IsStrictlySortedBy place_cmp (keys_of es) → last_of (tests r q) (values_of (insert_entry place_cmp es k c)) ≡ Some c.mutation
  unfolding IsStrictlySortedBy
  last_put k c passes [] all s = rw passes refl
  last_put k c passes (e ∷ es) all s = go (last_put k c passes es all.1 s.1) (place_cmp k e.0) refl
    where
      here : (o : Option Mutation) → o ≡ None → option_or o (if tests r q c then Some c.mutation else None) ≡ Some c.mutation
      here o h = ap (λ (x : Option Mutation). option_or x (if tests r q c then Some c.mutation else None)) h ∙ ap (λ (b : Bool). if b then Some c.mutation else None) passes

      go : last_of (tests r q) (values_of (insert_entry place_cmp es k c)) ≡ Some c.mutation
          → (o : Ordering) → place_cmp k e.0 ≡ o → last_of (tests r q) (values_of (match_ordering o ((k, c) ∷ e ∷ es) ((e.0, c) ∷ es) (e ∷ insert_entry place_cmp es k c))) ≡ Some c.mutation
      go ih Less h = here (last_of (tests r q) (values_of (e ∷ es))) (none_later k (e ∷ es) all (h, each_later k e.0 h (keys_of es) s.0))
      go ih Equal h = here (last_of (tests r q) (values_of es)) (none_later k es all.1 (subst (λ (p : Place). AllByRecursion (λ (x : Place). place_cmp p x ≡ Less) (keys_of es)) (sym (equal_places k e.0 h)) s.0))
      go ih Greater h = ap (λ (o : Option Mutation). option_or o (if tests r q e.1 then Some e.1.mutation else None)) ih

  left_before : (c : Change) (i : ℕ) → tests r q c ≡ true → (es : Placed) → AllByRecursion (IsPlaced number n i) es → AllByRecursion (PassesBefore (at_place number i c)) (after (number c.row) c.mutation es)
  left_before c i passes [] all = tt
  left_before c i passes (e ∷ es) all = go (left_before c i passes es all.1) (e.0.row == number c.row && is_undone c.mutation e.0.part) refl
    where
      go : AllByRecursion (PassesBefore (at_place number i c)) (after (number c.row) c.mutation es) → (b : Bool) → (e.0.row == number c.row && is_undone c.mutation e.0.part) ≡ b
          → AllByRecursion (PassesBefore (at_place number i c)) (if not b then e ∷ after (number c.row) c.mutation es else after (number c.row) c.mutation es)
      go ih true u = ih
      go ih false u = ((λ t less. none_behind c i e all.0 u passes t less), ih)

  -- ---- one change more
  last_keep : (c : Change) (i : ℕ) (es : Placed) → AllByRecursion (IsPlaced number n i) es → IsStrictlySortedBy place_cmp (keys_of es)
      → last_of (tests r q) (values_of (keep (number c.row) i es c)) ≡ option_or (if tests r q c then Some c.mutation else None) (last_of (tests r q) (values_of es))
  last_keep c i es all s =
      by_cases (tests r q c)
      (λ yes. last_put (at_place number i c) c yes (after (number c.row) c.mutation es) (left_before c i yes es all) (sorted_after (number c.row) c.mutation es s)
      ∙ sym (ap (λ (b : Bool). option_or (if b then Some c.mutation else None) (last_of (tests r q) (values_of es))) yes))
      (λ no. last_beside c i no (after (number c.row) c.mutation es) (placed_after number n (number c.row) c.mutation i es all)
      ∙ (last_left c i no es all ∙ sym (ap (λ (b : Bool). option_or (if b then Some c.mutation else None) (last_of (tests r q) (values_of es))) no)))

  -- ---- all of them
  last_all : (i : ℕ) (es : Placed) → AllByRecursion (IsPlaced number n i) es → IsStrictlySortedBy place_cmp (keys_of es) → (cs : List Change) → AllByRecursion (λ (c : Change). number c.row < n) cs
      → last_of (tests r q) (values_of (keep_all number i es cs)) ≡ option_or (last_of (tests r q) cs) (last_of (tests r q) (values_of es))
  last_all i es all s [] known = refl
  last_all i es all s (c ∷ cs) known =
      last_all (i + 1) (keep (number c.row) i es c) (placed_keep number n c i known.0 es all) (sorted_keep (number c.row) i es c s) cs known.1
      ∙ (ap (λ (o : Option Mutation). option_or (last_of (tests r q) cs) o) (last_keep c i es all s)
      ∙ sym (or_assoc (last_of (tests r q) cs) (if tests r q c then Some c.mutation else None) (last_of (tests r q) (values_of es))))

  pub last_kept : (cs : List Change) → AllByRecursion (λ (c : Change). number c.row < n) cs → last_of (tests r q) (values_of (keep_all number 0 [] cs)) ≡ last_of (tests r q) cs
  unfolding IsStrictlySortedBy
  last_kept cs known = last_all 0 [] tt tt cs known ∙ sym (or_none (last_of (tests r q) cs))

-- ---- the three tests of a history
named : (n m name : List ℕ) → bytes_eq n name ≡ true → bytes_eq m name ≡ true → slice_cmp nat_cmp m n ≡ Less → ⊥
named n m name s t less =
    let same : m ≡ n = (bytes_eq-Decides m name).0 t ∙ sym ((bytes_eq-Decides n name).0 s) in
    let equal : slice_cmp nat_cmp m n ≡ Equal = ap (slice_cmp nat_cmp m) (sym same) ∙ tied_itself nat_list_cmp_total m in
    cc

named_alike : (n m name : List ℕ) → slice_cmp nat_cmp m n ≡ Equal → bytes_eq n name ≡ true → bytes_eq m name ≡ true
named_alike n m name equal t = ap (λ (k : List ℕ). bytes_eq k name) (exact_bytes m n equal) ∙ t

not_less : (i j : ℕ) → i < j → nat_cmp j i ≡ Less → ⊥
not_less i j lt h = grind arith

not_equal : (i j : ℕ) → i < j → nat_cmp j i ≡ Equal → ⊥
not_equal i j lt h = grind arith

undoing_touch : (name : List ℕ) (m d : Mutation) (i : ℕ) → touches_name m name ≡ true → is_undone d (part_of i m) ≡ true → touches_name d name ≡ true
undoing_touch name m DeleteRow i t u = refl
undoing_touch name (Insert n v) (DeleteRange s f) i t u = ap (is_between s f) (sym ((bytes_eq-Decides n name).0 t)) ∙ u
undoing_touch name (DeleteColumn n) (DeleteRange s f) i t u = ap (is_between s f) (sym ((bytes_eq-Decides n name).0 t)) ∙ u
undoing_touch name m d i t u = absurd (cc)

replacing_touch : (name : List ℕ) (m d : Mutation) (i j : ℕ) → i < j → part_cmp (part_of j d) (part_of i m) ≡ Equal → touches_name m name ≡ true → touches_name d name ≡ true
replacing_touch name m DeleteRow i j lt e t = refl
replacing_touch name (Insert n v) (Insert n' v') i j lt e t = named_alike n n' name e t
replacing_touch name (Insert n v) (DeleteColumn n') i j lt e t = named_alike n n' name e t
replacing_touch name (DeleteColumn n) (Insert n' v') i j lt e t = named_alike n n' name e t
replacing_touch name (DeleteColumn n) (DeleteColumn n') i j lt e t = named_alike n n' name e t
replacing_touch name (DeleteRange s f) (DeleteRange s' f') i j lt e t = absurd (not_equal i j lt e)
replacing_touch name m d i j lt e t = absurd (cc)

touch_before : (name : List ℕ) (m d : Mutation) (i j : ℕ) → i < j → touches_name m name ≡ true → touches_name d name ≡ true → is_undone d (part_of i m) ≡ false → part_cmp (part_of j d) (part_of i m) ≡ Less → ⊥
touch_before name (Insert n v) (Insert n' v') i j lt t t' u less = named n n' name t t' less
touch_before name (Insert n v) (DeleteColumn n') i j lt t t' u less = named n n' name t t' less
touch_before name (DeleteColumn n) (Insert n' v') i j lt t t' u less = named n n' name t t' less
touch_before name (DeleteColumn n) (DeleteColumn n') i j lt t t' u less = named n n' name t t' less
touch_before name (Insert n v) (DeleteRange s f) i j lt t t' u less = let other : is_between s f n ≡ true = ap (is_between s f) ((bytes_eq-Decides n name).0 t) ∙ t' in absurd (cc)
touch_before name (DeleteColumn n) (DeleteRange s f) i j lt t t' u less = let other : is_between s f n ≡ true = ap (is_between s f) ((bytes_eq-Decides n name).0 t) ∙ t' in absurd (cc)
touch_before name (DeleteRange s f) (DeleteRange s' f') i j lt t t' u less = not_less i j lt less
touch_before name DeleteRow (Insert n' v') i j lt t t' u less = absurd (cc)
touch_before name DeleteRow (DeleteColumn n') i j lt t t' u less = absurd (cc)
touch_before name DeleteRow DeleteRow i j lt t t' u less = absurd (cc)
touch_before name DeleteRow (DeleteRange s' f') i j lt t t' u less = absurd (cc)
touch_before name m d i j lt t t' u less = absurd (cc)

touches_by_last : (name : List ℕ) → GoesByTheLast (λ m. touches_name m name)
touches_by_last name = record { undoing = undoing_touch name; replacing = replacing_touch name; before = touch_before name }

abbrev strikes_name : List ℕ → Mutation → Bool
strikes_name name m = deletes_row m || ranges_over m name

undoing_strike : (name : List ℕ) (m d : Mutation) (i : ℕ) → strikes_name name m ≡ true → is_undone d (part_of i m) ≡ true → strikes_name name d ≡ true
undoing_strike name m DeleteRow i t u = refl
undoing_strike name (Insert n v) (DeleteRange s' f') i t u = absurd (cc)
undoing_strike name (DeleteColumn n) (DeleteRange s' f') i t u = absurd (cc)
undoing_strike name DeleteRow (DeleteRange s' f') i t u = absurd (cc)
undoing_strike name (DeleteRange s f) (DeleteRange s' f') i t u = absurd (cc)
undoing_strike name m d i t u = absurd (cc)

replacing_strike : (name : List ℕ) (m d : Mutation) (i j : ℕ) → i < j → part_cmp (part_of j d) (part_of i m) ≡ Equal → strikes_name name m ≡ true → strikes_name name d ≡ true
replacing_strike name m DeleteRow i j lt e t = refl
replacing_strike name (DeleteRange s f) (DeleteRange s' f') i j lt e t = absurd (not_equal i j lt e)
replacing_strike name (Insert n v) (Insert n' v') i j lt e t = absurd (cc)
replacing_strike name (Insert n v) (DeleteColumn n') i j lt e t = absurd (cc)
replacing_strike name (Insert n v) (DeleteRange s' f') i j lt e t = absurd (cc)
replacing_strike name (DeleteColumn n) (Insert n' v') i j lt e t = absurd (cc)
replacing_strike name (DeleteColumn n) (DeleteColumn n') i j lt e t = absurd (cc)
replacing_strike name (DeleteColumn n) (DeleteRange s' f') i j lt e t = absurd (cc)
replacing_strike name DeleteRow (Insert n' v') i j lt e t = absurd (cc)
replacing_strike name DeleteRow (DeleteColumn n') i j lt e t = absurd (cc)
replacing_strike name DeleteRow (DeleteRange s' f') i j lt e t = absurd (cc)
replacing_strike name (DeleteRange s f) (Insert n' v') i j lt e t = absurd (cc)
replacing_strike name (DeleteRange s f) (DeleteColumn n') i j lt e t = absurd (cc)

strike_before : (name : List ℕ) (m d : Mutation) (i j : ℕ) → i < j → strikes_name name m ≡ true → strikes_name name d ≡ true → is_undone d (part_of i m) ≡ false → part_cmp (part_of j d) (part_of i m) ≡ Less → ⊥
strike_before name (DeleteRange s f) (DeleteRange s' f') i j lt t t' u less = not_less i j lt less
strike_before name (Insert n v) (Insert n' v') i j lt t t' u less = absurd (cc)
strike_before name (Insert n v) (DeleteColumn n') i j lt t t' u less = absurd (cc)
strike_before name (Insert n v) DeleteRow i j lt t t' u less = absurd (cc)
strike_before name (Insert n v) (DeleteRange s' f') i j lt t t' u less = absurd (cc)
strike_before name (DeleteColumn n) (Insert n' v') i j lt t t' u less = absurd (cc)
strike_before name (DeleteColumn n) (DeleteColumn n') i j lt t t' u less = absurd (cc)
strike_before name (DeleteColumn n) DeleteRow i j lt t t' u less = absurd (cc)
strike_before name (DeleteColumn n) (DeleteRange s' f') i j lt t t' u less = absurd (cc)
strike_before name DeleteRow (Insert n' v') i j lt t t' u less = absurd (cc)
strike_before name DeleteRow (DeleteColumn n') i j lt t t' u less = absurd (cc)
strike_before name DeleteRow DeleteRow i j lt t t' u less = absurd (cc)
strike_before name DeleteRow (DeleteRange s' f') i j lt t t' u less = absurd (cc)
strike_before name (DeleteRange s f) (Insert n' v') i j lt t t' u less = absurd (cc)
strike_before name (DeleteRange s f) (DeleteColumn n') i j lt t t' u less = absurd (cc)
strike_before name (DeleteRange s f) DeleteRow i j lt t t' u less = absurd (cc)

strikes_by_last : (name : List ℕ) → GoesByTheLast (strikes_name name)
strikes_by_last name = record { undoing = undoing_strike name; replacing = replacing_strike name; before = strike_before name }

undoing_deletion : (m d : Mutation) (i : ℕ) → deletes_row m ≡ true → is_undone d (part_of i m) ≡ true → deletes_row d ≡ true
undoing_deletion m DeleteRow i t u = refl
undoing_deletion (Insert n v) (DeleteRange s' f') i t u = absurd (cc)
undoing_deletion (DeleteColumn n) (DeleteRange s' f') i t u = absurd (cc)
undoing_deletion DeleteRow (DeleteRange s' f') i t u = absurd (cc)
undoing_deletion (DeleteRange s f) (DeleteRange s' f') i t u = absurd (cc)
undoing_deletion m d i t u = absurd (cc)

replacing_deletion : (m d : Mutation) (i j : ℕ) → i < j → part_cmp (part_of j d) (part_of i m) ≡ Equal → deletes_row m ≡ true → deletes_row d ≡ true
replacing_deletion m DeleteRow i j lt e t = refl
replacing_deletion (Insert n v) (Insert n' v') i j lt e t = absurd (cc)
replacing_deletion (Insert n v) (DeleteColumn n') i j lt e t = absurd (cc)
replacing_deletion (Insert n v) (DeleteRange s' f') i j lt e t = absurd (cc)
replacing_deletion (DeleteColumn n) (Insert n' v') i j lt e t = absurd (cc)
replacing_deletion (DeleteColumn n) (DeleteColumn n') i j lt e t = absurd (cc)
replacing_deletion (DeleteColumn n) (DeleteRange s' f') i j lt e t = absurd (cc)
replacing_deletion DeleteRow (Insert n' v') i j lt e t = absurd (cc)
replacing_deletion DeleteRow (DeleteColumn n') i j lt e t = absurd (cc)
replacing_deletion DeleteRow (DeleteRange s' f') i j lt e t = absurd (cc)
replacing_deletion (DeleteRange s f) (Insert n' v') i j lt e t = absurd (cc)
replacing_deletion (DeleteRange s f) (DeleteColumn n') i j lt e t = absurd (cc)
replacing_deletion (DeleteRange s f) (DeleteRange s' f') i j lt e t = absurd (cc)

deletion_before : (m d : Mutation) (i j : ℕ) → i < j → deletes_row m ≡ true → deletes_row d ≡ true → is_undone d (part_of i m) ≡ false → part_cmp (part_of j d) (part_of i m) ≡ Less → ⊥
deletion_before (Insert n v) (Insert n' v') i j lt t t' u less = absurd (cc)
deletion_before (Insert n v) (DeleteColumn n') i j lt t t' u less = absurd (cc)
deletion_before (Insert n v) DeleteRow i j lt t t' u less = absurd (cc)
deletion_before (Insert n v) (DeleteRange s' f') i j lt t t' u less = absurd (cc)
deletion_before (DeleteColumn n) (Insert n' v') i j lt t t' u less = absurd (cc)
deletion_before (DeleteColumn n) (DeleteColumn n') i j lt t t' u less = absurd (cc)
deletion_before (DeleteColumn n) DeleteRow i j lt t t' u less = absurd (cc)
deletion_before (DeleteColumn n) (DeleteRange s' f') i j lt t t' u less = absurd (cc)
deletion_before DeleteRow (Insert n' v') i j lt t t' u less = absurd (cc)
deletion_before DeleteRow (DeleteColumn n') i j lt t t' u less = absurd (cc)
deletion_before DeleteRow DeleteRow i j lt t t' u less = absurd (cc)
deletion_before DeleteRow (DeleteRange s' f') i j lt t t' u less = absurd (cc)
deletion_before (DeleteRange s f) (Insert n' v') i j lt t t' u less = absurd (cc)
deletion_before (DeleteRange s f) (DeleteColumn n') i j lt t t' u less = absurd (cc)
deletion_before (DeleteRange s f) DeleteRow i j lt t t' u less = absurd (cc)
deletion_before (DeleteRange s f) (DeleteRange s' f') i j lt t t' u less = absurd (cc)

deletions_by_last : GoesByTheLast (λ m. deletes_row m)
deletions_by_last = record { undoing = undoing_deletion; replacing = replacing_deletion; before = deletion_before }

pub last_touch : (number : Row → ℕ) (n : ℕ) → IsNumbering number n → (cs : List Change) → AllByRecursion (λ (c : Change). number c.row < n) cs → (l : Location) → last_of (touches l) (values_of (keep_all number 0 [] cs)) ≡ last_of (touches l) cs
last_touch number n apart cs known l = last_kept number n apart l.row (λ m. touches_name m l.name) (touches_by_last l.name) cs known

pub last_deletion : (number : Row → ℕ) (n : ℕ) → IsNumbering number n → (cs : List Change) → AllByRecursion (λ (c : Change). number c.row < n) cs → (r : Row) → last_of (is_row_deletion r) (values_of (keep_all number 0 [] cs)) ≡ last_of (is_row_deletion r) cs
last_deletion number n apart cs known r = last_kept number n apart r (λ m. deletes_row m) deletions_by_last cs known

pub last_strike : (number : Row → ℕ) (n : ℕ) → IsNumbering number n → (cs : List Change) → AllByRecursion (λ (c : Change). number c.row < n) cs → (l : Location) → last_of (strikes l) (values_of (keep_all number 0 [] cs)) ≡ last_of (strikes l) cs
last_strike number n apart cs known l = last_kept number n apart l.row (strikes_name l.name) (strikes_by_last l.name) cs known
