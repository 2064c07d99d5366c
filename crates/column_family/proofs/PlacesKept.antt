-- What is kept of a batch stands at its places, and these ascend.
use Rattle.std.proofs.Common.{◌≡◌, ℕ, ◌+◌, ◌<◌, ap, ◌∙◌, sym, refl, Bool, true, false, List, [], ◌∷◌, arith}
use Rattle.std.specs.Prelude.{if◌then◌else◌, ◌==◌, ◌&&◌, not, filter}
use Rattle.std.specs.List.{AllByRecursion}
use Rattle.std.specs.List.Sorted.{IsStrictlySortedBy}
use Rattle.std.specs.declared.cmp.Ordering.{Ordering}
use Rattle.std.specs.declared.cmp.Ordering.TheVariants.{Less, Equal, Greater}
use Rattle.std.specs.Ordering.{ordering_reverse, match_ordering}
use Rattle.std.specs.Map.{keys_of}
use Rattle.std.specs.BTreeMap.{insert_entry}
use Rattle.column_family.specs.declared.batch.Row.{Row}
use Rattle.column_family.specs.declared.batch.Change.{Change}
use Rattle.column_family.specs.declared.batch.Mutation.{Mutation}
use Rattle.column_family.specs.declared.places.Place.{Place}
use Rattle.column_family.specs.Places.{Placed, part_of, place_cmp, is_undone, after, keep, keep_all}
use Rattle.column_family.proofs.PlaceOrder.{place_total, equal_places}

pub each_more : {X : Type 0} (P Q : X → Type 0) → ((x : X) → P x → Q x) → (xs : List X) → AllByRecursion P xs → AllByRecursion Q xs
each_more P Q f [] h = tt
each_more P Q f (x ∷ xs) h = (f x h.0, each_more P Q f xs h.1)

pub each_left : {X : Type 0} (P : X → Type 0) (b : X → Bool) (xs : List X) → AllByRecursion P xs → AllByRecursion P (filter b xs)
each_left P b [] h = tt
each_left {X} P b (x ∷ xs) h = go (each_left P b xs h.1) (b x)
  where
    go : AllByRecursion P (filter b xs) → (t : Bool) → AllByRecursion P (if t then x ∷ filter b xs else filter b xs)
    go ih true = (h.0, ih)
    go ih false = ih

-- ---- changes at their places
-- the change stands at its place, before so many changes of the batch, and its row is one of those that are numbered
abbrev pub IsPlaced : (Row → ℕ) → ℕ → ℕ → Place × Change → Type 0
IsPlaced number n i e = (e.0.row ≡ number e.1.row) × (number e.1.row < n) × ((j : ℕ) × (j < i) × (e.0.part ≡ part_of j e.1.mutation))

-- each numbered row has a number of its own
abbrev pub IsNumbering : (Row → ℕ) → ℕ → Type 0
IsNumbering number n = (r s : Row) → number r < n → number r ≡ number s → r ≡ s

-- the place of a change that stands here in the batch
abbrev pub at_place : (Row → ℕ) → ℕ → Change → Place
at_place number i c = record { row = number c.row; part = part_of i c.mutation }

module _ (number : Row → ℕ) (n : ℕ) where
  pub placed_after : (row : ℕ) (m : Mutation) (i : ℕ) (es : Placed) → AllByRecursion (IsPlaced number n i) es → AllByRecursion (IsPlaced number n i) (after row m es)
  placed_after row m i es all = each_left (IsPlaced number n i) (λ e. not (e.0.row == row && is_undone m e.0.part)) es all

  placed_put : (i : ℕ) (k : Place) (c : Change) → IsPlaced number n i (k, c) → (es : Placed) → AllByRecursion (IsPlaced number n i) es → AllByRecursion (IsPlaced number n i) (insert_entry place_cmp es k c)
  placed_put i k c placed [] all = (placed, tt)
  placed_put i k c placed (e ∷ es) all = go (placed_put i k c placed es all.1) (place_cmp k e.0) refl
    where
      go : AllByRecursion (IsPlaced number n i) (insert_entry place_cmp es k c) → (o : Ordering) → place_cmp k e.0 ≡ o → AllByRecursion (IsPlaced number n i) (match_ordering o ((k, c) ∷ e ∷ es) ((e.0, c) ∷ es) (e ∷ insert_entry place_cmp es k c))
      go ih Less f = (placed, all)
      go ih Equal f = ((sym (ap (λ (p : Place). p.row) (equal_places k e.0 f)) ∙ placed.0, placed.1, (placed.2.0, placed.2.1, sym (ap (λ (p : Place). p.part) (equal_places k e.0 f)) ∙ placed.2.2)), all.1)
      go ih Greater f = (all.0, ih)

  pub placed_keep : (c : Change) (i : ℕ) → number c.row < n → (es : Placed) → AllByRecursion (IsPlaced number n i) es → AllByRecursion (IsPlaced number n (i + 1)) (keep (number c.row) i es c)
  placed_keep c i known es all =
      let later : AllByRecursion (IsPlaced number n (i + 1)) (after (number c.row) c.mutation es) =
      each_more (IsPlaced number n i) (IsPlaced number n (i + 1)) (λ e p. let below = p.2.1 in (p.0, p.1, (p.2.0, omega arith, p.2.2))) (after (number c.row) c.mutation es) (placed_after (number c.row) c.mutation i es all) in
      placed_put (i + 1) (at_place number i c) c (refl, known, (i, omega arith, refl)) (after (number c.row) c.mutation es) later

  pub placed_all : (i : ℕ) (es : Placed) → AllByRecursion (IsPlaced number n i) es → (cs : List Change) → AllByRecursion (λ (c : Change). number c.row < n) cs → (j : ℕ) × AllByRecursion (IsPlaced number n j) (keep_all number i es cs)
  placed_all i es all [] known = (i, all)
  placed_all i es all (c ∷ cs) known = placed_all (i + 1) (keep (number c.row) i es c) (placed_keep c i known.0 es all) cs known.1

-- ---- the places ascend
each_put : (P : Place → Type 0) (k : Place) (c : Change) → P k → (es : Placed) → AllByRecursion P (keys_of es) → AllByRecursion P (keys_of (insert_entry place_cmp es k c))
each_put P k c h [] all = (h, tt)
each_put P k c h (e ∷ es) all = go (each_put P k c h es all.1) (place_cmp k e.0)
  where
    go : AllByRecursion P (keys_of (insert_entry place_cmp es k c)) → (o : Ordering) → AllByRecursion P (keys_of (match_ordering o ((k, c) ∷ e ∷ es) ((e.0, c) ∷ es) (e ∷ insert_entry place_cmp es k c)))
    go ih Less = (h, all)
    go ih Equal = all
    go ih Greater = (all.0, ih)

sorted_put : (k : Place) (c : Change) (es : Placed) → IsStrictlySortedBy place_cmp (keys_of es) → IsStrictlySortedBy place_cmp (keys_of (insert_entry place_cmp es k c))
unfolding IsStrictlySortedBy
sorted_put k c [] s = (tt, tt)
sorted_put k c (e ∷ es) s = go (sorted_put k c es s.1) (place_cmp k e.0) refl
  where
    go : IsStrictlySortedBy place_cmp (keys_of (insert_entry place_cmp es k c)) → (o : Ordering) → place_cmp k e.0 ≡ o → IsStrictlySortedBy place_cmp (keys_of (match_ordering o ((k, c) ∷ e ∷ es) ((e.0, c) ∷ es) (e ∷ insert_entry place_cmp es k c)))
    go ih Less f = ((f, each_more (λ (q : Place). place_cmp e.0 q ≡ Less) (λ (q : Place). place_cmp k q ≡ Less) (λ q g. place_total.trans k e.0 q f g) (keys_of es) s.0), s)
    go ih Equal f = s
    go ih Greater f = (each_put (λ (q : Place). place_cmp e.0 q ≡ Less) k c (place_total.antisymm e.0 k ∙ ap ordering_reverse f) es s.0, ih)

keys_left : (P : Place → Type 0) (b : Place × Change → Bool) (es : Placed) → AllByRecursion P (keys_of es) → AllByRecursion P (keys_of (filter b es))
keys_left P b [] h = tt
keys_left P b (e ∷ es) h = go (keys_left P b es h.1) (b e)
  where
    go : AllByRecursion P (keys_of (filter b es)) → (t : Bool) → AllByRecursion P (keys_of (if t then e ∷ filter b es else filter b es))
    go ih true = (h.0, ih)
    go ih false = ih

sorted_left : (b : Place × Change → Bool) (es : Placed) → IsStrictlySortedBy place_cmp (keys_of es) → IsStrictlySortedBy place_cmp (keys_of (filter b es))
unfolding IsStrictlySortedBy
sorted_left b [] s = tt
sorted_left b (e ∷ es) s = go (sorted_left b es s.1) (b e)
  where
    go : IsStrictlySortedBy place_cmp (keys_of (filter b es)) → (t : Bool) → IsStrictlySortedBy place_cmp (keys_of (if t then e ∷ filter b es else filter b es))
    go ih true = (keys_left (λ (q : Place). place_cmp e.0 q ≡ Less) b es s.0, ih)
    go ih false = ih

pub sorted_after : (row : ℕ) (m : Mutation) (es : Placed) → IsStrictlySortedBy place_cmp (keys_of es) → IsStrictlySortedBy place_cmp (keys_of (after row m es))
sorted_after row m es s = sorted_left (λ e. not (e.0.row == row && is_undone m e.0.part)) es s

pub sorted_keep : (row i : ℕ) (es : Placed) (c : Change) → IsStrictlySortedBy place_cmp (keys_of es) → IsStrictlySortedBy place_cmp (keys_of (keep row i es c))
sorted_keep row i es c s = sorted_put (record { row = row; part = part_of i c.mutation }) c (after row c.mutation es) (sorted_after row c.mutation es s)

pub sorted_all : (number : Row → ℕ) (i : ℕ) (es : Placed) → IsStrictlySortedBy place_cmp (keys_of es) → (cs : List Change) → IsStrictlySortedBy place_cmp (keys_of (keep_all number i es cs))
sorted_all number i es s [] = s
sorted_all number i es s (c ∷ cs) = sorted_all number (i + 1) (keep (number c.row) i es c) (sorted_keep (number c.row) i es c s) cs
