-- What is kept of a batch stands in the order of the normal form.
use Rattle.std.proofs.Common.{◌≡◌, ◌∙◌, ℕ, suc, ◌+◌, ◌<◌, ap, sym, subst, refl, inl, inr, Bool, true, false, List, [], ◌∷◌, length, arith}
use Rattle.std.specs.Prelude.{if◌then◌else◌, ◌⊎◌, AllPairs}
use Rattle.std.specs.List.{AllByRecursion}
use Rattle.std.specs.List.Sorted.{IsStrictlySortedBy}
use Rattle.std.specs.Str.{bytes_eq}
use Rattle.std.specs.declared.cmp.Ordering.{Ordering}
use Rattle.std.specs.declared.cmp.Ordering.TheVariants.{Less, Equal, Greater}
use Rattle.std.specs.Ordering.{nat_cmp, ordering_then}
use Rattle.std.specs.Map.{keys_of, values_of}
use Rattle.std.proofs.lemmas.List.Elements.{All-from_recursion}
use Rattle.std.proofs.lemmas.List.Kept.{AllPairs-cons}
use Rattle.std.proofs.lemmas.Slice.Eq.{bytes_eq-Decides}
use Rattle.column_family.specs.declared.batch.Row.{Row}
use Rattle.column_family.specs.declared.batch.Change.{Change}
use Rattle.column_family.specs.declared.batch.Mutation.{Mutation}
use Rattle.column_family.specs.declared.batch.Mutation.TheVariants.{Insert, DeleteColumn, DeleteRow, DeleteRange}
use Rattle.column_family.specs.declared.places.RowPart.{RowPart}
use Rattle.column_family.specs.declared.places.Place.{Place}
use Rattle.column_family.specs.Location.{Location, is_same_row, strikes}
use Rattle.column_family.specs.History.{last_of}
use Rattle.column_family.specs.Normal.{changes_before, StandsBefore, IsInOrderOf, IsNormal, StandsFor}
use Rattle.column_family.specs.Places.{Placed, part_of, part_cmp, place_cmp, keep_all, normal_of}
use Rattle.column_family.proofs.Options.{by_cases}
use Rattle.column_family.proofs.PlaceOrder.{same_number}
use Rattle.column_family.proofs.PlacesKept.{each_more, IsPlaced, IsNumbering, placed_all, sorted_all}
use Rattle.column_family.proofs.Kept.{one_row, last_touch, last_deletion, last_strike}
use Rattle.column_family.proofs.Standing.{stands_for}

-- ---- the places of a batch's rows number them
pub row_itself : (r s : Row) → r ≡ s → is_same_row r s ≡ true
row_itself r s e =
    let f : bytes_eq r.family s.family ≡ true = (bytes_eq-Decides r.family s.family).1 (ap (λ (t : Row). t.family) e) in
    let k : bytes_eq r.key s.key ≡ true = (bytes_eq-Decides r.key s.key).1 (ap (λ (t : Row). t.key) e) in
    rw k f

pub first_apart : (cs : List Change) → IsNumbering (changes_before cs) (length cs)
first_apart [] r s h e = absurd (omega arith)
first_apart (c ∷ cs) r s h e = go (λ a b. first_apart cs r s a b) (is_same_row r c.row) (is_same_row s c.row) refl refl h e
  where
    go : (changes_before cs r < length cs → changes_before cs r ≡ changes_before cs s → r ≡ s) → (p q : Bool) → is_same_row r c.row ≡ p → is_same_row s c.row ≡ q → (if p then 0 else changes_before cs r + 1) < suc (length cs) → (if p then 0 else changes_before cs r + 1) ≡ (if q then 0 else changes_before cs s + 1) → r ≡ s
    go ih true true f g h e = one_row r c.row f ∙ sym (one_row s c.row g)
    go ih true false f g h e = absurd (omega arith)
    go ih false true f g h e = absurd (omega arith)
    go ih false false f g h e = ih (omega arith) (omega arith)

pub first_below : (cs : List Change) → AllByRecursion (λ (c : Change). changes_before cs c.row < length cs) cs
first_below [] = tt
first_below (x ∷ xs) =
    let itself = row_itself x.row x.row refl in
    (rw itself (omega arith), each_more (λ (c : Change). changes_before xs c.row < length xs) (λ (c : Change). changes_before (x ∷ xs) c.row < suc (length xs)) (λ c h. more (is_same_row c.row x.row) (changes_before xs c.row) (length xs) h) xs (first_below xs))
  where
    more : (b : Bool) (i n : ℕ) → i < n → (if b then 0 else i + 1) < suc n
    more true i n h = omega arith
    more false i n h = omega arith

-- ---- the order of places is that of the normal form
abbrev Precedes : (Row → ℕ) → Change → Change → Type 0
Precedes number c d = (number c.row < number d.row) ⊎ ((c.row ≡ d.row) × StandsBefore c.mutation d.mutation)

abbrev Pairs : (Change → Change → Type 0) → List Change → Type 0
Pairs R [] = Unit {0}
Pairs R (x ∷ xs) = AllByRecursion (R x) xs × Pairs R xs

stands_before : (m m' : Mutation) (i j : ℕ) → part_cmp (part_of i m) (part_of j m') ≡ Less → StandsBefore m m'
stands_before (Insert n v) (Insert n' v') i j less = less
stands_before (Insert n v) (DeleteColumn n') i j less = less
stands_before (Insert n v) DeleteRow i j less = absurd (cc)
stands_before (Insert n v) (DeleteRange s' f') i j less = absurd (cc)
stands_before (DeleteColumn n) (Insert n' v') i j less = less
stands_before (DeleteColumn n) (DeleteColumn n') i j less = less
stands_before (DeleteColumn n) DeleteRow i j less = absurd (cc)
stands_before (DeleteColumn n) (DeleteRange s' f') i j less = absurd (cc)
stands_before DeleteRow (Insert n' v') i j less = tt
stands_before DeleteRow (DeleteColumn n') i j less = tt
stands_before DeleteRow DeleteRow i j less = absurd (cc)
stands_before DeleteRow (DeleteRange s' f') i j less = tt
stands_before (DeleteRange s f) (Insert n' v') i j less = tt
stands_before (DeleteRange s f) (DeleteColumn n') i j less = tt
stands_before (DeleteRange s f) DeleteRow i j less = absurd (cc)
stands_before (DeleteRange s f) (DeleteRange s' f') i j less = tt

below_number : (i j : ℕ) → nat_cmp i j ≡ Less → i < j
below_number i j h = grind arith

module _ (number : Row → ℕ) (n : ℕ) (apart : IsNumbering number n) (i : ℕ) where
  precedes : (e f : Place × Change) → IsPlaced number n i e → IsPlaced number n i f → place_cmp e.0 f.0 ≡ Less → Precedes number e.1 f.1
  precedes e f p q less = go (nat_cmp e.0.row f.0.row) refl less
    where
      go : (o : Ordering) → nat_cmp e.0.row f.0.row ≡ o → ordering_then o (part_cmp e.0.part f.0.part) ≡ Less → Precedes number e.1 f.1
      go Less h g = let lt = below_number e.0.row f.0.row h in let a = p.0 in let b = q.0 in inl (omega arith)
      go Equal h g =
          let same : number e.1.row ≡ number f.1.row = sym p.0 ∙ same_number e.0.row f.0.row h ∙ q.0 in
          let parts : part_cmp (part_of p.2.0 e.1.mutation) (part_of q.2.0 f.1.mutation) ≡ Less =
          ap (λ (x : RowPart). part_cmp x (part_of q.2.0 f.1.mutation)) (sym p.2.2) ∙ (ap (part_cmp e.0.part) (sym q.2.2) ∙ g) in
          inr (apart e.1.row f.1.row p.1 same, stands_before e.1.mutation f.1.mutation p.2.0 q.2.0 parts)
      go Greater h g = absurd (cc)

  precedes_each : (e : Place × Change) → IsPlaced number n i e → (es : Placed) → AllByRecursion (IsPlaced number n i) es → AllByRecursion (λ (q : Place). place_cmp e.0 q ≡ Less) (keys_of es) → AllByRecursion (Precedes number e.1) (values_of es)
  precedes_each e p [] all less = tt
  precedes_each e p (f ∷ es) all less = (precedes e f p all.0 less.0, precedes_each e p es all.1 less.1)

  in_order : (es : Placed) → AllByRecursion (IsPlaced number n i) es → IsStrictlySortedBy place_cmp (keys_of es) → Pairs (Precedes number) (values_of es)
  unfolding IsStrictlySortedBy
  in_order [] all s = tt
  in_order (e ∷ es) all s = (precedes_each e all.0 es all.1 s.0, in_order es all.1 s.1)

-- ---- what stands in the order of a batch stands in its own
pairs_more : (A B C : Change → Change → Type 0) (H : Change → Type 0) → ((c d : Change) → H c → A c d → B c d → C c d) → (xs : List Change) → AllByRecursion H xs → Pairs A xs → Pairs B xs → Pairs C xs
pairs_more A B C H f [] h a b = tt
pairs_more A B C H f (x ∷ xs) h a b = (heads xs a.0 b.0, pairs_more A B C H f xs h.1 a.1 b.1)
  where
    heads : (ys : List Change) → AllByRecursion (A x) ys → AllByRecursion (B x) ys → AllByRecursion (C x) ys
    heads [] a b = tt
    heads (y ∷ ys) a b = (f x y h.0 a.0 b.0, heads ys a.1 b.1)

own_head : (number : Row → ℕ) (x : Change) (xs : List Change) (d : Change) → Precedes number x d → Precedes (changes_before (x ∷ xs)) x d
own_head number x xs d (inr h) = inr h
own_head number x xs d (inl h) =
    let itself = row_itself x.row x.row refl in
    by_cases (is_same_row d.row x.row)
    (λ t. let same = ap number (one_row d.row x.row t) in absurd (omega arith))
    (λ t. inl (rw (itself, t) (omega arith)))

own_pair : (number : Row → ℕ) (x : Change) (xs : List Change) (c d : Change) → Precedes number x c → Precedes number c d → Precedes (changes_before xs) c d → Precedes (changes_before (x ∷ xs)) c d
own_pair number x xs c d h a (inr e) = inr e
own_pair number x xs c d h a (inl lt) = go (is_same_row c.row x.row) (is_same_row d.row x.row) refl refl
  where
    numbers : (e : d.row ≡ x.row) → (c.row ≡ x.row → ⊥) → Precedes number x c → Precedes number c d → ⊥
    numbers e other (inr p) q = other (sym p.0)
    numbers e other (inl p) (inr q) = other (q.0 ∙ e)
    numbers e other (inl p) (inl q) = let same = ap number e in omega arith

    go : (p q : Bool) → is_same_row c.row x.row ≡ p → is_same_row d.row x.row ≡ q → Precedes (changes_before (x ∷ xs)) c d
    go true true f g = let same = ap (changes_before xs) (one_row c.row x.row f ∙ sym (one_row d.row x.row g)) in absurd (omega arith)
    go true false f g = inl (rw (f, g) (omega arith))
    go false true f g = absurd (numbers (one_row d.row x.row g) (λ e. let t = row_itself c.row x.row e in cc) h a)
    go false false f g = inl (rw (f, g) (omega arith))

own_order : (number : Row → ℕ) (xs : List Change) → Pairs (Precedes number) xs → Pairs (Precedes (changes_before xs)) xs
own_order number [] h = tt
own_order number (x ∷ xs) h = (
  each_more (Precedes number x) (Precedes (changes_before (x ∷ xs)) x) (λ d p. own_head number x xs d p) xs h.0,
  pairs_more (Precedes number) (Precedes (changes_before xs)) (Precedes (changes_before (x ∷ xs))) (Precedes number x) (λ c d p a b. own_pair number x xs c d p a b) xs h.0 h.1 (own_order number xs h.1),
)

all_pairs : (R : Change → Change → Type 0) (xs : List Change) → Pairs R xs → AllPairs R xs
all_pairs R [] h = λ i j d lt below. absurd (omega arith)
all_pairs R (x ∷ xs) h = AllPairs-cons R x xs (All-from_recursion (R x) xs h.0) (all_pairs R xs h.1)

-- ---- the theorems on the normal form
normal_pairs : (batch : List Change) → Pairs (Precedes (changes_before batch)) (normal_of batch)
unfolding IsStrictlySortedBy
normal_pairs batch =
    let placed = placed_all (changes_before batch) (length batch) 0 [] tt batch (first_below batch) in
    in_order (changes_before batch) (length batch) (first_apart batch) placed.0 (keep_all (changes_before batch) 0 [] batch) placed.1 (sorted_all (changes_before batch) 0 [] tt batch)

-- rows stand in it in the order in which they first occur in the batch
pub normal_order : (batch : List Change) → IsInOrderOf batch (normal_of batch)
normal_order batch = all_pairs (Precedes (changes_before batch)) (normal_of batch) (normal_pairs batch)

-- it has the form
pub normal_form : (batch : List Change) → IsNormal (normal_of batch)
normal_form batch = all_pairs (Precedes (changes_before (normal_of batch))) (normal_of batch) (own_order (changes_before batch) (normal_of batch) (normal_pairs batch))

-- its last deletion that strikes a location is that of the batch
pub normal_strikes : (batch : List Change) (l : Location) → last_of (strikes l) (normal_of batch) ≡ last_of (strikes l) batch
normal_strikes batch = last_strike (changes_before batch) (length batch) (first_apart batch) batch (first_below batch)

-- it stands for the batch
pub normal_stands : (batch : List Change) → StandsFor (normal_of batch) batch
normal_stands batch =
    stands_for (normal_of batch) batch
    (last_touch (changes_before batch) (length batch) (first_apart batch) batch (first_below batch))
    (last_deletion (changes_before batch) (length batch) (first_apart batch) batch (first_below batch))
    (normal_strikes batch)

-- the same of a batch that is the normal form
pub kept_order : (batch kept : List Change) → kept ≡ normal_of batch → IsInOrderOf batch kept
kept_order batch kept e = subst (λ (cs : List Change). IsInOrderOf batch cs) (sym e) (normal_order batch)

pub kept_normal : (batch kept : List Change) → kept ≡ normal_of batch → IsNormal kept
kept_normal batch kept e = subst (λ (cs : List Change). IsNormal cs) (sym e) (normal_form batch)

pub kept_stands : (batch kept : List Change) → kept ≡ normal_of batch → StandsFor kept batch
kept_stands batch kept e = subst (λ (cs : List Change). StandsFor cs batch) (sym e) (normal_stands batch)
