-- What is left of what is kept where places between two are removed.
use Rattle.std.proofs.Common.{◌≡◌, ◌∙◌, ℕ, ap, sym, refl, Bool, true, false, List, [], ◌∷◌, arith}
use Rattle.std.specs.Prelude.{if◌then◌else◌, cond, ◌==◌, ◌&&◌, ◌||◌, not, filter}
use Rattle.std.specs.declared.cmp.Ordering.{Ordering}
use Rattle.std.specs.declared.cmp.Ordering.TheVariants.{Less, Equal, Greater}
use Rattle.std.specs.Ordering.{nat_cmp, is_eq, is_lt, is_le, is_gt, ordering_then, ordering_reverse}
use Rattle.std.specs.Cmp.Lexicographic.{slice_cmp}
use Rattle.std.specs.Map.{remove_entry}
use Rattle.std.proofs.lemmas.Bool.{eq-eqb, ne_eqb}
use Rattle.std.proofs.lemmas.Cmp.{nat_list_cmp_total}
use Rattle.std.proofs.lemmas.List.Elements.{filter_agree}
use Rattle.column_family.specs.declared.batch.Change.{Change}
use Rattle.column_family.specs.declared.batch.Mutation.{Mutation}
use Rattle.column_family.specs.declared.batch.Mutation.TheVariants.{DeleteRow, DeleteRange}
use Rattle.column_family.specs.declared.places.RowPart.{RowPart}
use Rattle.column_family.specs.declared.places.RowPart.TheVariants.{Whole, Range, Column, End}
use Rattle.column_family.specs.declared.places.Place.{Place}
use Rattle.column_family.specs.Names.{is_open, name_le}
use Rattle.column_family.specs.Places.{Placed, part_cmp, place_cmp, is_undone, is_among, last_part, after}
use Rattle.column_family.proofs.PlaceOrder.{place_total, equal_places, same_number}

-- ---- all or none of a list is left
abbrev left : (Place → Bool) → Placed → Placed
left f es = filter (λ e. not (f e.0)) es

left_all : (f : Place → Bool) → ((p : Place) → f p ≡ false) → (es : Placed) → left f es ≡ es
left_all f none [] = refl
left_all f none (e ∷ es) = rw (none e.0) (ap (λ (fs : Placed). e ∷ fs) (left_all f none es))

pub left_where_none : (f : Place → Bool) (es : Placed) → filter (λ e. f e.0) es ≡ [] → es ≡ left f es
left_where_none f [] h = refl
left_where_none f (e ∷ es) h = go (λ g. left_where_none f es g) (f e.0) h
  where
    go : (filter (λ e. f e.0) es ≡ [] → es ≡ left f es) → (b : Bool) → (if b then e ∷ filter (λ e. f e.0) es else filter (λ e. f e.0) es) ≡ []
        → e ∷ es ≡ (if not b then e ∷ left f es else left f es)
    go ih true g = absurd (cc)
    go ih false g = ap (λ (fs : Placed). e ∷ fs) (ih g)

-- the step of a loop that removes what isn't left
pub left_step : (f : Place → Bool) (p : Place) → f p ≡ true → (es : Placed) → left f (remove_entry (λ q. is_eq (place_cmp p q)) es) ≡ left f es
left_step f p h [] = refl
left_step f p h (e ∷ es) = go (left_step f p h es) (place_cmp p e.0) refl
  where
    go : left f (remove_entry (λ q. is_eq (place_cmp p q)) es) ≡ left f es → (o : Ordering) → place_cmp p e.0 ≡ o
        → left f (cond (is_eq o) es (e ∷ remove_entry (λ q. is_eq (place_cmp p q)) es)) ≡ left f (e ∷ es)
    go ih Less u = ap (λ (fs : Placed). if not (f e.0) then e ∷ fs else fs) ih
    go ih Equal u = let gone : f e.0 ≡ true = ap f (sym (equal_places p e.0 u)) ∙ h in rw gone refl
    go ih Greater u = ap (λ (fs : Placed). if not (f e.0) then e ∷ fs else fs) ih

-- ---- places between two
pub onwards : (low high : Place) → is_lt (place_cmp high low) ≡ false → is_gt (place_cmp low high) ≡ false
onwards low high h = go (place_cmp high low) h (place_total.antisymm low high)
  where
    go : (o : Ordering) → is_lt o ≡ false → place_cmp low high ≡ ordering_reverse o → is_gt (place_cmp low high) ≡ false
    go Less h e = absurd (cc)
    go Equal h e = ap is_gt e
    go Greater h e = ap is_gt e

at_or_after : (o : Ordering) → is_gt o ≡ false → is_le o ≡ true
at_or_after Less h = refl
at_or_after Equal h = refl
at_or_after Greater h = absurd (cc)

at_or_before : (o : Ordering) → is_gt o ≡ false → not (is_lt (ordering_reverse o)) ≡ true
at_or_before Less h = refl
at_or_before Equal h = refl
at_or_before Greater h = absurd (cc)

pub among : (low high p : Place) → is_gt (place_cmp low p) ≡ false → is_gt (place_cmp p high) ≡ false → is_among low high p ≡ true
among low high p h g =
    rw (at_or_after (place_cmp low p) h)
    (ap (λ (o : Ordering). not (is_lt o)) (place_total.antisymm high p) ∙ at_or_before (place_cmp p high) g)

none_among : (low high : Place) → place_cmp high low ≡ Less → (p : Place) → is_among low high p ≡ false
none_among low high h p = go (place_cmp low p) refl
  where
    behind : (p : Place) → place_cmp high p ≡ Less → not (is_lt (place_cmp high p)) ≡ false
    behind p e = ap (λ (o : Ordering). not (is_lt o)) e

    go : (o : Ordering) → place_cmp low p ≡ o → (is_le o && not (is_lt (place_cmp high p))) ≡ false
    go Less e = behind p (place_total.trans high low p h e)
    go Equal e = behind p (ap (place_cmp high) (sym (equal_places low p e)) ∙ h)
    go Greater e = refl

is_less : (o : Ordering) → is_lt o ≡ true → o ≡ Less
is_less Less h = refl
is_less Equal h = absurd (cc)
is_less Greater h = absurd (cc)

-- between places that stand the other way round there is none
pub left_backwards : (low high : Place) → is_lt (place_cmp high low) ≡ true → (es : Placed) → es ≡ left (is_among low high) es
left_backwards low high h es = sym (left_all (is_among low high) (none_among low high (is_less (place_cmp high low) h)) es)

-- ---- the places of a row, and of a range of its columns
below : (i row : ℕ) → nat_cmp row i ≡ Less → i ≡ row → ⊥
below i row h e = grind arith

above : (i row : ℕ) → nat_cmp row i ≡ Greater → i ≡ row → ⊥
above i row h e = grind arith

in_one_row : (row i : ℕ) (o u : Ordering) → (is_le (ordering_then (nat_cmp row i) o) && not (is_lt (ordering_then (nat_cmp row i) u))) ≡ (i == row && (is_le o && not (is_lt u)))
in_one_row row i o u = go (nat_cmp row i) refl
  where
    go : (x : Ordering) → nat_cmp row i ≡ x → (is_le (ordering_then x o) && not (is_lt (ordering_then x u))) ≡ (i == row && (is_le o && not (is_lt u)))
    go Less h = let apart : (i == row) ≡ false = ne_eqb i row (λ e. below i row h e) in rw apart refl
    go Equal h = let same : (i == row) ≡ true = eq-eqb i row (sym (same_number row i h)) in rw same refl
    go Greater h = let apart : (i == row) ≡ false = ne_eqb i row (λ e. above i row h e) in rw apart refl

of_row : (p : RowPart) → (is_le (part_cmp Whole p) && not (is_lt (part_cmp End p))) ≡ true
of_row Whole = refl
of_row (Range i) = refl
of_row (Column n) = refl
of_row End = refl

above_not : (o : Ordering) → not (is_lt (ordering_reverse o)) ≡ is_le o
above_not Less = refl
above_not Equal = refl
above_not Greater = refl

from_start : (start n : List ℕ) → is_le (slice_cmp nat_cmp start n) ≡ (is_open start || name_le start n)
from_start [] [] = refl
from_start [] (x ∷ xs) = refl
from_start (x ∷ xs) n = refl

of_range : (start finish : List ℕ) (p : RowPart) → (is_le (part_cmp (Column start) p) && not (is_lt (part_cmp (last_part finish) p))) ≡ is_undone (DeleteRange start finish) p
of_range start [] Whole = refl
of_range start [] (Range i) = refl
of_range start [] (Column n) = ap (λ (b : Bool). b && true) (from_start start n)
of_range start [] End = refl
of_range start (x ∷ xs) Whole = refl
of_range start (x ∷ xs) (Range i) = refl
of_range start (x ∷ xs) (Column n) =
    ap (λ (b : Bool). b && not (is_lt (slice_cmp nat_cmp (x ∷ xs) n))) (from_start start n)
    ∙ ap (λ (b : Bool). (is_open start || name_le start n) && b) (ap (λ (o : Ordering). not (is_lt o)) (nat_list_cmp_total.antisymm (x ∷ xs) n) ∙ above_not (slice_cmp nat_cmp n (x ∷ xs)))
of_range start (x ∷ xs) End = refl

left_alike : (f g : Place → Bool) → ((p : Place) → f p ≡ g p) → (es : Placed) → left f es ≡ left g es
left_alike f g same es = filter_agree _ _ (λ (e : Place × Change). ap (λ (b : Bool). not b) (same e.0)) es

pub row_left : (row : ℕ) (low high : Place) → low ≡ record { row = row; part = Whole } → high ≡ record { row = row; part = End } → (es : Placed) → left (is_among low high) es ≡ after row DeleteRow es
row_left row low high l h es =
    ap (λ (p : Place). left (is_among p high) es) l ∙ (ap (λ (p : Place). left (is_among (record { row = row; part = Whole }) p) es) h
    ∙ left_alike (is_among (record { row = row; part = Whole }) (record { row = row; part = End })) (λ p. p.row == row && is_undone DeleteRow p.part)
    (λ p. in_one_row row p.row (part_cmp Whole p.part) (part_cmp End p.part) ∙ ap (λ (b : Bool). p.row == row && b) (of_row p.part)) es)

pub range_left : (row : ℕ) (start finish : List ℕ) (low high : Place) → low ≡ record { row = row; part = Column start } → high ≡ record { row = row; part = last_part finish } → (es : Placed) → left (is_among low high) es ≡ after row (DeleteRange start finish) es
range_left row start finish low high l h es =
    ap (λ (p : Place). left (is_among p high) es) l ∙ (ap (λ (p : Place). left (is_among (record { row = row; part = Column start }) p) es) h
    ∙ left_alike (is_among (record { row = row; part = Column start }) (record { row = row; part = last_part finish })) (λ p. p.row == row && is_undone (DeleteRange start finish) p.part)
    (λ p. in_one_row row p.row (part_cmp (Column start) p.part) (part_cmp (last_part finish) p.part) ∙ ap (λ (b : Bool). p.row == row && b) (of_range start finish p.part)) es)

-- a mutation of one column undoes nothing at another place
pub all_left : (row : ℕ) (m : Mutation) → ((p : RowPart) → is_undone m p ≡ false) → (es : Placed) → es ≡ after row m es
all_left row m none es = sym (left_all (λ p. p.row == row && is_undone m p.part) (λ p. both_false (p.row == row) (is_undone m p.part) (none p.part)) es)
  where
    both_false : (a b : Bool) → b ≡ false → (a && b) ≡ false
    both_false true b h = h
    both_false false b h = refl
