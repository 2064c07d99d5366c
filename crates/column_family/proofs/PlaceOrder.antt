-- Places are in a total order, and equal where they compare as equal.
use Rattle.std.proofs.Common.{◌≡◌, ◌∙◌, ℕ, ap, sym, subst, refl, List, [], arith}
use Rattle.std.specs.Cmp.{IsTotalOrder}
use Rattle.std.specs.Cmp.Lexicographic.{slice_cmp}
use Rattle.std.specs.Ordering.{nat_cmp, ordering_then}
use Rattle.std.specs.declared.cmp.Ordering.{Ordering}
use Rattle.std.specs.declared.cmp.Ordering.TheVariants.{Less, Equal, Greater}
use Rattle.std.proofs.lemmas.Cmp.{on_total, then_total, tied_itself, nat_cmp_total, nat_list_cmp_total}
use Rattle.std.proofs.lemmas.Map.Lookups.{exact_bytes}
use Rattle.column_family.specs.declared.places.RowPart.{RowPart}
use Rattle.column_family.specs.declared.places.RowPart.TheVariants.{Whole, Range, Column, End}
use Rattle.column_family.specs.declared.places.Place.{Place}
use Rattle.column_family.specs.Places.{part_cmp, place_cmp}

-- ---- a part as its kind, a number and a name
abbrev kind : RowPart → ℕ
kind Whole = 0
kind (Range i) = 1
kind (Column n) = 2
kind End = 3

abbrev number : RowPart → ℕ
number (Range i) = i
number p = 0

abbrev name : RowPart → List ℕ
name (Column n) = n
name p = []

abbrev by_kind : RowPart → RowPart → Ordering
by_kind p q = ordering_then (nat_cmp (kind p) (kind q)) (ordering_then (nat_cmp (number p) (number q)) (slice_cmp nat_cmp (name p) (name q)))

then_equal : (o : Ordering) → ordering_then o Equal ≡ o
then_equal Less = refl
then_equal Equal = refl
then_equal Greater = refl

as_kinds : (p q : RowPart) → by_kind p q ≡ part_cmp p q
as_kinds Whole Whole = refl
as_kinds Whole (Range j) = refl
as_kinds Whole (Column m) = refl
as_kinds Whole End = refl
as_kinds (Range i) Whole = refl
as_kinds (Range i) (Range j) = then_equal (nat_cmp i j)
as_kinds (Range i) (Column m) = refl
as_kinds (Range i) End = refl
as_kinds (Column n) Whole = refl
as_kinds (Column n) (Range j) = refl
as_kinds (Column n) (Column m) = refl
as_kinds (Column n) End = refl
as_kinds End Whole = refl
as_kinds End (Range j) = refl
as_kinds End (Column m) = refl
as_kinds End End = refl

part_total : IsTotalOrder part_cmp
part_total =
    subst IsTotalOrder (λ i p q. as_kinds p q i)
    (then_total (on_total kind nat_cmp_total) (then_total (on_total number nat_cmp_total) (on_total name nat_list_cmp_total)))

pub place_total : IsTotalOrder place_cmp
place_total = then_total (on_total (λ (p : Place). p.row) nat_cmp_total) (on_total (λ (p : Place). p.part) part_total)

pub same_number : (a b : ℕ) → nat_cmp a b ≡ Equal → a ≡ b
same_number a b h = grind arith

equal_parts : (p q : RowPart) → part_cmp p q ≡ Equal → p ≡ q
equal_parts Whole Whole h = refl
equal_parts Whole (Range j) h = absurd (cc)
equal_parts Whole (Column m) h = absurd (cc)
equal_parts Whole End h = absurd (cc)
equal_parts (Range i) Whole h = absurd (cc)
equal_parts (Range i) (Range j) h = ap (λ (k : ℕ). Range k) (same_number i j h)
equal_parts (Range i) (Column m) h = absurd (cc)
equal_parts (Range i) End h = absurd (cc)
equal_parts (Column n) Whole h = absurd (cc)
equal_parts (Column n) (Range j) h = absurd (cc)
equal_parts (Column n) (Column m) h = ap (λ (k : List ℕ). Column k) (exact_bytes n m h)
equal_parts (Column n) End h = absurd (cc)
equal_parts End Whole h = absurd (cc)
equal_parts End (Range j) h = absurd (cc)
equal_parts End (Column m) h = absurd (cc)
equal_parts End End h = refl

both_equal : (a b : Ordering) → ordering_then a b ≡ Equal → (a ≡ Equal) × (b ≡ Equal)
both_equal Less b h = absurd (cc)
both_equal Equal b h = (refl, h)
both_equal Greater b h = absurd (cc)

pub equal_places : (p q : Place) → place_cmp p q ≡ Equal → p ≡ q
equal_places p q h =
    let e = both_equal (nat_cmp p.row q.row) (part_cmp p.part q.part) h in
    let row = same_number p.row q.row e.0 in
    let part = equal_parts p.part q.part e.1 in
    λ i. record { row = row i; part = part i }

-- places of one row are in the order of their parts
pub in_row : (p q : Place) → p.row ≡ q.row → place_cmp p q ≡ part_cmp p.part q.part
in_row p q e =
    ap (λ (k : ℕ). ordering_then (nat_cmp p.row k) (part_cmp p.part q.part)) (sym e)
    ∙ ap (λ (o : Ordering). ordering_then o (part_cmp p.part q.part)) (tied_itself nat_cmp_total p.row)
