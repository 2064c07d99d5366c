-- The order of places that is derived from their declaration is that of the definitions.
use Rattle.std.proofs.Common.{◌≡◌, ap, refl}
use Rattle.std.specs.Ordering.{nat_cmp, ordering_then}
use Rattle.std.specs.declared.cmp.Ordering.{Ordering}
use Rattle.column_family.specs.declared.places.RowPart.{RowPart}
use Rattle.column_family.specs.declared.places.RowPart.TheVariants.{Whole, Range, Column, End}
use Rattle.column_family.specs.declared.places.Place.{Place}
use Rattle.column_family.specs.contracts.places.RowPartOrd.TheImpl as parts
use Rattle.column_family.specs.contracts.places.PlaceOrd.TheImpl as places
use Rattle.column_family.specs.Places.{part_cmp, place_cmp}

same_parts : (p q : RowPart) → parts.ghosts.cmp p q ≡ part_cmp p q
same_parts Whole Whole = refl
same_parts Whole (Range j) = refl
same_parts Whole (Column m) = refl
same_parts Whole End = refl
same_parts (Range i) Whole = refl
same_parts (Range i) (Range j) = refl
same_parts (Range i) (Column m) = refl
same_parts (Range i) End = refl
same_parts (Column n) Whole = refl
same_parts (Column n) (Range j) = refl
same_parts (Column n) (Column m) = refl
same_parts (Column n) End = refl
same_parts End Whole = refl
same_parts End (Range j) = refl
same_parts End (Column m) = refl
same_parts End End = refl

pub same_places : (p q : Place) → places.ghosts.cmp p q ≡ place_cmp p q
same_places p q = ap (λ (o : Ordering). ordering_then (nat_cmp p.row q.row) o) (same_parts p.part q.part)

pub same_order : places.ghosts.cmp ≡ place_cmp
same_order = λ i p q. same_places p q i
