-- Rows are in a total order, and equal where they compare as equal.
use Rattle.std.proofs.Common.{◌≡◌, refl, true}
use Rattle.std.specs.Cmp.{IsTotalOrder}
use Rattle.std.specs.Cmp.Lexicographic.{slice_cmp}
use Rattle.std.specs.Ordering.{nat_cmp, is_eq, ordering_then}
use Rattle.std.specs.declared.cmp.Ordering.{Ordering}
use Rattle.std.specs.declared.cmp.Ordering.TheVariants.{Less, Equal, Greater}
use Rattle.std.proofs.lemmas.Cmp.{on_total, then_total, nat_list_cmp_total}
use Rattle.std.proofs.lemmas.Map.Lookups.{exact_bytes}
use Rattle.column_family.specs.declared.batch.Row.{Row}
use Rattle.column_family.specs.Places.{row_cmp}

pub row_total : IsTotalOrder row_cmp
row_total = then_total (on_total (λ (r : Row). r.key) nat_list_cmp_total) (on_total (λ (r : Row). r.family) nat_list_cmp_total)

-- both are equal where one after the other are
pub both_equal : (a b : Ordering) → is_eq (ordering_then a b) ≡ true → (a ≡ Equal) × (b ≡ Equal)
both_equal Less b h = absurd (cc)
both_equal Equal Less h = absurd (cc)
both_equal Equal Equal h = (refl, refl)
both_equal Equal Greater h = absurd (cc)
both_equal Greater b h = absurd (cc)

-- rows that compare as equal are the same
pub same_row : (a b : Row) → is_eq (row_cmp a b) ≡ true → a ≡ b
same_row a b h =
    let e = both_equal (slice_cmp nat_cmp a.key b.key) (slice_cmp nat_cmp a.family b.family) h in
    let k = exact_bytes a.key b.key e.0 in
    let f = exact_bytes a.family b.family e.1 in
    λ i. record { key = k i; family = f i }
