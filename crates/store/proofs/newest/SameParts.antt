-- Parts of a row that are right by the same are the same.
use Rattle.std.proofs.Common.{◌≡◌, ◌∙◌, sym, refl, Bool, true, false, List}
use Rattle.std.specs.Prelude.{Contains, ◌↔◌}
use Rattle.std.specs.Cmp.{IsTotalOrder, IsEquivalence}
use Rattle.std.specs.List.{list_any}
use Rattle.std.specs.List.Sorted.{IsStrictlySortedBy}
use Rattle.std.specs.Ordering.{is_eq, eq_by_cmp}
use Rattle.std.specs.declared.cmp.Ordering.{Ordering}
use Rattle.std.specs.declared.cmp.Ordering.TheVariants.{Less, Equal, Greater}
use Rattle.std.proofs.lemmas.Cmp.{eq_by_cmp_equiv}
use Rattle.std.proofs.lemmas.Map.Lookups.{btree_set_from_contains}
use Rattle.std.proofs.lemmas.Map.Views.{list_any-from_Contains, Contains-from_any}
use Rattle.logical_time.specs.Stamps.{writer_cmp}
use Rattle.column_family.specs.declared.batch.Row.{Row}
use Rattle.slice.specs.declared.predicate.Predicate.{Predicate}
use Rattle.store.specs.declared.part.Applied.{Applied}
use Rattle.store.specs.declared.part.Part.{Part}
use Rattle.store.specs.Part.{IsPartOf}
use Rattle.logical_time.proofs.WriterOrder.{writer_total, exact_writer}

alike : (b c : Bool) → (b ≡ true → c ≡ true) → (c ≡ true → b ≡ true) → b ≡ c
alike true c f g = sym (f refl)
alike false true f g = g refl
alike false false f g = refl

equal_is : (o : Ordering) → is_eq o ≡ true → o ≡ Equal
equal_is Less h = absurd (cc)
equal_is Equal h = refl
equal_is Greater h = absurd (cc)

-- lists in strict order with the same elements are the same
pub same_sorted : {K : Type 0} (R : K → K → Ordering) → IsTotalOrder R → ((a b : K) → R a b ≡ Equal → a ≡ b) → (xs ys : List K)
    → IsStrictlySortedBy R xs → IsStrictlySortedBy R ys → ((k : K) → Contains xs k ↔ Contains ys k) → xs ≡ ys
same_sorted {K} R total exact xs ys a b h =
    btree_set_from_contains total (record { keys = xs }) (record { keys = ys }) a b
    (λ q. alike (list_any (eq_by_cmp R q) xs) (list_any (eq_by_cmp R q) ys)
    (λ e. list_any-from_Contains laws q ys ((h q).0 (Contains-from_any equal q xs e)))
    (λ e. list_any-from_Contains laws q xs ((h q).1 (Contains-from_any equal q ys e))))
    exact
  where
    laws : IsEquivalence (eq_by_cmp R)
    laws = eq_by_cmp_equiv total

    equal : (u v : K) → eq_by_cmp R u v ≡ true → u ≡ v
    equal u v e = exact u v (equal_is (R u v) e)

-- the columns and the writers of a part are determined by what was applied, the row and the predicate
pub same_part : (applied : List Applied) (r : Row) (p : Predicate) (x y : Part) → IsPartOf applied r p x → IsPartOf applied r p y
    → (x.columns ≡ y.columns) × (x.writers ≡ y.writers)
same_part applied r p x y f g = (
  f.columns ∙ sym g.columns,
  same_sorted writer_cmp writer_total exact_writer x.writers y.writers f.in_order g.in_order
      (λ w. (λ has. (g.writers w).1 ((f.writers w).0 has), λ has. (f.writers w).1 ((g.writers w).0 has))),
)
