-- What is held after a step of a map.
use Rattle.std.proofs.Common.{◌≡◌, ℕ, ap, sym, subst, refl, Bool, true, false, List, Option, Some, None}
use Rattle.std.specs.Prelude.{unwrap_or, if◌then◌else◌}
use Rattle.std.specs.Str.{bytes_eq}
use Rattle.std.specs.Ordering.{nat_cmp, is_eq}
use Rattle.std.specs.declared.cmp.Ordering.{Ordering}
use Rattle.std.specs.declared.cmp.Ordering.TheVariants.{Less, Equal, Greater}
use Rattle.std.specs.Cmp.Lexicographic.{slice_cmp}
use Rattle.std.specs.BTreeMap.{BTreeMap, get, Updates}
use Rattle.std.proofs.lemmas.Map.Lookups.{exact_bytes}
use Rattle.std.proofs.lemmas.Map.Text.{is_eq-slice_cmp}
use Rattle.versions.specs.Chain.{Held}
use Rattle.column_family.specs.declared.batch.Row.{Row}
use Rattle.column_family.specs.Location.{is_same_row}
use Rattle.column_family.specs.Places.{row_cmp}
use Rattle.column_family.proofs.Firsts.{row_test}
use Rattle.column_family.proofs.RowOrder.{same_row}
use Rattle.store.specs.Stored.{name_cmp, held_by, nothing_held, column_held, no_row, Chains}

-- by what a test answers
pub by_cases : {P : Type 0} (b : Bool) → (b ≡ true → P) → (b ≡ false → P) → P
by_cases true f g = f refl
by_cases false f g = g refl

equal_is : (o : Ordering) → is_eq o ≡ true → o ≡ Equal
equal_is Less h = absurd (cc)
equal_is Equal h = refl
equal_is Greater h = absurd (cc)

-- names that compare as equal are the same
pub same_name : (a b : List ℕ) → is_eq (name_cmp a b) ≡ true → a ≡ b
same_name a b h = exact_bytes a b (equal_is (slice_cmp nat_cmp a b) h)

-- after a step at a key, what is held at each key stands to what was as the relation says: at the key, and elsewhere
pub step_each : {K X : Type 0} (R : K → K → Ordering) → ((a b : K) → is_eq (R a b) ≡ true → a ≡ b) → (d : X) (P : Bool → X → X → Type 0) (m n : BTreeMap K X) (k : K) (w : X)
    → Updates R m n k (Some w) → P true (held_by R d m.entries k) w → ((x : X) → P false x x)
    → (q : K) → P (is_eq (R k q)) (held_by R d m.entries q) (held_by R d n.entries q)
step_each {K} {X} R same d P m n k w u here there q =
    subst (λ (o : Option X). P (is_eq (R k q)) (held_by R d m.entries q) (unwrap_or o d)) (sym (u.0 q))
    (by_cases {P = P (is_eq (R k q)) (held_by R d m.entries q) (unwrap_or (if is_eq (R k q) then Some w else get R m q) d)} (is_eq (R k q))
    (λ yes. rw yes (subst (λ (z : K). P true (held_by R d m.entries z) w) (same k q yes) here))
    (λ no. rw no (there (held_by R d m.entries q))))

pub each_column : (P : Bool → Held → Held → Type 0) (m n : BTreeMap (List ℕ) Held) (k : List ℕ) (w : Held) → Updates name_cmp m n k (Some w)
    → P true (column_held m.entries k) w → ((x : Held) → P false x x) → (q : List ℕ) → P (bytes_eq k q) (column_held m.entries q) (column_held n.entries q)
each_column P m n k w u here there q =
    subst (λ (b : Bool). P b (column_held m.entries q) (column_held n.entries q)) (is_eq-slice_cmp k q) (step_each name_cmp same_name nothing_held P m n k w u here there q)

pub each_row : (P : Bool → Chains → Chains → Type 0) (m n : BTreeMap Row Chains) (k : Row) (w : Chains) → Updates row_cmp m n k (Some w)
    → P true (held_by row_cmp no_row m.entries k) w → ((x : Chains) → P false x x)
    → (q : Row) → P (is_same_row q k) (held_by row_cmp no_row m.entries q) (held_by row_cmp no_row n.entries q)
each_row P m n k w u here there q =
    subst (λ (b : Bool). P b (held_by row_cmp no_row m.entries q) (held_by row_cmp no_row n.entries q)) (row_test k q) (step_each row_cmp same_row no_row P m n k w u here there q)

-- what was found is what is held
pub found : {K X : Type 0} (R : K → K → Ordering) (d : X) (m : BTreeMap K X) (k : K) (x : X) → get R m k ≡ Some x → held_by R d m.entries k ≡ x
found {K} {X} R d m k x e = ap (λ (o : Option X). unwrap_or o d) e

-- where nothing was found nothing is held
pub not_found : {K X : Type 0} (R : K → K → Ordering) (d : X) (m : BTreeMap K X) (k : K) → get R m k ≡ None → held_by R d m.entries k ≡ d
not_found {K} {X} R d m k e = ap (λ (o : Option X). unwrap_or o d) e

-- names that compare as equal are the same
pub exact_name : (a b : List ℕ) → name_cmp a b ≡ Equal → a ≡ b
exact_name a b e = exact_bytes a b e
