-- The ends of a range of names as the bounds of a map's range.
use Rattle.std.proofs.Common.{◌≡◌, ℕ, ◌∙◌, ap, sym, refl, Bool, true, false, ◌&&◌, ◌||◌, not, List, [], ◌∷◌, filter}
use Rattle.std.specs.declared.cmp.Ordering.{Ordering}
use Rattle.std.specs.declared.cmp.Ordering.TheVariants.{Less, Equal, Greater}
use Rattle.std.specs.Ordering.{nat_cmp, is_lt, is_le, is_gt, ordering_reverse}
use Rattle.std.specs.Cmp.Lexicographic.{slice_cmp}
use Rattle.std.specs.Bound.{IsForward}
use Rattle.std.specs.BTreeMap.Range.{IsLeBy, IsLtBy, range_contains, is_from_start, is_past_end}
use Rattle.std.proofs.lemmas.Cmp.{nat_list_cmp_total}
use Rattle.std.proofs.lemmas.Map.Lookups.{exact_bytes}
use Rattle.std.proofs.lemmas.List.Elements.{filter_agree}
use Rattle.slice.specs.Slice.{is_open, name_le, is_between}
use Rattle.versions.specs.Chain.{Held}
use Rattle.store.specs.Stored.{name_cmp}
use Rattle.store.specs.Sight.{is_backwards, bound_at}

not_above : (o : Ordering) → is_lt (ordering_reverse o) ≡ false → is_gt o ≡ false
not_above Less e = refl
not_above Equal e = refl
not_above Greater e = absurd (cc)

above_not : (o : Ordering) → not (is_lt (ordering_reverse o)) ≡ is_le o
above_not Less = refl
above_not Equal = refl
above_not Greater = refl

-- a range that isn't backwards goes forward
pub forward : (low high : List ℕ) → is_backwards low high ≡ false → IsForward (IsLeBy name_cmp) (IsLtBy name_cmp) (bound_at low) (bound_at high)
forward [] high e = tt
forward (x ∷ xs) [] e = tt
forward (x ∷ xs) (y ∷ ys) e =
    not_above (slice_cmp nat_cmp (x ∷ xs) (y ∷ ys)) (ap is_lt (sym (nat_list_cmp_total.antisymm (y ∷ ys) (x ∷ xs))) ∙ e)

from_start : (low q : List ℕ) → is_from_start name_cmp (bound_at low) q ≡ (is_open low || name_le low q)
from_start [] q = refl
from_start (x ∷ xs) q = refl

up_to_end : (high q : List ℕ) → not (is_past_end name_cmp (bound_at high) q) ≡ (is_open high || name_le q high)
up_to_end [] q = refl
up_to_end (y ∷ ys) q =
    ap (λ o. not (is_lt o)) (nat_list_cmp_total.antisymm (y ∷ ys) q) ∙ above_not (slice_cmp nat_cmp q (y ∷ ys))

-- what a map's range has is what lies between the ends
pub in_range : (low high : List ℕ) (entries : List (List ℕ × Held))
    → filter (λ e. range_contains name_cmp (bound_at low) (bound_at high) e.0) entries ≡ filter (λ e. is_between low high e.0) entries
in_range low high entries =
    filter_agree _ _ (λ (e : List ℕ × Held).
    ap (λ b. b && not (is_past_end name_cmp (bound_at high) e.0)) (from_start low e.0)
    ∙ ap (λ b. (is_open low || name_le low e.0) && b) (up_to_end high e.0)) entries

le_by : (a b c : List ℕ) (o u : Ordering) → slice_cmp nat_cmp a b ≡ o → slice_cmp nat_cmp b c ≡ u → is_le o ≡ true → is_le u ≡ true → is_le (slice_cmp nat_cmp a c) ≡ true
le_by a b c Less Less p q e f = ap is_le (nat_list_cmp_total.trans a b c p q)
le_by a b c Less Equal p q e f = ap (λ (z : List ℕ). is_le (slice_cmp nat_cmp a z)) (sym (exact_bytes b c q)) ∙ ap is_le p
le_by a b c Equal u p q e f = ap (λ (z : List ℕ). is_le (slice_cmp nat_cmp z c)) (exact_bytes a b p) ∙ ap is_le q ∙ f
le_by a b c Greater u p q e f = absurd (cc)
le_by a b c Less Greater p q e f = absurd (cc)

-- a name that isn't above another isn't above what that one isn't above
pub le_through : (a b c : List ℕ) → name_le a b ≡ true → name_le b c ≡ true → name_le a c ≡ true
le_through a b c e f = le_by a b c (slice_cmp nat_cmp a b) (slice_cmp nat_cmp b c) refl refl e f

lt_or_le : (o : Ordering) → is_lt (ordering_reverse o) ≡ true → is_le o ≡ true → ⊥
lt_or_le Less e f = absurd (cc)
lt_or_le Equal e f = absurd (cc)
lt_or_le Greater e f = absurd (cc)

between_both : (a b : Bool) → ((a ≡ true) → (b ≡ true) → ⊥) → (a && b) ≡ false
between_both true true h = absurd (h refl refl)
between_both true false h = refl
between_both false b h = refl

-- nothing lies between the ends of a range that is backwards
pub none_between : (low high : List ℕ) → is_backwards low high ≡ true → (q : List ℕ) → is_between low high q ≡ false
none_between [] high e q = absurd (cc)
none_between (x ∷ xs) [] e q = absurd (cc)
none_between (x ∷ xs) (y ∷ ys) e q =
    between_both (name_le (x ∷ xs) q) (name_le q (y ∷ ys))
    (λ f g. lt_or_le (slice_cmp nat_cmp (x ∷ xs) (y ∷ ys)) (ap is_lt (sym (nat_list_cmp_total.antisymm (y ∷ ys) (x ∷ xs))) ∙ e)
    (le_by (x ∷ xs) q (y ∷ ys) (slice_cmp nat_cmp (x ∷ xs) q) (slice_cmp nat_cmp q (y ∷ ys)) refl refl f g))
