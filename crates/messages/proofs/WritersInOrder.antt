-- Writers put in order ascend, each once, and are the same writers.
use Rattle.std.proofs.Common.{◌≡◌, ◌∙◌, sym, ap, refl, zero, suc, ◌⊎◌, inl, inr, List, [], ◌∷◌, arith}
use Rattle.std.specs.Prelude.{◌↔◌, Contains}
use Rattle.std.specs.declared.cmp.Ordering.{Ordering}
use Rattle.std.specs.declared.cmp.Ordering.TheVariants.{Less, Equal, Greater}
use Rattle.std.specs.Ordering.{ordering_reverse}
use Rattle.std.specs.List.{AllByRecursion}
use Rattle.std.specs.List.Sorted.{IsStrictlySortedBy}
use Rattle.logical_time.specs.Stamps.{WriterValue, writer_cmp}
use Rattle.logical_time.proofs.WriterOrder.{exact_writer, writer_total}
use Rattle.messages.specs.Words.{placed_writer, with_writer, in_writer_order}

-- ## Order

every_weaker : {X : Type 0} (P Q : X → Type 0) → ((x : X) → P x → Q x) → (xs : List X) → AllByRecursion P xs → AllByRecursion Q xs
every_weaker P Q f [] h = h
every_weaker P Q f (x ∷ xs) h = (f x h.0, every_weaker P Q f xs h.1)

every_placed : (P : WriterValue → Type 0) (o : Ordering) (w x : WriterValue) (xs others : List WriterValue) → P w → AllByRecursion P (x ∷ xs)
    → AllByRecursion P others → AllByRecursion P (placed_writer o w x xs others)
every_placed P Less w x xs others p h k = (p, h)
every_placed P Equal w x xs others p h k = h
every_placed P Greater w x xs others p h k = (h.0, k)

every_with : (P : WriterValue → Type 0) (w : WriterValue) (xs : List WriterValue) → P w → AllByRecursion P xs → AllByRecursion P (with_writer w xs)
every_with P w [] p h = (p, h)
every_with P w (x ∷ xs) p h = every_placed P (writer_cmp w x) w x xs (with_writer w xs) p h (every_with P w xs p h.1)

sorted_placed : (o : Ordering) (w x : WriterValue) (xs others : List WriterValue) → writer_cmp w x ≡ o → IsStrictlySortedBy writer_cmp (x ∷ xs)
    → (writer_cmp x w ≡ Less → AllByRecursion (λ y. writer_cmp x y ≡ Less) others) → IsStrictlySortedBy writer_cmp others
    → IsStrictlySortedBy writer_cmp (placed_writer o w x xs others)
unfolding IsStrictlySortedBy
sorted_placed Less w x xs others e h a s =
    ((e, every_weaker (λ y. writer_cmp x y ≡ Less) (λ y. writer_cmp w y ≡ Less) (λ y l. writer_total.trans w x y e l) xs h.0), h)
sorted_placed Equal w x xs others e h a s = h
sorted_placed Greater w x xs others e h a s = (a (writer_total.antisymm x w ∙ ap ordering_reverse e), s)

sorted_with : (w : WriterValue) (xs : List WriterValue) → IsStrictlySortedBy writer_cmp xs → IsStrictlySortedBy writer_cmp (with_writer w xs)
unfolding IsStrictlySortedBy
sorted_with w [] h = (tt, tt)
sorted_with w (x ∷ xs) h =
    sorted_placed (writer_cmp w x) w x xs (with_writer w xs) refl h (λ l. every_with (λ y. writer_cmp x y ≡ Less) w xs l h.0) (sorted_with w xs h.1)

pub writers_ascend : (ws : List WriterValue) → IsStrictlySortedBy writer_cmp (in_writer_order ws)
unfolding IsStrictlySortedBy
writers_ascend [] = tt
writers_ascend (w ∷ ws) = sorted_with w (in_writer_order ws) (writers_ascend ws)

-- ## Members

first_or_later : (x v : WriterValue) (xs : List WriterValue) → Contains (x ∷ xs) v → (x ≡ v) ⊎ Contains xs v
first_or_later x v xs (zero, lt, e) = inl e
first_or_later x v xs (suc k, lt, e) = inr (k, omega arith, e)

first : (x v : WriterValue) (xs : List WriterValue) → x ≡ v → Contains (x ∷ xs) v
first x v xs e = (zero, omega arith, e)

later : (x v : WriterValue) (xs : List WriterValue) → Contains xs v → Contains (x ∷ xs) v
later x v xs (k, lt, e) = (suc k, omega arith, e)

into_placed : (o : Ordering) (w x v : WriterValue) (xs others : List WriterValue) → (Contains others v → (w ≡ v) ⊎ Contains xs v)
    → Contains (placed_writer o w x xs others) v → (w ≡ v) ⊎ Contains (x ∷ xs) v
into_placed Less w x v xs others h has = first_or_later w v (x ∷ xs) has
into_placed Equal w x v xs others h has = inr has
into_placed Greater w x v xs others h has = elim (first_or_later x v others has) [
  | inl here ↦ inr (first x v xs here)
  | inr there ↦ elim (h there) [ inl own ↦ inl own | inr rest ↦ inr (later x v xs rest) ]
]

into_with : (w v : WriterValue) (xs : List WriterValue) → Contains (with_writer w xs) v → (w ≡ v) ⊎ Contains xs v
into_with w v [] has = first_or_later w v [] has
into_with w v (x ∷ xs) has = into_placed (writer_cmp w x) w x v xs (with_writer w xs) (into_with w v xs) has

from_placed : (o : Ordering) (w x v : WriterValue) (xs others : List WriterValue) → (o ≡ Equal → w ≡ x) → ((w ≡ v) ⊎ Contains xs v → Contains others v)
    → (w ≡ v) ⊎ Contains (x ∷ xs) v → Contains (placed_writer o w x xs others) v
from_placed Less w x v xs others eq h (inl own) = first w v (x ∷ xs) own
from_placed Less w x v xs others eq h (inr has) = later w v (x ∷ xs) has
from_placed Equal w x v xs others eq h (inl own) = first x v xs (sym (eq refl) ∙ own)
from_placed Equal w x v xs others eq h (inr has) = has
from_placed Greater w x v xs others eq h (inl own) = later x v others (h (inl own))
from_placed Greater w x v xs others eq h (inr has) = elim (first_or_later x v xs has) [
  | inl here ↦ first x v others here
  | inr there ↦ later x v others (h (inr there))
]

from_with : (w v : WriterValue) (xs : List WriterValue) → (w ≡ v) ⊎ Contains xs v → Contains (with_writer w xs) v
from_with w v [] (inl own) = first w v [] own
from_with w v [] (inr has) = later w v [] has
from_with w v (x ∷ xs) has = from_placed (writer_cmp w x) w x v xs (with_writer w xs) (exact_writer w x) (from_with w v xs) has

into_order : (ws : List WriterValue) (v : WriterValue) → Contains (in_writer_order ws) v → Contains ws v
into_order [] v has = has
into_order (w ∷ ws) v has = elim (into_with w v (in_writer_order ws) has) [
  | inl own ↦ first w v ws own
  | inr rest ↦ later w v ws (into_order ws v rest)
]

from_order : (ws : List WriterValue) (v : WriterValue) → Contains ws v → Contains (in_writer_order ws) v
from_order [] v has = has
from_order (w ∷ ws) v has = elim (first_or_later w v ws has) [
  | inl own ↦ from_with w v (in_writer_order ws) (inl own)
  | inr rest ↦ from_with w v (in_writer_order ws) (inr (from_order ws v rest))
]

pub writers_stay : (ws : List WriterValue) (v : WriterValue) → Contains (in_writer_order ws) v ↔ Contains ws v
writers_stay ws v = (into_order ws v, from_order ws v)
