-- Writers put in order.
use Rattle.std.proofs.Common.{◌≡◌, List, [], ◌∷◌, ◌++◌, refl, ap, ◌∙◌, inl, inr}
use Rattle.std.proofs.lemmas.List.Elements.{Contains-append_left, Contains-append_right, Contains-append_cases}
use Rattle.std.specs.declared.cmp.Ordering.TheVariants.{Less}
use Rattle.std.specs.List.{AllByRecursion}
use Rattle.std.specs.Prelude.{◌↔◌, Contains}
use Rattle.std.specs.List.Sorted.{IsStrictlySortedBy}
use Rattle.logical_time.specs.Stamps.{WriterValue, writer_cmp}
use Rattle.store.proofs.newest.SameParts.{same_sorted}
use Rattle.logical_time.proofs.WriterOrder.{exact_writer, writer_total}
use Rattle.messages.specs.Words.{placed_writer, with_writer, in_writer_order}
use Rattle.messages.proofs.WritersInOrder.{writers_ascend, writers_stay}

-- the same writers, sorted and each once, stand in order
pub sorted_once : (ws all : List WriterValue) → IsStrictlySortedBy writer_cmp all → ((w : WriterValue) → Contains all w ↔ Contains ws w) → all ≡ in_writer_order ws
sorted_once ws all sorted same =
    same_sorted writer_cmp writer_total exact_writer all (in_writer_order ws) sorted (writers_ascend ws)
    (λ w. ((λ has. (writers_stay ws w).1 ((same w).0 has)), (λ has. (same w).1 ((writers_stay ws w).0 has))))

first_stays : (w : WriterValue) (ws : List WriterValue) → AllByRecursion (λ y. writer_cmp w y ≡ Less) ws → with_writer w ws ≡ w ∷ ws
first_stays w [] h = refl
first_stays w (x ∷ xs) h = ap (λ o. placed_writer o w x xs (with_writer w xs)) h.0

-- writers that ascend stand in order already
ascending_stay : (ws : List WriterValue) → IsStrictlySortedBy writer_cmp ws → in_writer_order ws ≡ ws
unfolding IsStrictlySortedBy
ascending_stay [] h = refl
ascending_stay (w ∷ ws) h = ap (with_writer w) (ascending_stay ws h.1) ∙ first_stays w ws h.0

pub ordered_stay : (ws : List WriterValue) → in_writer_order (in_writer_order ws) ≡ in_writer_order ws
ordered_stay ws = ascending_stay (in_writer_order ws) (writers_ascend ws)

-- the same writers are among these and others, whether these are put in order first or not
in_either : (xs ws : List WriterValue) (w : WriterValue) → Contains (xs ++ ws) w ↔ Contains (in_writer_order xs ++ ws) w
in_either xs ws w = (
  (λ has. elim (Contains-append_cases xs ws w has) [
    | inl own ↦ Contains-append_left (in_writer_order xs) ws w ((writers_stay xs w).1 own)
    | inr other ↦ Contains-append_right (in_writer_order xs) ws w other
  ]),
  (λ has. elim (Contains-append_cases (in_writer_order xs) ws w has) [
    | inl own ↦ Contains-append_left xs ws w ((writers_stay xs w).0 own)
    | inr other ↦ Contains-append_right xs ws w other
  ]),
)

-- what others are added to may be put in order first
pub added_in_order : (xs ws : List WriterValue) → in_writer_order (xs ++ ws) ≡ in_writer_order (in_writer_order xs ++ ws)
added_in_order xs ws =
    sorted_once (in_writer_order xs ++ ws) (in_writer_order (xs ++ ws)) (writers_ascend (xs ++ ws))
    (λ w. (
      (λ has. (in_either xs ws w).0 ((writers_stay (xs ++ ws) w).0 has)),
      (λ has. (writers_stay (xs ++ ws) w).1 ((in_either xs ws w).1 has)),
    ))

-- others that were added, or put in order with these
pub added_to_held : (xs ws after : List WriterValue) → after ≡ in_writer_order (xs ++ ws) → in_writer_order after ≡ in_writer_order (in_writer_order xs ++ ws)
added_to_held xs ws after e = ap in_writer_order e ∙ (ordered_stay (xs ++ ws) ∙ added_in_order xs ws)
