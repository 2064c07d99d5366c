-- What a list stands for that was written value by value, and what the text of a record reads as.
use Rattle.std.proofs.Common.{◌≡◌, ◌∙◌, ap, sym, ℕ, ◌+◌, ◌<◌, ◌≤◌, List, [], ◌∷◌, ◌++◌, length, map, take, get_or, Option, Some, arith}
use Rattle.std.proofs.lemmas.List.{map-append, take_more}
use Rattle.serde_json.specs.Data.{Data, depth, items_depth}
use Rattle.serde_json.specs.Read.{read, max_depth}
use Rattle.serde_json.specs.View.{view, items_of}
use Rattle.serde_json.specs.declared.value.Value.{Value}
use Rattle.workload.specs.Shape.{all_by}
use Rattle.workload.proofs.Lists.{all_by_snoc}
use Rattle.recorded.specs.Recorded.{RecordedValue}
use Rattle.recorded.specs.Reading.{recorded_of}
use Rattle.recorded.specs.Performing.{recorded_in}
use Rattle.recorded.specs.Writing.{Spells}
use Rattle.recorded.proofs.Spelled.{depth_snoc}

-- one more value was written
pub one_more_spelled : {A : Type 0} (f : Data → Option A) (most : ℕ) (vs : List Value) (v : Value) (xs : List A) (i : ℕ) (x : A) → i < length xs → x ≡ get_or xs i x
    → all_by f (map view vs) ≡ Some (take i xs) → items_depth (items_of (map view vs)) ≤ most → Spells f most (view v) x
    → (all_by f (map view (vs ++ v ∷ [])) ≡ Some (take (i + 1) xs)) × (items_depth (items_of (map view (vs ++ v ∷ []))) ≤ most)
one_more_spelled f most vs v xs i x lt at all deep s =
    let more : take (i + 1) xs ≡ take i xs ++ x ∷ [] = take_more xs i x lt ∙ ap (λ y. take i xs ++ y ∷ []) (sym at) in
    rw (map-append view vs (v ∷ []), more) (all_by_snoc f (map view vs) (take i xs) (view v) x all s.stands, depth_snoc (map view vs) (view v) most deep s.nests)

-- reading the text of a value that stands for a record gives the record
pub text_spelled_back : (bytes : List ℕ) (d : Data) (r : RecordedValue) → Spells recorded_of 7 d r → (depth d ≤ max_depth → read bytes ≡ Some d) → recorded_in bytes ≡ Some r
text_spelled_back bytes d r s back = rw (back (omega (arith, s.nests))) s.stands
