-- The normal form of a batch has a change of each row of the batch, and of no other.
use Rattle.std.proofs.Common.{◌≡◌, ◌∙◌, ℕ, ◌+◌, ◌<◌, ap, sym, refl, Bool, true, false, ◌&&◌, ◌||◌, List, [], ◌∷◌, length}
use Rattle.std.specs.Prelude.{if◌then◌else◌, ◌==◌, not}
use Rattle.std.specs.List.{AllByRecursion, list_any}
use Rattle.std.specs.declared.cmp.Ordering.{Ordering}
use Rattle.std.specs.declared.cmp.Ordering.TheVariants.{Less, Equal, Greater}
use Rattle.std.specs.Ordering.{match_ordering}
use Rattle.std.specs.Map.{values_of}
use Rattle.std.specs.BTreeMap.{insert_entry}
use Rattle.std.proofs.lemmas.Bool.{eqb-true}
use Rattle.column_family.specs.declared.batch.Row.{Row}
use Rattle.column_family.specs.declared.batch.Change.{Change}
use Rattle.column_family.specs.declared.places.Place.{Place}
use Rattle.column_family.specs.Location.{is_same_row}
use Rattle.column_family.specs.Normal.{changes_before}
use Rattle.column_family.specs.Places.{Placed, place_cmp, is_undone, after, keep, keep_all, normal_of}
use Rattle.column_family.proofs.Options.{both_true}
use Rattle.column_family.proofs.PlaceOrder.{equal_places}
use Rattle.column_family.proofs.PlacesKept.{IsPlaced, IsNumbering, at_place, placed_after, placed_keep}
use Rattle.column_family.proofs.Order.{first_apart, first_below}

swapped : (a b c : Bool) → (a || (b || c)) ≡ (b || (a || c))
swapped true true c = refl
swapped true false c = refl
swapped false b c = refl

once : (a b c : Bool) → b ≡ a → (a || c) ≡ (a || (b || c))
once true b c e = refl
once false true c e = absurd (cc)
once false false c e = refl

without : (b : Bool) → (b || false) ≡ b
without true = refl
without false = refl

grouped : (a b c : Bool) → (a || (b || c)) ≡ ((b || a) || c)
grouped true true c = refl
grouped true false c = refl
grouped false true c = refl
grouped false false c = refl

module _ (number : Row → ℕ) (n : ℕ) (apart : IsNumbering number n) (r : Row) where
  abbrev of_row : Change → Bool
  of_row c = is_same_row r c.row

  any_left : (c : Change) (i : ℕ) (es : Placed) → AllByRecursion (IsPlaced number n i) es → (of_row c || list_any of_row (values_of (after (number c.row) c.mutation es))) ≡ (of_row c || list_any of_row (values_of es))
  any_left c i [] all = refl
  any_left c i (e ∷ es) all = go (any_left c i es all.1) (e.0.row == number c.row && is_undone c.mutation e.0.part) refl
    where
      go : (of_row c || list_any of_row (values_of (after (number c.row) c.mutation es))) ≡ (of_row c || list_any of_row (values_of es))
          → (b : Bool) → (e.0.row == number c.row && is_undone c.mutation e.0.part) ≡ b
          → (of_row c || list_any of_row (values_of (if not b then e ∷ after (number c.row) c.mutation es else after (number c.row) c.mutation es))) ≡ (of_row c || list_any of_row (values_of (e ∷ es)))
      go ih true u =
          let row = eqb-true e.0.row (number c.row) (both_true (e.0.row == number c.row) (is_undone c.mutation e.0.part) u).0 in
          let rows : e.1.row ≡ c.row = apart e.1.row c.row all.0.1 (sym all.0.0 ∙ row) in
          ih ∙ once (of_row c) (of_row e.1) (list_any of_row (values_of es)) (ap (λ (s : Row). is_same_row r s) rows)
      go ih false u =
          swapped (of_row c) (of_row e.1) (list_any of_row (values_of (after (number c.row) c.mutation es)))
          ∙ (ap (λ (b : Bool). of_row e.1 || b) ih ∙ swapped (of_row e.1) (of_row c) (list_any of_row (values_of es)))

  any_put : (c : Change) (i : ℕ) (es : Placed) → AllByRecursion (IsPlaced number n i) es → list_any of_row (values_of (insert_entry place_cmp es (at_place number i c) c)) ≡ (of_row c || list_any of_row (values_of es))
  any_put c i [] all = refl
  any_put c i (e ∷ es) all = go (any_put c i es all.1) (place_cmp (at_place number i c) e.0) refl
    where
      go : list_any of_row (values_of (insert_entry place_cmp es (at_place number i c) c)) ≡ (of_row c || list_any of_row (values_of es))
          → (o : Ordering) → place_cmp (at_place number i c) e.0 ≡ o
          → list_any of_row (values_of (match_ordering o ((at_place number i c, c) ∷ e ∷ es) ((e.0, c) ∷ es) (e ∷ insert_entry place_cmp es (at_place number i c) c))) ≡ (of_row c || list_any of_row (values_of (e ∷ es)))
      go ih Less h = refl
      go ih Equal h =
          let row : number c.row ≡ e.0.row = ap (λ (p : Place). p.row) (equal_places (at_place number i c) e.0 h) in
          let rows : e.1.row ≡ c.row = apart e.1.row c.row all.0.1 (sym all.0.0 ∙ sym row) in
          once (of_row c) (of_row e.1) (list_any of_row (values_of es)) (ap (λ (s : Row). is_same_row r s) rows)
      go ih Greater h = ap (λ (b : Bool). of_row e.1 || b) ih ∙ swapped (of_row e.1) (of_row c) (list_any of_row (values_of es))

  any_all : (i : ℕ) (es : Placed) → AllByRecursion (IsPlaced number n i) es → (cs : List Change) → AllByRecursion (λ (c : Change). number c.row < n) cs → list_any of_row (values_of (keep_all number i es cs)) ≡ (list_any of_row cs || list_any of_row (values_of es))
  any_all i es all [] known = refl
  any_all i es all (c ∷ cs) known =
      any_all (i + 1) (keep (number c.row) i es c) (placed_keep number n c i known.0 es all) cs known.1
      ∙ (ap (λ (b : Bool). list_any of_row cs || b) (any_put c i (after (number c.row) c.mutation es) (placed_after number n (number c.row) c.mutation i es all) ∙ any_left c i es all)
      ∙ grouped (list_any of_row cs) (of_row c) (list_any of_row (values_of es)))

-- the rows of a batch are those of its normal form
pub rows_kept : (batch : List Change) (r : Row) → list_any (λ c. is_same_row r c.row) (normal_of batch) ≡ list_any (λ c. is_same_row r c.row) batch
rows_kept batch r = any_all (changes_before batch) (length batch) (first_apart batch) r 0 [] tt batch (first_below batch) ∙ without (list_any (λ c. is_same_row r c.row) batch)

pub kept_rows : (batch kept : List Change) → kept ≡ normal_of batch → (r : Row) → list_any (λ c. is_same_row r c.row) kept ≡ list_any (λ c. is_same_row r c.row) batch
kept_rows batch kept e r = ap (list_any (λ c. is_same_row r c.row)) e ∙ rows_kept batch r
