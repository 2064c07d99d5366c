-- Where the first row of a key stands, and what it shows.
use Rattle.std.proofs.Common.{◌≡◌, ◌∙◌, ℕ, suc, ◌+◌, ap, sym, refl, Bool, true, false, cond, List, [], ◌∷◌, ◌++◌, length, Option, Some, None, add-one}
use Rattle.std.specs.Prelude.{if◌then◌else◌, option_map, unwrap_or, slice_get}
use Rattle.std.specs.Option.{option_or}
use Rattle.std.specs.Str.{bytes_eq}
use Rattle.std.specs.Ordering.{nat_cmp}
use Rattle.std.specs.Cmp.Lexicographic.{slice_cmp}
use Rattle.std.specs.BTreeMap.{BTreeMap, get, Updates}
use Rattle.std.proofs.lemmas.Map.Text.{is_eq-slice_cmp}
use Rattle.slice.specs.declared.read.AnsweredRow.{AnsweredRow}
use Rattle.planner.specs.Join.{row_for, columns_for, place_in}

-- the row at a place that may be missing
abbrev pub row_at : List AnsweredRow → Option ℕ → Option AnsweredRow
row_at rows None = None
row_at rows (Some i) = slice_get rows i

one_on : (r : AnsweredRow) (rs : List AnsweredRow) (o : Option ℕ) → row_at (r ∷ rs) (option_map (λ i. i + 1) o) ≡ row_at rs o
one_on r rs None = refl
one_on r rs (Some i) = rw (add-one i) refl

row_at_place : (rows : List AnsweredRow) (k : List ℕ) → row_at rows (place_in rows k) ≡ row_for rows k
row_at_place [] k = refl
row_at_place (r ∷ rs) k = go (bytes_eq r.key k) (row_at_place rs k)
  where
    go : (b : Bool) → row_at rs (place_in rs k) ≡ row_for rs k → row_at (r ∷ rs) (if b then Some 0 else option_map (λ i. i + 1) (place_in rs k)) ≡ cond b (Some r) (row_for rs k)
    go true ih = refl
    go false ih = one_on r rs (place_in rs k) ∙ ih

-- the columns of a key, by its place
pub columns_found : (rows : List AnsweredRow) (k : List ℕ) (o : Option ℕ) (i : ℕ) (r : AnsweredRow) → o ≡ place_in rows k → o ≡ Some i → slice_get rows i ≡ Some r → r.columns ≡ columns_for rows k
columns_found rows k o i r e f g =
    sym (ap (λ q. unwrap_or (option_map (λ (x : AnsweredRow). x.columns) q) []) (sym (row_at_place rows k) ∙ ap (row_at rows) (sym e ∙ f) ∙ g))

pub columns_missing : (rows : List AnsweredRow) (k : List ℕ) (o : Option ℕ) → o ≡ place_in rows k → row_at rows o ≡ None → [] ≡ columns_for rows k
columns_missing rows k o e g =
    sym (ap (λ q. unwrap_or (option_map (λ (x : AnsweredRow). x.columns) q) []) (sym (row_at_place rows k) ∙ ap (row_at rows) (sym e) ∙ g))

-- ---- one row more, at the end
or_none : {T : Type 0} (a : Option T) → option_or a None ≡ a
or_none None = refl
or_none (Some x) = refl

later : (o : Option ℕ) (b : Bool) (n : ℕ) → option_map (λ i. i + 1) (option_or o (if b then Some n else None)) ≡ option_or (option_map (λ i. i + 1) o) (if b then Some (suc n) else None)
later None true n = ap (λ (i : ℕ). Some i) (add-one n)
later None false n = refl
later (Some i) b n = refl

place_push : (rows : List AnsweredRow) (r : AnsweredRow) (k : List ℕ) → place_in (rows ++ r ∷ []) k ≡ option_or (place_in rows k) (if bytes_eq r.key k then Some (length rows) else None)
place_push [] r k = refl
place_push (q ∷ rows) r k = go (bytes_eq q.key k) (place_push rows r k)
  where
    go : (b : Bool) → place_in (rows ++ r ∷ []) k ≡ option_or (place_in rows k) (if bytes_eq r.key k then Some (length rows) else None)
        → (if b then Some 0 else option_map (λ i. i + 1) (place_in (rows ++ r ∷ []) k)) ≡ option_or (if b then Some 0 else option_map (λ i. i + 1) (place_in rows k)) (if bytes_eq r.key k then Some (suc (length rows)) else None)
    go true ih = refl
    go false ih = ap (λ o. option_map (λ i. i + 1) o) ih ∙ later (place_in rows k) (bytes_eq r.key k) (length rows)

held_or : (a : Option ℕ) (b : Bool) (n : ℕ) (o : Option ℕ) → option_or a (cond b (Some n) o) ≡ option_or (option_or a (if b then Some n else None)) o
held_or None true n o = refl
held_or None false n o = refl
held_or (Some i) b n o = refl

pub place_begin : (rows : List AnsweredRow) (m : BTreeMap (List ℕ) ℕ) → m.entries ≡ [] → (k : List ℕ) → option_or (place_in rows k) (get (slice_cmp nat_cmp) m k) ≡ place_in rows k
place_begin rows m empty k =
    let none : get (slice_cmp nat_cmp) m k ≡ None = rw empty refl in
    ap (λ o. option_or (place_in rows k) o) none ∙ or_none (place_in rows k)

pub place_step : (rows rest earlier : List AnsweredRow) (r : AnsweredRow) (key : List ℕ) (m n : BTreeMap (List ℕ) ℕ) → rest ≡ earlier ++ r ∷ [] → key ≡ r.key → Updates (slice_cmp nat_cmp) m n key (Some (length earlier))
    → ((k : List ℕ) → option_or (place_in rest k) (get (slice_cmp nat_cmp) m k) ≡ place_in rows k)
    → (k : List ℕ) → option_or (place_in earlier k) (get (slice_cmp nat_cmp) n k) ≡ place_in rows k
place_step rows rest earlier r key m n split same updates so_far k =
    ap (λ o. option_or (place_in earlier k) o) (updates.0 k)
    ∙ ap (λ b. option_or (place_in earlier k) (cond b (Some (length earlier)) (get (slice_cmp nat_cmp) m k))) (is_eq-slice_cmp key k ∙ ap (λ j. bytes_eq j k) same)
    ∙ held_or (place_in earlier k) (bytes_eq r.key k) (length earlier) (get (slice_cmp nat_cmp) m k)
    ∙ ap (λ o. option_or o (get (slice_cmp nat_cmp) m k)) (sym (place_push earlier r k))
    ∙ ap (λ xs. option_or (place_in xs k) (get (slice_cmp nat_cmp) m k)) (sym split)
    ∙ so_far k
