-- The rows of a batch's normal form are those of the batch, so both touch the same shards.
use Rattle.std.proofs.Common.{◌≡◌, ◌∙◌, ℕ, ap, sym, refl, Bool, true, false, List, [], ◌∷◌}
use Rattle.std.specs.Prelude.{◌||◌}
use Rattle.std.specs.List.{list_any}
use Rattle.column_family.specs.declared.batch.Row.{Row}
use Rattle.column_family.specs.declared.batch.Change.{Change}
use Rattle.column_family.specs.Location.{is_same_row}
use Rattle.column_family.specs.Places.{normal_of}
use Rattle.column_family.proofs.Kept.{one_row}
use Rattle.column_family.proofs.Options.{second_holds}
use Rattle.column_family.proofs.Order.{row_itself}
use Rattle.column_family.proofs.RowsKept.{rows_kept}
use Rattle.planner.specs.Plan.{is_on, is_touched}

any_weaker : {X : Type 0} (p q : X → Bool) → ((x : X) → p x ≡ true → q x ≡ true) → (xs : List X) → list_any p xs ≡ true → list_any q xs ≡ true
any_weaker p q f [] h = absurd (cc)
any_weaker p q f (x ∷ xs) h = go (p x) refl (λ e. any_weaker p q f xs e) h
  where
    right : (b : Bool) → list_any q xs ≡ true → (b || list_any q xs) ≡ true
    right true e = refl
    right false e = e

    go : (b : Bool) → p x ≡ b → (list_any p xs ≡ true → list_any q xs ≡ true) → (b || list_any p xs) ≡ true → (q x || list_any q xs) ≡ true
    go true e later g = rw (f x e) refl
    go false e later g = right (q x) (later g)

-- what has a change of each row of others touches their shards
on_kept : (shards s : ℕ) (xs ys : List Change)
    → ((r : Row) → list_any (λ c. is_same_row r c.row) xs ≡ true → list_any (λ c. is_same_row r c.row) ys ≡ true)
    → is_touched shards xs s ≡ true → is_touched shards ys s ≡ true
on_kept shards s [] ys same h = absurd (cc)
on_kept shards s (x ∷ xs) ys same h =
    go (is_on shards s x.row.key) refl
    (λ e. on_kept shards s xs ys (λ r g. same r (second_holds (is_same_row r x.row) (list_any (λ c. is_same_row r c.row) xs) g)) e) h
  where
    same_shard : is_on shards s x.row.key ≡ true → (d : Change) → is_same_row x.row d.row ≡ true → is_on shards s d.row.key ≡ true
    same_shard e d h = ap (λ (r : Row). is_on shards s r.key) (sym (one_row x.row d.row h)) ∙ e

    go : (b : Bool) → is_on shards s x.row.key ≡ b → (is_touched shards xs s ≡ true → is_touched shards ys s ≡ true) → (b || is_touched shards xs s) ≡ true → is_touched shards ys s ≡ true
    go false e later g = later g
    go true e later g =
        any_weaker (λ d. is_same_row x.row d.row) (λ d. is_on shards s d.row.key) (same_shard e) ys
        (same x.row (rw (row_itself x.row x.row refl) refl))

both : (a b : Bool) → (a ≡ true → b ≡ true) → (b ≡ true → a ≡ true) → a ≡ b
both true b f g = sym (f refl)
both false true f g = g refl
both false false f g = refl

-- what the normal form of a batch touches, the batch does
pub touched_if_kept : (batch : List Change) (shards s : ℕ) → is_touched shards (normal_of batch) s ≡ true → is_touched shards batch s ≡ true
touched_if_kept batch shards s h = on_kept shards s (normal_of batch) batch (λ r g. sym (rows_kept batch r) ∙ g) h

-- the normal form touches the same shards
pub same_shards : (batch : List Change) (shards s : ℕ) → is_touched shards (normal_of batch) s ≡ is_touched shards batch s
same_shards batch shards s =
    both (is_touched shards (normal_of batch) s) (is_touched shards batch s)
    (touched_if_kept batch shards s)
    (on_kept shards s batch (normal_of batch) (λ r g. rows_kept batch r ∙ g))
