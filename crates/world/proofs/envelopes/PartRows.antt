-- The part of a batch on a row's shard has the row's changes, and the shard is its coordinator or one of its cohorts.
use Rattle.std.proofs.Common.{◌≡◌, ◌∙◌, ℕ, ◌<◌, sym, ap, refl, Bool, true, false, cond, not, ◌&&◌, List, [], ◌∷◌, ◌⊎◌, inl, inr, eq-eqb, eqb-true}
use Rattle.std.specs.Prelude.{◌==◌, Contains}
use Rattle.std.specs.List.{range_with_len}
use Rattle.std.proofs.lemmas.Bool.{false≢true}
use Rattle.column_family.specs.declared.batch.Row.{Row}
use Rattle.column_family.specs.declared.batch.Change.{Change}
use Rattle.column_family.specs.Location.{is_same_row}
use Rattle.column_family.specs.Places.{normal_of}
use Rattle.column_family.proofs.Kept.{one_row}
use Rattle.column_family.proofs.Options.{by_cases}
use Rattle.slice.specs.Parts.{has_row, changes_of}
use Rattle.planner.specs.Partition.{shard_of}
use Rattle.planner.specs.Plan.{is_on, part_for, is_touched, coordinator_of, cohorts_of}
use Rattle.planner.proofs.Members.{contains_below}
use Rattle.planner.proofs.Rows.{touched_if_kept}
use Rattle.world.proofs.lists.Members.{contains_filter, any_found, any_has}

own_shard : (shards s : ℕ) (r : Row) (c : Change) → shard_of shards r.key ≡ s → is_same_row r c.row ≡ true → is_on shards s c.row.key ≡ true
own_shard shards s r c here same = ap (λ (z : Row). is_on shards s z.key) (sym (one_row r c.row same)) ∙ eq-eqb (shard_of shards r.key) s here

-- the part has all changes of the row
pub part_changes : (shards s : ℕ) (r : Row) → shard_of shards r.key ≡ s → (changes : List Change)
    → changes_of r (part_for shards changes s) ≡ changes_of r changes
part_changes shards s r here [] = refl
part_changes shards s r here (c ∷ cs) = go (is_on shards s c.row.key) (is_same_row r c.row) refl refl (part_changes shards s r here cs)
  where
    go : (on same : Bool) → is_on shards s c.row.key ≡ on → is_same_row r c.row ≡ same → changes_of r (part_for shards cs s) ≡ changes_of r cs
        → changes_of r (cond on (c ∷ part_for shards cs s) (part_for shards cs s)) ≡ changes_of r (c ∷ cs)
    go true same e f ih = ap (λ (xs : List Change). cond (is_same_row r c.row) (c ∷ xs) xs) ih
    go false true e f ih = absurd (false≢true (sym e ∙ own_shard shards s r c here f))
    go false false e f ih = ih ∙ ap (λ b. cond b (c ∷ changes_of r cs) (changes_of r cs)) (sym f)

-- so it touches the row if they do
pub part_has : (shards s : ℕ) (r : Row) → shard_of shards r.key ≡ s → (changes : List Change) → has_row r changes ≡ true
    → has_row r (part_for shards changes s) ≡ true
part_has shards s r here changes has =
    let c = any_found (λ (c : Change). is_same_row r c.row) changes has in
    any_has (λ (c : Change). is_same_row r c.row) (part_for shards changes s) c.0
    (contains_filter (λ (c : Change). is_on shards s c.row.key) changes c.0 c.1 (own_shard shards s r c.0 here c.2)) c.2

-- the shard of a row that the normal form touches is the coordinator or a cohort
pub leads_or_follows : (shards s : ℕ) (r : Row) → shard_of shards r.key ≡ s → s < shards → (batch : List Change) → has_row r (normal_of batch) ≡ true
    → (s ≡ coordinator_of shards batch) ⊎ Contains (cohorts_of shards batch) s
leads_or_follows shards s r here below batch has =
    by_cases (s == coordinator_of shards batch)
    (λ same. inl (eqb-true s (coordinator_of shards batch) same))
    (λ other. inr (contains_filter (λ z. not (z == coordinator_of shards batch) && is_touched shards batch z) (range_with_len 0 shards) s
    (contains_below shards s below)
    (ap (λ b. not b && is_touched shards batch s) other ∙ touched)))
  where
    touched : is_touched shards batch s ≡ true
    touched =
        let c = any_found (λ (c : Change). is_same_row r c.row) (normal_of batch) has in
        touched_if_kept batch shards s
        (any_has (λ (c : Change). is_on shards s c.row.key) (normal_of batch) c.0 c.1 (own_shard shards s r c.0 here c.2))
