-- The parts of a batch that is accepted cut its normal form.
use Rattle.std.proofs.Common.{◌≡◌, ◌≢◌, ◌∙◌, ℕ, ◌+◌, ◌<◌, ap, sym, subst, refl, inl, inr, Bool, true, false, cond, List, [], ◌∷◌, map, length, get_or, None, Result, Ok, Err, IfOk, sum, arith, eqb-true, eq-eqb}
use Rattle.std.specs.Prelude.{if◌then◌else◌, ◌&&◌, ◌==◌, ◌⊎◌, not, nat_lt}
use Rattle.std.specs.List.{Contains, filter, range_with_len}
use Rattle.std.proofs.lemmas.List.Elements.{All-cons, All-map, All-weaker, filter_agree, filter_passes}
use Rattle.std.proofs.lemmas.List.Kept.{AllPairs-filter}
use Rattle.std.proofs.lemmas.Nat.{mod_below}
use Rattle.logical_time.specs.declared.fault.Fault.{Fault}
use Rattle.column_family.specs.declared.batch.Row.{Row}
use Rattle.column_family.specs.declared.batch.Change.{Change}
use Rattle.column_family.specs.Location.{is_same_row}
use Rattle.column_family.specs.Normal.{changes_before, StandsBefore, IsNormal}
use Rattle.column_family.specs.Places.{normal_of}
use Rattle.column_family.proofs.Kept.{one_row}
use Rattle.column_family.proofs.Options.{both_true}
use Rattle.column_family.proofs.Order.{normal_form}
use Rattle.planner.specs.declared.batches.ShardPart.{ShardPart}
use Rattle.planner.specs.declared.batches.BatchPlan.{BatchPlan}
use Rattle.planner.specs.Checks.{batch_fault}
use Rattle.planner.specs.Partition.{shard_of}
use Rattle.planner.specs.Plan.{is_on, part_for, is_touched, coordinator_of, cohorts_of}
use Rattle.planner.specs.Planned.{part_on, IsCut}
use Rattle.planner.proofs.Lists.{kept_any}
use Rattle.planner.proofs.Members.{contains_head, contains_tail, contains_map, contains_filter, contains_any, contains_below}
use Rattle.planner.proofs.Rows.{same_shards}

-- ---- a part is in normal form
before_part : (shards s : ℕ) (xs : List Change) (q r : Row) → is_on shards s q.key ≡ true → changes_before xs q < changes_before xs r → changes_before (part_for shards xs s) q < changes_before (part_for shards xs s) r
before_part shards s [] q r on lt = absurd (omega arith)
before_part shards s (x ∷ xs) q r on lt =
    go (is_same_row q x.row) (is_same_row r x.row) (is_on shards s x.row.key) refl refl refl (λ e. before_part shards s xs q r on e) lt
  where
    part : List Change
    part = part_for shards xs s

    go : (a b p : Bool) → is_same_row q x.row ≡ a → is_same_row r x.row ≡ b → is_on shards s x.row.key ≡ p
        → (changes_before xs q < changes_before xs r → changes_before (part_for shards xs s) q < changes_before (part_for shards xs s) r)
        → (if a then 0 else changes_before xs q + 1) < (if b then 0 else changes_before xs r + 1)
        → changes_before (cond p (x ∷ part_for shards xs s) (part_for shards xs s)) q < changes_before (cond p (x ∷ part_for shards xs s) (part_for shards xs s)) r
    go true true p e f g rest h = absurd (omega arith)
    go false true p e f g rest h = absurd (omega arith)
    go true false true e f g rest h = rw (e, f) (omega arith)
    go true false false e f g rest h = let same = ap (λ (t : Row). is_on shards s t.key) (one_row q x.row e) in absurd (cc)
    go false false true e f g rest h = let ih = rest (omega arith) in rw (e, f) (omega arith)
    go false false false e f g rest h = rest (omega arith)

pub normal_part : (shards s : ℕ) (xs : List Change) → IsNormal xs → IsNormal (part_for shards xs s)
normal_part shards s xs normal =
    λ i j d lt below. step (get_or (part_for shards xs s) i d) (get_or (part_for shards xs s) j d) (filter_passes (λ c. is_on shards s c.row.key) xs i d (omega arith)) (AllPairs-filter (λ c e. (changes_before xs c.row < changes_before xs e.row) ⊎ ((c.row ≡ e.row) × StandsBefore c.mutation e.mutation)) (λ c. is_on shards s c.row.key) xs normal i j d lt below)
  where
    step : (c d : Change) → is_on shards s c.row.key ≡ true → (changes_before xs c.row < changes_before xs d.row) ⊎ ((c.row ≡ d.row) × StandsBefore c.mutation d.mutation)
        → (changes_before (part_for shards xs s) c.row < changes_before (part_for shards xs s) d.row) ⊎ ((c.row ≡ d.row) × StandsBefore c.mutation d.mutation)
    step c d on (inl lt) = inl (before_part shards s xs c.row d.row on lt)
    step c d on (inr e) = inr e

-- ---- no part is empty
full_part : (shards s : ℕ) (changes : List Change) → is_touched shards changes s ≡ true → part_for shards changes s ≢ []
full_part shards s changes touched empty =
    let some = sym (kept_any (λ c. is_on shards s c.row.key) changes) ∙ ap (λ cs. nat_lt 0 (length cs)) empty in cc

first_touched : (schema : List (List ℕ)) (batch : List Change) (shards : ℕ) → batch_fault schema batch ≡ None → is_touched shards batch (coordinator_of shards batch) ≡ true
first_touched schema [] shards accepted = absurd (cc)
first_touched schema (c ∷ cs) shards accepted = let itself : (shard_of shards c.row.key == shard_of shards c.row.key) ≡ true = eq-eqb _ _ refl in rw itself refl

-- ---- the cohorts are those that the normal form touches
pub same_cohorts : (batch : List Change) (shards k : ℕ)
    → filter (λ s. not (s == k) && is_touched shards (normal_of batch) s) (range_with_len 0 shards) ≡ filter (λ s. not (s == k) && is_touched shards batch s) (range_with_len 0 shards)
same_cohorts batch shards k =
    filter_agree (λ s. not (s == k) && is_touched shards (normal_of batch) s) (λ s. not (s == k) && is_touched shards batch s)
    (λ s. ap (λ b. not (s == k) && b) (same_shards batch shards s)) (range_with_len 0 shards)

-- ---- the cut
pub parts_cut : (schema : List (List ℕ)) (batch : List Change) (shards : ℕ) → 0 < shards → batch_fault schema batch ≡ None
    → IsCut shards (normal_of batch) (part_on shards (normal_of batch) (coordinator_of shards batch) ∷ map (part_on shards (normal_of batch)) (cohorts_of shards batch))
parts_cut schema batch shards some accepted = record {
  full = All-cons (λ p. p.batch ≢ []) first rest (full_part shards k kept (same_shards batch shards k ∙ first_touched schema batch shards accepted))
      (All-map (λ p. p.batch ≢ []) (part_on shards kept) (cohorts_of shards batch)
      (All-weaker (λ s. test s ≡ true) (λ s. part_for shards kept s ≢ []) (λ s e. full_part shards s kept (same_shards batch shards s ∙ (both_true (not (s == k)) (is_touched shards batch s) e).1)) (cohorts_of shards batch) (filter_passes test (range_with_len 0 shards))));
  form = All-cons (λ p. IsNormal p.batch) first rest (normal_part shards k kept (normal_form batch))
      (All-map (λ p. IsNormal p.batch) (part_on shards kept) (cohorts_of shards batch) (λ i d lt. normal_part shards (get_or (cohorts_of shards batch) i d) kept (normal_form batch)));
  whole = λ c has. whole c has;
}
  where
    kept : List Change
    kept = normal_of batch

    k : ℕ
    k = coordinator_of shards batch

    test : ℕ → Bool
    test s = not (s == k) && is_touched shards batch s

    first : ShardPart
    first = part_on shards kept k

    rest : List ShardPart
    rest = map (part_on shards kept) (cohorts_of shards batch)

    whole : (c : Change) → Contains kept c → Contains (map (λ p. p.shard) (first ∷ rest)) (shard_of shards c.row.key)
    whole c has = go (shard_of shards c.row.key == coordinator_of shards batch) refl
      where
        touched : is_touched shards batch (shard_of shards c.row.key) ≡ true
        touched =
            let here = eq-eqb (shard_of shards c.row.key) (shard_of shards c.row.key) refl in
            sym (same_shards batch shards (shard_of shards c.row.key)) ∙ contains_any (λ d. is_on shards (shard_of shards c.row.key) d.row.key) (normal_of batch) c has here

        go : (b : Bool) → (shard_of shards c.row.key == coordinator_of shards batch) ≡ b → Contains (map (λ p. p.shard) (first ∷ rest)) (shard_of shards c.row.key)
        go true e = subst (λ z. Contains (k ∷ map (λ p. p.shard) rest) z) (sym (eqb-true (shard_of shards c.row.key) k e)) (contains_head k (map (λ p. p.shard) rest))
        go false e =
            let s = shard_of shards c.row.key in
            let t = touched in
            contains_tail k (map (λ p. p.shard) rest) s
            (contains_map (λ p. p.shard) rest (part_on shards kept s)
            (contains_map (part_on shards kept) (cohorts_of shards batch) s
            (contains_filter test (range_with_len 0 shards) s (contains_below shards s (mod_below (sum c.row.key) shards some)) (rw (e, t) refl))))

-- the same of a plan
pub plan_cut : (shards : ℕ) (changes : List Change) (r : Result BatchPlan Fault) (first : ShardPart) (rest : List ShardPart) → IsCut shards changes (first ∷ rest)
    → IfOk r (λ plan. plan.coordinator ≡ first) → IfOk r (λ plan. plan.cohorts.items ≡ rest) → IfOk r (λ plan. IsCut shards changes (plan.coordinator ∷ plan.cohorts.items))
plan_cut shards changes (Ok plan) first rest cut e f = rw (e, f) cut
plan_cut shards changes (Err x) first rest cut e f = tt
