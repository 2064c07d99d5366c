-- Where the shards of a plan's cohorts ascend.
use Rattle.std.proofs.Common.{[], ◌∷◌, ◌++◌, ◌≡◌, ◌∙◌, ℕ, ◌+◌, ◌<◌, List, take, length, get_or, map, subst, sym, ap, ap₂, All, arith}
use Rattle.std.specs.List.{range_with_len}
use Rattle.std.specs.List.Sorted.{IsStrictlyIncreasing}
use Rattle.std.proofs.lemmas.List.{get_or-map, length-map, take_more}
use Rattle.std.proofs.lemmas.List.Kept.{AllPairs-from_increasing, IsStrictlyIncreasing-filter}
use Rattle.std.proofs.lemmas.List.FromFn.{length-range_with_len, get_or-range_with_len}
use Rattle.std.proofs.lemmas.Grind.{get_or_default_zero}
use Rattle.std.proofs.Math.Seq.{get_or-take, length-take-le}
use Rattle.column_family.specs.declared.batch.Change.{Change}
use Rattle.column_family.specs.Places.{normal_of}
use Rattle.planner.specs.declared.batches.ShardPart.{ShardPart}
use Rattle.planner.specs.Plan.{cohorts_of}
use Rattle.planner.specs.Planned.{part_on}
use Rattle.client.proofs.Planned.{mapped_twice, mapped_same}

-- each number that stands before another is below it
pub below_next : (ss : List ℕ) (i d : ℕ) → IsStrictlyIncreasing ss → i < length ss → All (λ s. s < get_or ss i d) (take i ss)
below_next ss i d up lt k e l =
    let before : k < i = omega (arith, length-take-le i ss) in
    let same : get_or ss k d ≡ get_or (take i ss) k e =
    get_or_default_zero ss k d (omega (arith, lt)) ∙ sym (get_or_default_zero ss k e (omega (arith, lt))) ∙ sym (get_or-take i ss k e before) in
    subst (λ s. s < get_or ss i d) same (AllPairs-from_increasing ss up k i d before lt)

range_up : (n : ℕ) → IsStrictlyIncreasing (range_with_len 0 n)
range_up n k l =
    let within : k + 1 < n = subst (λ m. k + 1 < m) (length-range_with_len 0 n) l in
    omega (arith, get_or-range_with_len 0 n k 0, get_or-range_with_len 0 n (k + 1) 0)

pub cohorts_ascend : (shards : ℕ) (batch : List Change) (parts : List ShardPart) → parts ≡ map (part_on shards (normal_of batch)) (cohorts_of shards batch)
    → IsStrictlyIncreasing (map (λ p. p.shard) parts)
cohorts_ascend shards batch parts is =
    let shown : map (λ (p : ShardPart). p.shard) parts ≡ cohorts_of shards batch =
    ap (map (λ (p : ShardPart). p.shard)) is ∙ mapped_twice (part_on shards (normal_of batch)) (λ (p : ShardPart). p.shard) (cohorts_of shards batch) ∙ mapped_same _ in
    subst IsStrictlyIncreasing (sym shown) (IsStrictlyIncreasing-filter _ _ (range_up shards))

-- the shards of the first parts, of which the next one comes
module _ (parts : List ShardPart) (i : ℕ) (part : ShardPart) (is : part ≡ get_or parts i part) (lt : i < length parts) (cohorts : List ℕ) (so_far : cohorts ≡ take i (map (λ p. p.shard) parts)) where
  abbrev pub shards : List ℕ
  shards = map (λ (p : ShardPart). p.shard) parts

  within : i < length shards
  within =
      let as_many : length shards ≡ length parts = length-map parts (λ (p : ShardPart). p.shard) in
      omega (arith, as_many, lt)

  next : get_or shards i 0 ≡ part.shard
  next = get_or-map (λ (p : ShardPart). p.shard) parts i part 0 lt ∙ ap (λ (p : ShardPart). p.shard) (sym is)

  pub all_below : IsStrictlyIncreasing shards → All (λ s. s < part.shard) cohorts
  all_below up = subst (λ l. All (λ s. s < part.shard) l) (sym so_far) (subst (λ n. All (λ s. s < n) (take i shards)) next (below_next shards i 0 up within))

  pub one_more : (more : List ℕ) → more ≡ cohorts ++ part.shard ∷ [] → more ≡ take (i + 1) shards
  one_more more is = is ∙ ap₂ (λ l n. l ++ n ∷ []) so_far (sym next) ∙ sym (take_more shards i 0 within)
