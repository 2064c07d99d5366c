-- What contracts say of the plan of a batch and of a read.
use Rattle.std.specs.Prelude.{◌≡◌, ◌≢◌, ℕ, List, [], map, All, Contains}
use Rattle.column_family.specs.declared.batch.Change.{Change}
use Rattle.column_family.specs.Normal.{IsNormal}
use Rattle.planner.specs.declared.batches.ShardPart.{ShardPart}
use Rattle.planner.specs.declared.reads.ShardKeys.{ShardKeys}
use Rattle.planner.specs.Partition.{shard_of}
use Rattle.planner.specs.Plan.{part_for, keys_for}

-- the part of a shard, of a batch in normal form
abbrev pub part_on : ℕ → List Change → ℕ → ShardPart
part_on shards changes shard = record { shard = shard; batch = part_for shards changes shard }

-- the keys of a shard, of those that a read lists
abbrev pub keys_on : ℕ → List (List ℕ) → ℕ → ShardKeys
keys_on shards keys shard = record { shard = shard; keys = keys_for shards keys shard }

-- The parts cut a batch by shards: none is empty, each is in normal form, and each change of the batch has a part
-- of the shard of its row. With `part_on`, which says what the part of a shard holds, it stands in no other.
pub record IsCut (shards : ℕ) (changes : List Change) (parts : List ShardPart) : Type 0 where
  pub full : All (λ p. p.batch ≢ []) parts
  pub form : All (λ p. IsNormal p.batch) parts
  pub whole : (c : Change) → Contains changes c → Contains (map (λ p. p.shard) parts) (shard_of shards c.row.key)

-- The lists cut the keys that a read lists by shards: none is empty, each key stands in the list of its shard, and
-- each list has asked keys of its shard alone.
pub record IsKeyCut (shards : ℕ) (keys : List (List ℕ)) (parts : List ShardKeys) : Type 0 where
  pub full : All (λ p. p.keys ≢ []) parts
  pub whole : (k : List ℕ) → Contains keys k → (p : ShardKeys) × Contains parts p × (p.shard ≡ shard_of shards k) × Contains p.keys k
  pub own : All (λ p. All (λ k. (shard_of shards k ≡ p.shard) × Contains keys k) p.keys) parts
