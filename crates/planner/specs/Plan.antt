-- How a batch and a read are cut by shards. Each definition takes the number of shards first.
use Rattle.std.specs.Prelude.{ℕ, Bool, ◌==◌, ◌&&◌, not, List, [], ◌∷◌, filter}
use Rattle.std.specs.List.{list_any, range_with_len}
use Rattle.column_family.specs.declared.batch.Change.{Change}
use Rattle.table.specs.Meaning.{each_once}
use Rattle.planner.specs.Partition.{shard_of}

-- whether the key belongs to the shard
abbrev pub is_on : ℕ → ℕ → List ℕ → Bool
is_on shards shard key = shard_of shards key == shard

-- of a batch in normal form the part of a shard: the changes of its rows, in order
abbrev pub part_for : ℕ → List Change → ℕ → List Change
part_for shards changes shard = filter (λ c. is_on shards shard c.row.key) changes

-- whether the batch touches a row of the shard
abbrev pub is_touched : ℕ → List Change → ℕ → Bool
is_touched shards batch shard = list_any (λ c. is_on shards shard c.row.key) batch

-- the coordinator of a batch as it is submitted: the shard of its first row (Eiger), and 0 for an empty batch
abbrev pub coordinator_of : ℕ → List Change → ℕ
coordinator_of shards [] = 0
coordinator_of shards (c ∷ cs) = shard_of shards c.row.key

-- The cohorts of a batch as it is submitted: the other shards that it touches, ascending, each once (Eiger). Where
-- nothing refuses the batch, its normal form has the same rows, so no part of it for one of these shards is empty.
abbrev pub cohorts_of : ℕ → List Change → List ℕ
cohorts_of shards batch =
    filter (λ s. not (s == coordinator_of shards batch) && is_touched shards batch s) (range_with_len 0 shards)

-- of the keys that a read lists those of a shard, each once, in the order of first asking
abbrev pub keys_for : ℕ → List (List ℕ) → ℕ → List (List ℕ)
keys_for shards keys shard = filter (is_on shards shard) (each_once keys)

-- the shards of the keys that a read lists, ascending, each once
abbrev pub shards_asked : ℕ → List (List ℕ) → List ℕ
shards_asked shards keys = filter (λ s. list_any (is_on shards s) keys) (range_with_len 0 shards)
