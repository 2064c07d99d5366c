-- Items with their shards, as the cuts keep them: two lists, with the shard of each item at its place.
use Rattle.std.specs.Prelude.{ℕ, ◌==◌, if◌then◌else◌, List, [], ◌∷◌}
use Rattle.column_family.specs.declared.batch.Change.{Change}
use Rattle.planner.specs.Partition.{shard_of}

-- the shard of a change
abbrev pub home_of : ℕ → Change → ℕ
home_of shards c = shard_of shards c.row.key

-- the items of a shard, in order, by the shards of all
abbrev pub kept_of : {X : Type 0} → ℕ → List ℕ → List X → List X
kept_of shard [] xs = []
kept_of shard (h ∷ hs) [] = []
kept_of shard (h ∷ hs) (x ∷ xs) = if h == shard then x ∷ kept_of shard hs xs else kept_of shard hs xs
