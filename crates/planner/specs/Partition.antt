-- The partition of rows over the shards of a data centre.
use Rattle.std.specs.Prelude.{ℕ, ◌%◌, List, sum}

-- the shard of a key, of so many: the sum of its bytes modulo their number, the same in every data centre
abbrev pub shard_of : ℕ → List ℕ → ℕ
shard_of shards key = sum key % shards
