-- The cohorts of a transaction as one byte: a shard's bit is that of its number.
use Rattle.std.specs.Prelude.{ℕ, Bool, ◌+◌, ◌^◌, ◌/◌, ◌%◌, ◌==◌, List, [], ◌∷◌, filter}
use Rattle.std.specs.List.{range_with_len}

-- whether the bit of the shard is set
abbrev pub has_bit : ℕ → ℕ → Bool
has_bit bits shard = bits / 2 ^ shard % 2 == 1

-- the shards whose bits are set, ascending
unfoldable pub shards_in : ℕ → List ℕ
shards_in bits = filter (has_bit bits) (range_with_len 0 8)

-- the byte in which the bits of these shards are set
unfoldable pub bits_of : List ℕ → ℕ
bits_of [] = 0
bits_of (s ∷ ss) = 2 ^ s + bits_of ss
