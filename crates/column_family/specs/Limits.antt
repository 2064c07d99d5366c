-- How long keys, names and values may be, in bytes.
use Rattle.std.specs.Prelude.{ℕ, Bool, ◌&&◌, nat_le, List, length}

-- the key of a row: 1 to 1,024 bytes
abbrev pub is_key : List ℕ → Bool
is_key key = nat_le 1 (length key) && nat_le (length key) 1024

-- the name of a column: 1 to 1,024 bytes
abbrev pub is_name : List ℕ → Bool
is_name name = nat_le 1 (length name) && nat_le (length name) 1024

-- an end of a range: at most 1,024 bytes, and open where it is empty
abbrev pub is_end : List ℕ → Bool
is_end name = nat_le (length name) 1024

-- a value: at most 65,536 bytes
abbrev pub is_value : List ℕ → Bool
is_value value = nat_le (length value) 65536
