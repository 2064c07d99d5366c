-- The fields of frames: numbers are big-endian, and what has no fixed length stands behind its number.
use Rattle.std.specs.Prelude.{ℕ, ◌^◌, List, ◌++◌, length, nat_lt, nat_le, Bool, ◌&&◌}
use Rattle.std.specs.List.{flat_map, list_all}
use Rattle.byteorder.specs.Endian.{big_bytes}

-- bytes behind their number, which takes w bytes
abbrev pub sized : ℕ → List ℕ → List ℕ
sized w bytes = big_bytes w (length bytes) ++ bytes

-- whether w bytes can hold the number of the bytes
abbrev pub is_sized : ℕ → List ℕ → Bool
is_sized w bytes = nat_lt (length bytes) (256 ^ w)

-- a list behind the number of its items, which takes four bytes
abbrev pub counted : {A : Type 0} → (A → List ℕ) → List A → List ℕ
counted item xs = big_bytes 4 (length xs) ++ flat_map item xs

-- how many bytes the body of a frame may have
abbrev pub longest : ℕ
longest = 16777216

-- whether four bytes can hold the number of the items, each item fits, and a body can hold all of them
abbrev pub is_counted : {A : Type 0} → (A → Bool) → (A → List ℕ) → List A → Bool
is_counted fits item xs = nat_lt (length xs) (256 ^ 4) && (list_all fits xs && nat_le (length (flat_map item xs)) longest)

-- a body behind its length
abbrev pub frame : List ℕ → List ℕ
frame body = sized 4 body
