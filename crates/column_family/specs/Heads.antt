-- How the first bytes of a text order it.
use Rattle.std.specs.Prelude.{◌≡◌, ℕ, ◌+◌, ◌*◌, ◌^◌, ◌%◌, ◌<◌, suc, zero, List, [], ◌∷◌, length, get_or, slice_index_or}

-- the first n bytes as one number, of which the first weighs most; one that isn't there counts 0
unfoldable pub head_of : ℕ → List ℕ → ℕ
head_of zero bytes = 0
head_of (suc n) [] = 0
head_of (suc n) (b ∷ bytes) = b * 256 ^ n + head_of n bytes

-- the first n numbers are bytes
unfoldable pub StartsWithBytes : ℕ → List ℕ → Type 0
StartsWithBytes zero bytes = Unit {0}
StartsWithBytes (suc n) [] = Unit {0}
StartsWithBytes (suc n) (b ∷ bytes) = (b < 256) × StartsWithBytes n bytes

-- the first eight bytes as one number
abbrev pub first_of : List ℕ → ℕ
first_of bytes = head_of 8 bytes

-- the bytes from the eighth to the fourteenth as one number, and then how many bytes there are
abbrev pub second_of : List ℕ → ℕ
second_of bytes = head_of 14 bytes % 256 ^ 7 * 256 + length bytes

-- fourteen places hold these bytes, and 0 behind them
abbrev pub IsPadded : List ℕ → List ℕ → Type 0
IsPadded places bytes = (i : ℕ) → i < 14 → slice_index_or places i 0 ≡ get_or bytes i 0
