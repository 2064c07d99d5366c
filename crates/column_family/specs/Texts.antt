-- Texts that stand in one of two places.
use Rattle.std.specs.Prelude.{◌≡◌, ◌<◌, ◌≤◌, ◌+◌, ◌*◌, ◌^◌, ℕ, List, length}
use Rattle.column_family.specs.declared.shared_bytes.Text.{Text}
use Rattle.column_family.specs.declared.shared_bytes.Text.TheVariants.{Few, Many}
use Rattle.column_family.specs.Heads.{head_of, StartsWithBytes}

-- the bytes
abbrev pub bytes_of : Text → List ℕ
bytes_of (Few few) = few
bytes_of (Many high middle low bytes) = bytes.value.items

-- few bytes stand in the handle; of more it has the first seven, as one number in three parts
abbrev pub IsText : Text → Type 0
IsText (Few few) = (length few ≤ 14) × StartsWithBytes 14 few
IsText (Many high middle low bytes) = (high * 256 ^ 6 + middle * 256 ^ 4 + low ≡ head_of 7 bytes.value.items) × (14 < length bytes.value.items) × StartsWithBytes 7 bytes.value.items
