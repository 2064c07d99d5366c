-- Names in their order, and ranges of them.
use Rattle.std.specs.Prelude.{ℕ, Bool, true, false, ◌&&◌, ◌||◌, List, [], ◌∷◌}
use Rattle.std.specs.Ordering.{nat_cmp, is_le}
use Rattle.std.specs.Cmp.Lexicographic.{slice_cmp}

-- whether the first name isn't above the second, as bytes
abbrev pub name_le : List ℕ → List ℕ → Bool
name_le a b = is_le (slice_cmp nat_cmp a b)

abbrev pub is_open : List ℕ → Bool
is_open [] = true
is_open (b ∷ bs) = false

-- whether a name lies between two ends: both are included, and an empty end is open
abbrev pub is_between : List ℕ → List ℕ → List ℕ → Bool
is_between low high name = (is_open low || name_le low name) && (is_open high || name_le name high)
