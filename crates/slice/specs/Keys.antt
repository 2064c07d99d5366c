-- Lists of keys, which stand in one of two places.
use Rattle.std.specs.Prelude.{List, [], ◌∷◌, ℕ}
use Rattle.slice.specs.declared.read.Listed.{Listed}
use Rattle.slice.specs.declared.read.Listed.TheVariants.{One, Many}

-- the keys
abbrev pub listed_in : Listed → List (List ℕ)
listed_in (One key) = key ∷ []
listed_in (Many keys) = keys.value.items
