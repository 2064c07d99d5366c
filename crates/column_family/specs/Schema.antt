-- Which names may be families, and which families a schema.
use Rattle.std.specs.Prelude.{ℕ, Bool, true, ◌&&◌, ◌||◌, not, nat_le, ◌==◌, List, [], ◌∷◌, length}
use Rattle.std.specs.List.{list_all, list_any}
use Rattle.std.specs.Str.{bytes_eq}

-- a letter, a digit or an underscore
abbrev pub is_family_byte : ℕ → Bool
is_family_byte b =
    (nat_le 48 b && nat_le b 57) || (nat_le 65 b && nat_le b 90) || (nat_le 97 b && nat_le b 122) || (b == 95)

-- 1 to 64 letters, digits and underscores
abbrev pub is_family_name : List ℕ → Bool
is_family_name name = nat_le 1 (length name) && nat_le (length name) 64 && list_all is_family_byte name

abbrev pub are_distinct : List (List ℕ) → Bool
are_distinct [] = true
are_distinct (f ∷ fs) = not (list_any (λ g. bytes_eq g f) fs) && are_distinct fs

-- 1 to 16 families, no two the same
abbrev pub is_schema : List (List ℕ) → Bool
is_schema fs = nat_le 1 (length fs) && nat_le (length fs) 16 && list_all is_family_name fs && are_distinct fs

-- whether the schema has the family
abbrev pub has_family : List (List ℕ) → List ℕ → Bool
has_family schema family = list_any (λ f. bytes_eq f family) schema
