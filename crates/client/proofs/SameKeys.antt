-- Lists of keys that are told to be equal.
use Rattle.std.specs.Prelude.{◌≡◌, ℕ, List, true, nat_eq}
use Rattle.std.specs.Cmp.Lexicographic.{pointwise, pointwise_decides, bytes_decides}

pub same_keys : (xs ys : List (List ℕ)) → pointwise (pointwise nat_eq) xs ys ≡ true → xs ≡ ys
same_keys xs ys equal = (pointwise_decides bytes_decides xs ys).0 equal
