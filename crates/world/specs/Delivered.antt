-- Which messages were delivered, by their numbers.
use Rattle.std.specs.Prelude.{◌≡◌, ℕ, ◌<◌, Bool, true, false, List, slice_get, Option, Some, None}

-- for each number up to some, whether it was delivered; and the first that wasn't
pub record DeliveredValue : Type 0 where
  pub marks : List Bool
  pub first : ℕ

-- whether a place of the list is marked; past its end nothing is
abbrev pub is_marked : List Bool → ℕ → Bool
is_marked marks k = is_true (slice_get marks k)
  where
    is_true : Option Bool → Bool
    is_true None = false
    is_true (Some b) = b

-- this is the first place that isn't marked
pub record IsFirstUnmarked (marks : List Bool) (k : ℕ) : Type 0 where
  pub before : (j : ℕ) → j < k → is_marked marks j ≡ true
  pub here : is_marked marks k ≡ false
