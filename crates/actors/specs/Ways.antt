-- The way to an actor among the ways of a seat.
use Rattle.std.specs.Prelude.{◌≡◌, ◌<◌, ℕ, ◌==◌, Bool, false, List, length, take, slice_get, Some}
use Rattle.std.specs.List.{list_any}
use Rattle.actors.specs.Seats.{LaneValue, ends_of}

-- there is a way to this node
abbrev pub has_way : ℕ → List LaneValue → Bool
has_way node lanes = list_any (λ to. to == node) (ends_of lanes)

-- at this place is the first way to a node
pub record IsFirstWay (node : ℕ) (lanes : List LaneValue) (place : ℕ) : Type 0 where
  pub within : place < length lanes
  pub leads : (l : LaneValue) → slice_get lanes place ≡ Some l → l.to ≡ node
  pub first : has_way node (take place lanes) ≡ false
