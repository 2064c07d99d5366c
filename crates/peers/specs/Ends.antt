-- The two ends of a one-way link. What goes over it are parcels, which are byte strings; the first has the number 0.
use Rattle.std.specs.Prelude.{ℕ, ◌+◌, ◌-◌, nat_lt, max, if◌then◌else◌, List, [], ◌∷◌, ◌++◌, length, drop, Option, None, slice_get}

-- what the sender's end keeps: parcels one after the other, and the number of the first of them
pub record OutboundValue : Type 0 where
  pub first : ℕ
  pub kept : List (List ℕ)

-- the number that the next parcel gets
abbrev pub next_of : OutboundValue → ℕ
next_of o = o.first + length o.kept

-- how many bytes parcels have
abbrev pub bytes_of : List (List ℕ) → ℕ
bytes_of [] = 0
bytes_of (p ∷ ps) = length p + bytes_of ps

-- the parcel that is kept under a number
abbrev pub parcel_at : OutboundValue → ℕ → Option (List ℕ)
parcel_at o number = if nat_lt number o.first then None else slice_get o.kept (number - o.first)

-- one parcel more is kept
abbrev pub put : List ℕ → OutboundValue → OutboundValue
put parcel o = record { first = o.first; kept = o.kept ++ parcel ∷ [] }

-- those below a number are kept no longer; nothing changes where none of them is kept
abbrev pub acknowledged : ℕ → OutboundValue → OutboundValue
acknowledged below o = record { first = max o.first below; kept = drop (below - o.first) o.kept }
