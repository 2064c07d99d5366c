-- What is said over a connection: a byte for its kind, and then its fields, numbers with the highest byte first.
use Rattle.std.specs.Prelude.{◌≡◌, ◌<◌, ◌^◌, ℕ, ⊤, List, [], ◌∷◌, ◌++◌, take}
use Rattle.std.specs.Int.{w64, to_be_bytes}
use Rattle.hello.specs.declared.role.Role.{Role}
use Rattle.hello.specs.Mac.{hmac}
use Rattle.hello.specs.Meeting.{tag_message}
use Rattle.linking.specs.declared.said.Said.{Said}
use Rattle.linking.specs.declared.said.Said.TheVariants.{Parcel, Taken, Here}

-- a parcel, with its number
abbrev pub parcel_bytes : ℕ → List ℕ → List ℕ
parcel_bytes number bytes = 4 ∷ (to_be_bytes w64 number ++ bytes)

-- below which number all parcels were taken
abbrev pub taken_bytes : ℕ → List ℕ
taken_bytes below = 5 ∷ to_be_bytes w64 below

-- the other end is still there
abbrev pub here_bytes : List ℕ
here_bytes = 6 ∷ []

abbrev pub spelling : Said → List ℕ
spelling (Parcel number bytes) = parcel_bytes number bytes.items
spelling (Taken below) = taken_bytes below
spelling Here = here_bytes

-- its number is as small as its type says
abbrev pub IsSaid : Said → Type 0
IsSaid (Parcel number bytes) = number < 2 ^ 64
IsSaid (Taken below) = below < 2 ^ 64
IsSaid Here = ⊤

-- the same is said
abbrev pub IsSame : Said → Said → Type 0
IsSame (Parcel n v) (Parcel m w) = (n ≡ m) × (v.items ≡ w.items)
IsSame (Taken n) (Taken m) = n ≡ m
IsSame Here Here = ⊤
IsSame s t = ⊥

-- no said has these bytes
abbrev pub IsNothingSaid : List ℕ → Type 0
IsNothingSaid bytes = (s : Said) → IsSaid s → ¬ (spelling s ≡ bytes)

-- the tag of a body: by the connection's key, for the role of who says it and the count of what it said before
abbrev pub tag_of : List ℕ → Role → ℕ → List ℕ → List ℕ
tag_of key role count body = take 16 (hmac key (tag_message role count body))

-- a body with its tag before it
abbrev pub tagged : List ℕ → Role → ℕ → List ℕ → List ℕ
tagged key role count body = tag_of key role count body ++ body
