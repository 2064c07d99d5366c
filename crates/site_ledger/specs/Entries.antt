-- The texts of the records of a site's log.
use Rattle.std.specs.Prelude.{◌≡◌, ℕ, ◌^◌, ◌<◌, ◌==◌, ◌&&◌, nat_lt, List, ◌∷◌, ◌++◌, length, Option, Some, None, option_map, if◌then◌else◌}
use Rattle.byteorder.specs.Endian.{big_bytes}
use Rattle.wire.specs.Requests as requests
use Rattle.parcels.specs.Spelling as parcels
use Rattle.site_ledger.specs.declared.entry.Entry.{Entry}
use Rattle.site_ledger.specs.declared.entry.Entry.TheVariants.{Whose, Asked, Came, Turned, Collected, Met}

-- The number of the kind, then the fields in order: each number with its highest byte first, a request by its frame, an envelope by
-- its parcel. An incarnation has 16 bytes, a digest 32, and a time is below 2^48.
abbrev pub text_of : Entry → Option (List ℕ)
text_of (Whose dc incarnation digest) = if length incarnation == 16 && length digest == 32 then Some (3 ∷ (big_bytes 2 dc ++ (incarnation ++ digest))) else None
text_of (Asked session op) = option_map (λ frame. 4 ∷ (big_bytes 2 session ++ frame)) (requests.spelling op)
text_of (Came from envelope) = option_map (λ parcel. 5 ∷ (big_bytes 2 from ++ parcel)) (parcels.spelling envelope)
text_of (Turned count) = Some (6 ∷ big_bytes 4 count)
text_of (Collected shard time) = if nat_lt time (2 ^ 48) then Some (7 ∷ (big_bytes 2 shard ++ big_bytes 8 time)) else None
text_of (Met dc incarnation) = if length incarnation == 16 then Some (8 ∷ (big_bytes 2 dc ++ incarnation)) else None

-- a request has a text where it has a frame, and an envelope where it has a parcel
abbrev pub IsTextOf : Entry → List ℕ → Type 0
IsTextOf entry text = text_of entry ≡ Some text

-- two bytes hold the number of its data centre, session or shard, and four the count of its turns
abbrev pub IsNumbered : Entry → Type 0
IsNumbered (Whose dc incarnation digest) = dc < 256 ^ 2
IsNumbered (Asked session op) = session < 256 ^ 2
IsNumbered (Came from envelope) = from < 256 ^ 2
IsNumbered (Turned count) = count < 256 ^ 4
IsNumbered (Collected shard time) = shard < 256 ^ 2
IsNumbered (Met dc incarnation) = dc < 256 ^ 2

-- what a text is read as: an entry whose text it is, or none where it is that of no entry
abbrev pub IsRead : List ℕ → Option Entry → Type 0
IsRead text (Some entry) = IsTextOf entry text × IsNumbered entry
IsRead text None = (entry : Entry) → IsTextOf entry text → ⊥
