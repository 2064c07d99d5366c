-- The texts of a log's records.
use Rattle.std.specs.Prelude.{◌≡◌, ℕ, ◌^◌, ◌<◌, List, ◌∷◌, ◌++◌, Option, Some, option_map}
use Rattle.byteorder.specs.Endian.{big_bytes}
use Rattle.wire.specs.Requests.{spelling}
use Rattle.ledger.specs.declared.entry.Entry.{Entry}
use Rattle.ledger.specs.declared.entry.Entry.TheVariants.{Request, Rested}

-- 1, the session and the request's frame; or 2 and the shard: each number in two bytes, the highest first
abbrev pub text_of : Entry → Option (List ℕ)
text_of (Request session op) = option_map (λ frame. 1 ∷ (big_bytes 2 session ++ frame)) (spelling op)
text_of (Rested shard) = Some (2 ∷ big_bytes 2 shard)

-- a request has a text where it has a frame
abbrev pub IsTextOf : Entry → List ℕ → Type 0
IsTextOf entry text = text_of entry ≡ Some text

-- two bytes hold the number of its session, or of its shard
abbrev pub IsNumbered : Entry → Type 0
IsNumbered (Request session op) = session < 256 ^ 2
IsNumbered (Rested shard) = shard < 256 ^ 2
