-- Replies, as one who asks for a load hears them.
use Rattle.std.specs.Prelude.{ℕ, ◌+◌, ◌*◌, ◌==◌, List, [], ◌∷◌, length, take, drop, Option, Some, None, nat_lt, if◌then◌else◌}
use Rattle.byteorder.specs.Endian.{big_number}
use Rattle.wire.specs.Fields.{longest}
use Rattle.load.specs.declared.replies.Reply.{Reply}
use Rattle.load.specs.declared.replies.Reply.TheVariants.{Wrote, Read, Refused}
use Rattle.load.specs.declared.replies.Front.{Front}
use Rattle.load.specs.declared.replies.Front.TheVariants.{Waits, Garbled, Whole}

-- a refusal by its number, where that is one of a refusal
unfoldable pub refusal_in : List ℕ → Option Reply
refusal_in (high ∷ low ∷ []) = if nat_lt (256 * high + low) 64 then Some (Refused (256 * high + low)) else None
refusal_in rest = None

-- what a body says: a write, a read, a read that came too late for a collection, a refusal
unfoldable pub said_by : List ℕ → Option Reply
said_by [] = None
said_by (kind ∷ rest) =
    if kind == 129 then Some Wrote
    else (if kind == 130 then Some Read
    else (if kind == 131 then Some (Refused 21)
    else (if kind == 132 then refusal_in rest
    else None)))

abbrev pub front_with : ℕ → Option Reply → Front
front_with used (Some reply) = Whole reply used
front_with used None = Garbled

-- what stands first in a stream of replies
unfoldable pub front_of : List ℕ → Front
front_of bytes =
    if nat_lt (length bytes) 4 then Waits
    else (if nat_lt longest (big_number 4 bytes) then Garbled
    else (if nat_lt (length bytes) (4 + big_number 4 bytes) then Waits
    else front_with (4 + big_number 4 bytes) (said_by (take (big_number 4 bytes) (drop 4 bytes)))))
