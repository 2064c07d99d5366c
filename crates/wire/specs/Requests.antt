-- The spelling of a request: its frame, where it has one.
use Rattle.std.specs.Prelude.{ℕ, ◌^◌, List, [], ◌∷◌, ◌++◌, length, nat_lt, nat_le, Bool, true, false, ◌&&◌, Option, Some, None, if◌then◌else◌}
use Rattle.byteorder.specs.Endian.{big_bytes}
use Rattle.column_family.specs.declared.batch.Change.{Change}
use Rattle.column_family.specs.declared.batch.Mutation.{Mutation}
use Rattle.column_family.specs.declared.batch.Mutation.TheVariants.{Insert, DeleteColumn, DeleteRow, DeleteRange}
use Rattle.slice.specs.declared.predicate.Predicate.{Predicate}
use Rattle.slice.specs.declared.predicate.Predicate.TheVariants.{Names, Range}
use Rattle.messages.specs.declared.op.Op.{Op}
use Rattle.messages.specs.declared.op.Op.TheVariants.{Batch, Read, Move}
use Rattle.wire.specs.Fields.{sized, is_sized, counted, is_counted, longest, frame}

-- names, keys and ends of ranges stand behind two bytes, values behind four
abbrev pub mutation : Mutation → List ℕ
mutation (Insert name value) = 0 ∷ (sized 2 name ++ sized 4 value)
mutation (DeleteColumn name) = 1 ∷ sized 2 name
mutation DeleteRow = 2 ∷ []
mutation (DeleteRange start finish) = 3 ∷ (sized 2 start ++ sized 2 finish)

abbrev pub fits_mutation : Mutation → Bool
fits_mutation (Insert name value) = is_sized 2 name && is_sized 4 value
fits_mutation (DeleteColumn name) = is_sized 2 name
fits_mutation DeleteRow = true
fits_mutation (DeleteRange start finish) = is_sized 2 start && is_sized 2 finish

-- a change of a batch: the family behind one byte, the key, and what is done to the row
abbrev pub change : Change → List ℕ
change c = sized 1 c.row.family ++ (sized 2 c.row.key ++ mutation c.mutation)

abbrev pub fits_change : Change → Bool
fits_change c = is_sized 1 c.row.family && (is_sized 2 c.row.key && fits_mutation c.mutation)

abbrev pub flag : Bool → ℕ
flag false = 0
flag true = 1

-- a list of names; or start, finish, whether the walk is reversed, and how many columns at most
abbrev pub predicate : Predicate → List ℕ
predicate (Names names) = 0 ∷ counted (sized 2) names
predicate (Range start finish reversed count) = 1 ∷ (sized 2 start ++ (sized 2 finish ++ (flag reversed ∷ big_bytes 4 count)))

abbrev pub fits_predicate : Predicate → Bool
fits_predicate (Names names) = is_counted (is_sized 2) (sized 2) names
fits_predicate (Range start finish reversed count) = is_sized 2 start && (is_sized 2 finish && nat_lt count (256 ^ 4))

-- a batch by its changes; a read by its family, its keys as they were listed, and its predicate; a move by the new home, in one
-- byte
abbrev pub request : Op → List ℕ
request (Batch changes) = 1 ∷ counted change changes
request (Read read) = 2 ∷ (sized 1 read.family ++ (counted (sized 2) read.keys ++ predicate read.predicate))
request (Move dc) = 3 ∷ dc ∷ []

-- whether each length, each count and each number of the request fits where it is written
abbrev pub fits_request : Op → Bool
fits_request (Batch changes) = is_counted fits_change change changes
fits_request (Read read) = is_sized 1 read.family && (is_counted (is_sized 2) (sized 2) read.keys && fits_predicate read.predicate)
fits_request (Move dc) = nat_lt dc 256

-- whether the request has a spelling: nothing in it, and not its body, is too long
abbrev pub is_spelled : Op → Bool
is_spelled op = fits_request op && nat_le (length (request op)) longest

-- the one spelling of a request, or none
abbrev pub spelling : Op → Option (List ℕ)
spelling op = if is_spelled op then Some (frame (request op)) else None
