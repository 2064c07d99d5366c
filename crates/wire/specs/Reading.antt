-- The request that a body spells, or its first fault from the left. A field is a value, and the bytes after it.
use Rattle.std.specs.Prelude.{ℕ, zero, suc, ◌==◌, List, [], ◌∷◌, length, take, drop, Bool, true, false, Result, Ok, Err, nat_lt, if◌then◌else◌}
use Rattle.byteorder.specs.Endian.{big_number}
use Rattle.logical_time.specs.declared.fault.Fault.{Fault}
use Rattle.logical_time.specs.declared.fault.Fault.TheVariants.{UnknownTag, BadCount, TrailingBytes, Truncated}
use Rattle.column_family.specs.declared.batch.Change.{Change}
use Rattle.column_family.specs.declared.batch.Mutation.{Mutation}
use Rattle.column_family.specs.declared.batch.Mutation.TheVariants.{Insert, DeleteColumn, DeleteRow, DeleteRange}
use Rattle.slice.specs.declared.predicate.Predicate.{Predicate}
use Rattle.slice.specs.declared.predicate.Predicate.TheVariants.{Names, Range}
use Rattle.messages.specs.declared.op.Op.{Op}
use Rattle.messages.specs.declared.op.Op.TheVariants.{Batch, Read, Move}

infixl 10 ◌>>=◌
-- the second after the first, unless the first has a fault
abbrev pub ◌>>=◌ : {A B : Type 0} → Result A Fault → (A → Result B Fault) → Result B Fault
(Ok x) >>= f = f x
(Err e) >>= f = Err e

-- a number of w bytes; `Truncated` where the body ends before
abbrev pub number_at : ℕ → List ℕ → Result (ℕ × List ℕ) Fault
number_at w bytes = if nat_lt (length bytes) w then Err Truncated else Ok (big_number w bytes, drop w bytes)

-- so many bytes; `Truncated` where the body ends before
abbrev pub cut_at : ℕ → List ℕ → Result (List ℕ × List ℕ) Fault
cut_at n bytes = if nat_lt (length bytes) n then Err Truncated else Ok (take n bytes, drop n bytes)

-- bytes behind their number, which takes w bytes
unfoldable pub sized_at : ℕ → List ℕ → Result (List ℕ × List ℕ) Fault
sized_at w bytes = do
  n ← number_at w bytes
  cut_at n.0 n.1

-- items, one after the other
unfoldable pub list_at : {A : Type 0} → (List ℕ → Result (A × List ℕ) Fault) → ℕ → List ℕ → Result (List A × List ℕ) Fault
list_at item_at zero bytes = Ok ([], bytes)
list_at item_at (suc n) bytes = do
  first ← item_at bytes
  others ← list_at item_at n first.1
  Ok (first.0 ∷ others.0, others.1)

-- the number of a list's items; `BadCount` where it is greater than the number of bytes after it
abbrev pub count_at : List ℕ → Result (ℕ × List ℕ) Fault
count_at bytes = number_at 4 bytes >>= λ n. if nat_lt (length n.1) n.0 then Err BadCount else Ok n

-- a list behind the number of its items
unfoldable pub counted_at : {A : Type 0} → (List ℕ → Result (A × List ℕ) Fault) → List ℕ → Result (List A × List ℕ) Fault
counted_at item_at bytes = do
  n ← count_at bytes
  list_at item_at n.0 n.1

unfoldable pub insertion_at : List ℕ → Result (Mutation × List ℕ) Fault
insertion_at bytes = do
  name ← sized_at 2 bytes
  value ← sized_at 4 name.1
  Ok (Insert name.0 value.0, value.1)

unfoldable pub deletion_at : List ℕ → Result (Mutation × List ℕ) Fault
deletion_at bytes = do
  name ← sized_at 2 bytes
  Ok (DeleteColumn name.0, name.1)

unfoldable pub range_deletion_at : List ℕ → Result (Mutation × List ℕ) Fault
range_deletion_at bytes = do
  start ← sized_at 2 bytes
  finish ← sized_at 2 start.1
  Ok (DeleteRange start.0 finish.0, finish.1)

-- what is done to a row, behind its kind; `UnknownTag` where that is none
unfoldable pub mutation_at : List ℕ → Result (Mutation × List ℕ) Fault
mutation_at [] = Err Truncated
mutation_at (kind ∷ rest) =
    if kind == 0 then insertion_at rest
    else (if kind == 1 then deletion_at rest
    else (if kind == 2 then Ok (DeleteRow, rest)
    else (if kind == 3 then range_deletion_at rest
    else Err UnknownTag)))

unfoldable pub change_at : List ℕ → Result (Change × List ℕ) Fault
change_at bytes = do
  family ← sized_at 1 bytes
  key ← sized_at 2 family.1
  mutation ← mutation_at key.1
  Ok (record { row = record { family = family.0; key = key.0 }; mutation = mutation.0 }, mutation.1)

-- off or on; `UnknownTag` for anything else
unfoldable pub flag_at : List ℕ → Result (Bool × List ℕ) Fault
flag_at [] = Err Truncated
flag_at (b ∷ rest) = if b == 0 then Ok (false, rest) else (if b == 1 then Ok (true, rest) else Err UnknownTag)

unfoldable pub names_at : List ℕ → Result (Predicate × List ℕ) Fault
names_at bytes = do
  names ← counted_at (sized_at 2) bytes
  Ok (Names names.0, names.1)

-- the count of a range is any number of four bytes
unfoldable pub range_at : List ℕ → Result (Predicate × List ℕ) Fault
range_at bytes = do
  start ← sized_at 2 bytes
  finish ← sized_at 2 start.1
  reversed ← flag_at finish.1
  count ← number_at 4 reversed.1
  Ok (Range start.0 finish.0 reversed.0 count.0, count.1)

-- which columns are asked for, behind the kind; `UnknownTag` where that is none
unfoldable pub predicate_at : List ℕ → Result (Predicate × List ℕ) Fault
predicate_at [] = Err Truncated
predicate_at (kind ∷ rest) =
    if kind == 0 then names_at rest
    else (if kind == 1 then range_at rest
    else Err UnknownTag)

unfoldable pub batch_at : List ℕ → Result (Op × List ℕ) Fault
batch_at bytes = do
  changes ← counted_at change_at bytes
  Ok (Batch changes.0, changes.1)

unfoldable pub read_at : List ℕ → Result (Op × List ℕ) Fault
read_at bytes = do
  family ← sized_at 1 bytes
  keys ← counted_at (sized_at 2) family.1
  predicate ← predicate_at keys.1
  Ok (Read (record { family = family.0; keys = keys.0; predicate = predicate.0 }), predicate.1)

-- the data centre that the session moves to
unfoldable pub move_at : List ℕ → Result (Op × List ℕ) Fault
move_at [] = Err Truncated
move_at (dc ∷ rest) = Ok (Move dc, rest)

-- a request, behind its kind; `UnknownTag` where that is none
unfoldable pub request_at : List ℕ → Result (Op × List ℕ) Fault
request_at [] = Err Truncated
request_at (kind ∷ rest) =
    if kind == 1 then batch_at rest
    else (if kind == 2 then read_at rest
    else (if kind == 3 then move_at rest
    else Err UnknownTag))

-- `TrailingBytes` where something is left
abbrev pub whole_of : {A : Type 0} → A × List ℕ → Result A Fault
whole_of (x, []) = Ok x
whole_of (x, b ∷ bs) = Err TrailingBytes

-- the request that is the whole body
unfoldable pub body_at : List ℕ → Result Op Fault
body_at bytes = request_at bytes >>= λ x. whole_of x
