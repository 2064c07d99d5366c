-- The spelling of a reply: its frame, where it has one.
use Rattle.std.specs.Prelude.{ℕ, List, [], ◌∷◌, ◌++◌, length, nat_lt, nat_le, ◌^◌, Bool, true, ◌&&◌, Option, Some, None, Result, Ok, Err, if◌then◌else◌}
use Rattle.byteorder.specs.Endian.{big_bytes}
use Rattle.logical_time.specs.declared.fault.Fault.{Fault}
use Rattle.logical_time.specs.Fault.{number_of}
use Rattle.logical_time.specs.Stamps.{StampValue}
use Rattle.slice.specs.declared.column.Column.{Column}
use Rattle.slice.specs.declared.read.AnsweredRow.{AnsweredRow}
use Rattle.messages.specs.declared.outcome.Outcome.{Outcome}
use Rattle.messages.specs.declared.outcome.Outcome.TheVariants.{Wrote, Read, Collected, Moved}
use Rattle.wire.specs.Fields.{sized, is_sized, counted, is_counted, longest, frame}

-- what a request is answered: its outcome, or why it was refused
abbrev pub Reply : Type 0
Reply = Result Outcome Fault

-- the name behind two bytes, the value behind four
abbrev pub column : Column → List ℕ
column c = sized 2 c.name ++ sized 4 c.value

abbrev pub fits_column : Column → Bool
fits_column c = is_sized 2 c.name && is_sized 4 c.value

-- an asked row: its key, and its columns
abbrev pub row : AnsweredRow → List ℕ
row r = sized 2 r.key ++ counted column r.columns

abbrev pub fits_row : AnsweredRow → Bool
fits_row r = is_sized 2 r.key && is_counted fits_column column r.columns

-- the commit time, and the stamp as its time and its node
unfoldable pub commit_and_stamp : ℕ → StampValue → List ℕ
commit_and_stamp commit stamp = big_bytes 8 commit ++ (big_bytes 8 stamp.time ++ big_bytes 2 stamp.node)

-- 0x81, the commit time and the stamp; 0x82, the effective time and the rows; 0x83 alone; 0x85, the new home in one byte, and
-- the floor there
abbrev pub outcome : Outcome → List ℕ
outcome (Wrote commit stamp) = 129 ∷ commit_and_stamp commit stamp
outcome (Read effective answer) = 130 ∷ (big_bytes 8 effective ++ counted row answer)
outcome Collected = 131 ∷ []
outcome (Moved dc floor) = 133 ∷ dc ∷ big_bytes 8 floor

unfoldable pub fits_commit_and_stamp : ℕ → StampValue → Bool
fits_commit_and_stamp commit stamp = nat_lt commit (256 ^ 8) && (nat_lt stamp.time (256 ^ 8) && nat_lt stamp.node (256 ^ 2))

-- whether each number, each length and each count of the outcome fits where it is written
abbrev pub fits_outcome : Outcome → Bool
fits_outcome (Wrote commit stamp) = fits_commit_and_stamp commit stamp
fits_outcome (Read effective answer) = nat_lt effective (256 ^ 8) && is_counted fits_row row answer
fits_outcome Collected = true
fits_outcome (Moved dc floor) = nat_lt dc 256 && nat_lt floor (256 ^ 8)

-- 0x84, and the number of the refusal
abbrev pub refusal : Fault → List ℕ
refusal f = 132 ∷ big_bytes 2 (number_of f)

abbrev pub reply : Reply → List ℕ
reply (Ok o) = outcome o
reply (Err f) = refusal f

abbrev pub fits_reply : Reply → Bool
fits_reply (Ok o) = fits_outcome o
fits_reply (Err f) = true

-- whether the reply has a spelling: nothing in it, and not its body, is too long
abbrev pub is_reply_spelled : Reply → Bool
is_reply_spelled r = fits_reply r && nat_le (length (reply r)) longest

-- the one spelling of a reply, or none
abbrev pub reply_spelling : Reply → Option (List ℕ)
reply_spelling r = if is_reply_spelled r then Some (frame (reply r)) else None
