-- The text of a transcript: numbers are decimal, bytes are two hexadecimal digits each, in lower case.
use Rattle.std.specs.Prelude.{ℕ, Bool, ◌&&◌, nat_le, List, ◌++◌, length, codes, decimal}
use Rattle.std.specs.List.{flat_map}
use Rattle.hex.specs.Hex.{encode_lower}
use Rattle.logical_time.specs.declared.fault.Fault.{Fault}
use Rattle.logical_time.specs.Fault.{number_of}
use Rattle.logical_time.specs.Stamps.{StampValue}
use Rattle.slice.specs.declared.column.Column.{Column}
use Rattle.slice.specs.declared.read.AnsweredRow.{AnsweredRow}
use Rattle.workload.specs.declared.transcript.Entry.{Entry}
use Rattle.workload.specs.declared.transcript.Entry.TheVariants.{Wrote, Read, Collected, Moved, Refused}

-- ` NAME=VALUE`
abbrev pub column_text : Column → List ℕ
column_text c = codes " " ++ encode_lower c.name ++ codes "=" ++ encode_lower c.value

-- a column is short whose name and value have at most 32 bytes each
abbrev pub is_short_column : Column → Bool
is_short_column c = nat_le (length c.name) 32 && nat_le (length c.value) 32

-- `  KEY:`, then each column, and the end of the line
abbrev pub line_text : List ℕ → List Column → List ℕ
line_text key columns = codes "  " ++ encode_lower key ++ codes ":" ++ flat_map column_text columns ++ codes "\n"

-- the line of a row
abbrev pub row_text : AnsweredRow → List ℕ
row_text r = line_text r.key r.columns

-- `node N op M`
unfoldable pub op_text : ℕ → ℕ → List ℕ
op_text node number = codes "node " ++ decimal node ++ codes " op " ++ decimal number

-- ` wrote commit C stamp T.K`, and the end of the line
abbrev pub commit_text : ℕ → StampValue → List ℕ
commit_text commit stamp =
    codes " wrote commit " ++ decimal commit ++ codes " stamp " ++ decimal stamp.time ++ codes "." ++ decimal stamp.node ++ codes "\n"

-- ` read at T`, and the end of the line; then one line for each key
abbrev pub answer_text : ℕ → List AnsweredRow → List ℕ
answer_text effective answer = codes " read at " ++ decimal effective ++ codes "\n" ++ flat_map row_text answer

-- ` moved to D floor F`, and the end of the line
abbrev pub move_text : ℕ → ℕ → List ℕ
move_text dc floor = codes " moved to " ++ decimal dc ++ codes " floor " ++ decimal floor ++ codes "\n"

-- `node N refused R`, and the end of the line
abbrev pub refusal_text : ℕ → Fault → List ℕ
refusal_text node fault = codes "node " ++ decimal node ++ codes " refused " ++ decimal (number_of fault) ++ codes "\n"

-- an entry: one line, and after that of a read one for each key
abbrev pub entry_text : Entry → List ℕ
entry_text (Wrote node number commit stamp) = op_text node number ++ commit_text commit stamp
entry_text (Read node number effective answer) = op_text node number ++ answer_text effective answer
entry_text (Collected node number) = op_text node number ++ codes " collected\n"
entry_text (Moved node number dc floor) = op_text node number ++ move_text dc floor
entry_text (Refused node fault) = refusal_text node fault

abbrev pub text_of : List Entry → List ℕ
text_of entries = flat_map entry_text entries
