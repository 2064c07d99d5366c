-- What is told of recorded histories. Bytes and numbers are written as in a transcript.
use Rattle.std.specs.Prelude.{ℕ, List, ◌++◌, length, codes, decimal}
use Rattle.std.specs.List.{flat_map}
use Rattle.slice.specs.declared.read.AnsweredRow.{AnsweredRow}
use Rattle.workload.specs.Text.{row_text}
use Rattle.audit.specs.declared.judging.Misread.{Misread}
use Rattle.audit.specs.Misreads.{misreads_from}
use Rattle.recorded.specs.Recorded.{RecordedValue}

-- `reads[N] answered`, and the end of the line
abbrev pub place_text : ℕ → List ℕ
place_text place = codes "reads[" ++ decimal place ++ codes "] answered\n"

-- where a wrong read stands, each row of its answer, `table has`, and each row of what the table has
abbrev pub parts_text : ℕ → List AnsweredRow → List AnsweredRow → List ℕ
parts_text place answered table = place_text place ++ (flat_map row_text answered ++ (codes "table has\n" ++ flat_map row_text table))

abbrev pub misread_text : Misread → List ℕ
misread_text m = parts_text m.place m.answered m.table

-- `audit reads R wrong W`
abbrev pub counts_text : ℕ → ℕ → List ℕ
counts_text reads wrong = codes "audit reads " ++ decimal reads ++ codes " wrong " ++ decimal wrong ++ codes "\n"

-- of so many reads these are wrong: each of them, and then how many there are
abbrev pub report_text : ℕ → List Misread → List ℕ
report_text reads wrong = flat_map misread_text wrong ++ counts_text reads (length wrong)

-- the reads that were answered wrong, in order
abbrev pub wrong_in : RecordedValue → List Misread
wrong_in r = misreads_from r.histories 0 r.reads

abbrev pub report_of : RecordedValue → List ℕ
report_of r = report_text (length r.reads) (wrong_in r)
