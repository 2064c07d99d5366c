-- What a complete read answers.
use Rattle.std.specs.Prelude.{ℕ, List, flat_map}
use Rattle.slice.specs.declared.read.Read.{Read}
use Rattle.slice.specs.declared.read.AnsweredRow.{AnsweredRow}
use Rattle.messages.specs.declared.rows_at.RowAt.{RowAt}
use Rattle.messages.specs.Rounds.{answer_of}
use Rattle.read_txn.specs.States.{Completed}
use Rattle.read_txn.specs.declared.completing.Taken.{Taken}

-- a row that was taken
abbrev pub row_of : Taken → RowAt
row_of t = record { key = t.key.now; columns = t.columns.now; writers = t.writers.now }

-- a row that was taken, as an answer shows it
abbrev pub shown : RowAt → AnsweredRow
shown r = record { key = r.key; columns = r.columns }

-- a read that completes at a time with these rows
abbrev pub answered : Read → ℕ → List RowAt → Completed
answered read time rows = record { effective = time; answer = answer_of read rows; writers = flat_map (λ r. r.writers) rows }
