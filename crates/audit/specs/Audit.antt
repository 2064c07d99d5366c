-- What an audit counts.
use Rattle.std.specs.Prelude.{ℕ, Bool, true, false, not, ◌&&◌, List, slice_get, Option, Some, None}
use Rattle.std.specs.Str.{bytes_eq}
use Rattle.std.specs.Cmp.Lexicographic.{pointwise}
use Rattle.column_family.specs.History.{History}
use Rattle.slice.specs.declared.column.Column.{Column}
use Rattle.slice.specs.declared.read.AnsweredRow.{AnsweredRow}
use Rattle.table.specs.Meaning.{meaning}
use Rattle.messages.specs.declared.op.Op.{Op}
use Rattle.messages.specs.declared.op.Op.TheVariants as op
use Rattle.messages.specs.declared.outcome.Outcome.{Outcome}
use Rattle.messages.specs.declared.outcome.Outcome.TheVariants as outcome
use Rattle.world.specs.declared.completed.Completed.{Completed}

-- whether two columns are the same
abbrev pub is_same_column : Column → Column → Bool
is_same_column c d = bytes_eq c.name d.name && bytes_eq c.value d.value

-- whether two rows of answers are the same
abbrev pub is_same_row : AnsweredRow → AnsweredRow → Bool
is_same_row r s = bytes_eq r.key s.key && pointwise is_same_column r.columns s.columns

-- whether an answer is the meaning of what was asked, on a history at a time: without a history, or where no read was
-- asked, none is
abbrev pub is_right : Option History → Op → ℕ → List AnsweredRow → Bool
is_right None o t answer = false
is_right (Some h) (op.Batch batch) t answer = false
is_right (Some h) (op.Read read) t answer = pointwise is_same_row answer (meaning read h t)
is_right (Some h) (op.Move dc) t answer = false

-- whether an outcome is the answer of a read: one that ended with Collected has none, nor has a write or a move
abbrev pub is_answer : Outcome → Bool
is_answer (outcome.Wrote commit stamp) = false
is_answer (outcome.Read effective answer) = true
is_answer outcome.Collected = false
is_answer (outcome.Moved dc floor) = false

-- whether an outcome is an answer of what was asked that isn't right
abbrev pub is_wrong_on : Option History → Op → Outcome → Bool
is_wrong_on h o (outcome.Wrote commit stamp) = false
is_wrong_on h o (outcome.Read effective answer) = not (is_right h o effective answer)
is_wrong_on h o outcome.Collected = false
is_wrong_on h o (outcome.Moved dc floor) = false

-- whether an operation is a read that was answered
abbrev pub is_read : Completed → Bool
is_read c = is_answer c.outcome

-- whether it was answered wrong: not with the meaning of its request on the history of its own home, the data centre where it was
-- submitted, at its effective time
abbrev pub is_wrong : List History → Completed → Bool
is_wrong histories c = is_wrong_on (slice_get histories c.home) c.op c.outcome
