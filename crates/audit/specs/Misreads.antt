-- Which of the reads that were answered are wrong, and what the table has in the place of their answers.
use Rattle.std.specs.Prelude.{ℕ, suc, Bool, not, if◌then◌else◌, List, [], ◌∷◌, Option, slice_get}
use Rattle.std.specs.Option.{unwrap_or}
use Rattle.column_family.specs.History.{History}
use Rattle.slice.specs.declared.read.AnsweredRow.{AnsweredRow}
use Rattle.table.specs.Meaning.{meaning}
use Rattle.messages.specs.declared.op.Op.TheVariants as op
use Rattle.audit.specs.declared.judging.Answered.{Answered}
use Rattle.audit.specs.declared.judging.Misread.{Misread}
use Rattle.audit.specs.Audit.{is_right}

-- whether a read was answered wrong: not with its meaning on the history of its home at its time. Where there is no such
-- history no answer is right
abbrev pub is_misread : List History → Answered → Bool
is_misread histories r = not (is_right (slice_get histories r.home) (op.Read r.read) r.time r.answer)

-- what the table of a read's home has for it: nothing in any row where there is no such history
abbrev pub table_has : List History → Answered → List AnsweredRow
table_has histories r = meaning r.read (unwrap_or (slice_get histories r.home) []) r.time

-- a read that was answered wrong, with its place
abbrev pub misread_at : List History → ℕ → Answered → Misread
misread_at histories place r = record { place = place; answered = r.answer; table = table_has histories r }

-- those of a list that were answered wrong, in order, where its first has the given place
abbrev pub misreads_from : List History → ℕ → List Answered → List Misread
misreads_from histories place [] = []
misreads_from histories place (r ∷ rs) =
    if is_misread histories r then misread_at histories place r ∷ misreads_from histories (suc place) rs
    else misreads_from histories (suc place) rs
