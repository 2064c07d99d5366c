-- Where the marks of a row are kept.
use Rattle.std.specs.Prelude.{[], ◌∷◌}
use Rattle.pending.specs.declared.row_marks.Held.{Held}
use Rattle.pending.specs.declared.row_marks.Held.TheVariants as in_held
use Rattle.pending.specs.Marks.{RowList}

-- the marks that are kept there
abbrev pub held_in : Held → RowList
held_in in_held.None = []
held_in (in_held.One mark) = (mark.txn, mark.time) ∷ []
held_in (in_held.Many times) = times.entries
