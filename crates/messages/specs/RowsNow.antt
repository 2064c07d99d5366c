-- Lists of rows by their newest versions, which stand in one of two places.
use Rattle.std.specs.Prelude.{List, [], ◌∷◌}
use Rattle.messages.specs.declared.rows_now.Listed.{Listed}
use Rattle.messages.specs.declared.rows_now.Listed.TheVariants.{One, Many}
use Rattle.messages.specs.declared.rows_now.RowNow.{RowNow}

-- the rows
abbrev pub listed_in : Listed → List RowNow
listed_in (One row) = row.value ∷ []
listed_in (Many rows) = rows.value.items
