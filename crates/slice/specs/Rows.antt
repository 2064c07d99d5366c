-- The rows that a read asks for.
use Rattle.std.specs.Prelude.{ℕ, List}
use Rattle.column_family.specs.declared.batch.Row.{Row}
use Rattle.slice.specs.declared.read.Read.{Read}

-- the row that a read means by a key: it is of the read's family
abbrev pub row_of : Read → List ℕ → Row
row_of read key = record { family = read.family; key = key }
