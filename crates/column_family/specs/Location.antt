-- Locations, and which of them a change touches.
use Rattle.std.specs.Prelude.{ℕ, Bool, true, false, ◌&&◌, ◌||◌, List}
use Rattle.std.specs.Str.{bytes_eq}
use Rattle.column_family.specs.declared.batch.Row.{Row}
use Rattle.column_family.specs.declared.batch.Change.{Change}
use Rattle.column_family.specs.declared.batch.Mutation.{Mutation}
use Rattle.column_family.specs.declared.batch.Mutation.TheVariants.{Insert, DeleteColumn, DeleteRow, DeleteRange}
use Rattle.column_family.specs.Names.{is_between}

-- a location: the column of this name in a row. Names are ordered as bytes
pub record Location : Type 0 where
  pub row : Row
  pub name : List ℕ

-- whether both are one row: the same key in the same family
abbrev pub is_same_row : Row → Row → Bool
is_same_row r s = bytes_eq r.key s.key && bytes_eq r.family s.family

-- whether the mutation inserts or deletes the column of this name
abbrev pub changes_name : Mutation → List ℕ → Bool
changes_name (Insert n v) name = bytes_eq n name
changes_name (DeleteColumn n) name = bytes_eq n name
changes_name DeleteRow name = false
changes_name (DeleteRange start finish) name = false

-- whether the mutation deletes its row
abbrev pub deletes_row : Mutation → Bool
deletes_row (Insert n v) = false
deletes_row (DeleteColumn n) = false
deletes_row DeleteRow = true
deletes_row (DeleteRange start finish) = false

-- whether the mutation deletes a range of columns
abbrev pub deletes_range : Mutation → Bool
deletes_range (Insert n v) = false
deletes_range (DeleteColumn n) = false
deletes_range DeleteRow = false
deletes_range (DeleteRange start finish) = true

-- a column mutation of the location: its insertion or its deletion
abbrev pub is_column_change : Location → Change → Bool
is_column_change l c = is_same_row l.row c.row && changes_name c.mutation l.name

-- a deletion of the row
abbrev pub is_row_deletion : Row → Change → Bool
is_row_deletion r c = is_same_row r c.row && deletes_row c.mutation

-- whether the mutation deletes a range of columns that has this name
abbrev pub ranges_over : Mutation → List ℕ → Bool
ranges_over (Insert n v) name = false
ranges_over (DeleteColumn n) name = false
ranges_over DeleteRow name = false
ranges_over (DeleteRange start finish) name = is_between start finish name

-- a deletion of the location's row, or of a range of columns that has the location
abbrev pub strikes : Location → Change → Bool
strikes l c = is_same_row l.row c.row && (deletes_row c.mutation || ranges_over c.mutation l.name)

-- whether the mutation touches the column of this name: an insertion and a column deletion touch one column, a
-- row deletion every one, and a deletion of a range those between its ends (Cassandra's batch_mutate)
abbrev pub touches_name : Mutation → List ℕ → Bool
touches_name (Insert n v) name = bytes_eq n name
touches_name (DeleteColumn n) name = bytes_eq n name
touches_name DeleteRow name = true
touches_name (DeleteRange start finish) name = is_between start finish name

-- whether the change touches the location
abbrev pub touches : Location → Change → Bool
touches l c = is_same_row l.row c.row && touches_name c.mutation l.name
