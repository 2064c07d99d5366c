-- The live columns of a row, by a history.
use Rattle.std.specs.Prelude.{ℕ, Bool, true, ◌&&◌, if◌then◌else◌, List, [], ◌∷◌, filter_map, flat_map, Option, Some, None, option_map}
use Rattle.std.specs.declared.cmp.Ordering.{Ordering}
use Rattle.std.specs.declared.cmp.Ordering.TheVariants.{Less, Equal, Greater}
use Rattle.std.specs.Ordering.{nat_cmp, is_lt}
use Rattle.std.specs.Cmp.Lexicographic.{slice_cmp}
use Rattle.column_family.specs.declared.batch.Row.{Row}
use Rattle.column_family.specs.declared.batch.Change.{Change}
use Rattle.column_family.specs.declared.batch.Mutation.{Mutation}
use Rattle.column_family.specs.declared.batch.Mutation.TheVariants.{Insert, DeleteColumn, DeleteRow, DeleteRange}
use Rattle.column_family.specs.Location.{is_same_row}
use Rattle.column_family.specs.History.{History, newest, value_of}
use Rattle.slice.specs.declared.column.Column.{Column}

abbrev pub placed_name : Ordering → List ℕ → List ℕ → List (List ℕ) → List (List ℕ) → List (List ℕ)
placed_name Less n m ms others = n ∷ m ∷ ms
placed_name Equal n m ms others = m ∷ ms
placed_name Greater n m ms others = m ∷ others

-- a name put among names that stand in name order, each once
abbrev pub with_name : List ℕ → List (List ℕ) → List (List ℕ)
with_name n [] = n ∷ []
with_name n (m ∷ ms) = placed_name (slice_cmp nat_cmp n m) n m ms (with_name n ms)

-- the names of a list, in name order, each once
abbrev pub in_name_order : List (List ℕ) → List (List ℕ)
in_name_order [] = []
in_name_order (n ∷ ns) = with_name n (in_name_order ns)

-- whether a name comes before the first of others
abbrev pub comes_first : List ℕ → List (List ℕ) → Bool
comes_first n [] = true
comes_first n (m ∷ ms) = is_lt (slice_cmp nat_cmp n m)

-- whether the names of a list stand in name order, each once
abbrev pub ascend : List (List ℕ) → Bool
ascend [] = true
ascend (n ∷ ns) = comes_first n ns && ascend ns

-- the column that a mutation inserts or deletes
abbrev pub column_named : Mutation → Option (List ℕ)
column_named (Insert n v) = Some n
column_named (DeleteColumn n) = Some n
column_named DeleteRow = None
column_named (DeleteRange start finish) = None

-- the column of this row that a change inserts or deletes
abbrev pub column_changed : Row → Change → Option (List ℕ)
column_changed r c = if is_same_row r c.row then column_named c.mutation else None

-- the columns of the row that a history ever inserts or deletes, in name order, each once
abbrev pub columns_changed : History → Row → List (List ℕ)
columns_changed h r = in_name_order (flat_map (λ c. filter_map (column_changed r) c.batch) h)

-- the column of this name, where it is live
abbrev pub live_column : History → Row → List ℕ → Option Column
live_column h r n = option_map (λ v. record { name = n; value = v }) (value_of (newest h (record { row = r; name = n })))

-- the live columns of a row in the table of a whole history, in name order
abbrev pub live_columns : History → Row → List Column
live_columns h r = filter_map (live_column h r) (columns_changed h r)
