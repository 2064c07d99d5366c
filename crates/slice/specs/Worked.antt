-- Worked reads of a row. Names and values are single letters and digits.
use Rattle.std.specs.Prelude.{ℕ, true, false, List, [], ◌∷◌}
use Rattle.column_family.specs.declared.batch.Committed.{Committed}
use Rattle.column_family.specs.Worked.{name_b, name_c, committed_at, name_d, digit, inserted, range_deleted}
use Rattle.slice.specs.declared.column.Column.{Column}
use Rattle.slice.specs.declared.predicate.Predicate.{Predicate}
use Rattle.slice.specs.declared.predicate.Predicate.TheVariants.{Names, Range}

-- a list of these names
abbrev pub names : List (List ℕ) → Predicate
names ns = Names ns

-- up to so many columns from the first name up to the last
abbrev pub upwards : List ℕ → List ℕ → ℕ → Predicate
upwards start finish count = Range start finish false count

-- up to so many columns from the first name down to the last
abbrev pub downwards : List ℕ → List ℕ → ℕ → Predicate
downwards start finish count = Range start finish true count

-- a column of this name with the value that is this digit
abbrev pub column_of : List ℕ → ℕ → Column
column_of name n = record { name = name; value = digit n }

-- a column of this name that was returned
abbrev pub column : List ℕ → Column
column name = column_of name 1

-- three columns are inserted
abbrev pub insertions : Committed
insertions = committed_at 2 (inserted name_b 1 ∷ inserted name_c 2 ∷ inserted name_d 3 ∷ [])

-- two of them are deleted as a range, and the second is inserted again
abbrev pub range_and_insertion : Committed
range_and_insertion = committed_at 5 (range_deleted name_b name_c ∷ inserted name_c 9 ∷ [])
