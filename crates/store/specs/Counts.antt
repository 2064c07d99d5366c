-- How many deletions of ranges each row is to have room for.
use Rattle.std.specs.Prelude.{◌≡◌, length, ℕ, List, unwrap_or}
use Rattle.std.specs.BTreeMap.{BTreeMap, get}
use Rattle.column_family.specs.declared.batch.Row.{Row}
use Rattle.column_family.specs.declared.batch.Change.{Change}
use Rattle.column_family.specs.Normal.{ranges_of}
use Rattle.column_family.specs.Places.{row_cmp}

-- what is counted for a row: nothing where it has no entry
abbrev pub count_at : BTreeMap Row ℕ → Row → ℕ
count_at counts r = unwrap_or (get row_cmp counts r) 0

-- of each row the count is how many of these changes delete a range of its columns
abbrev pub AreCounts : List Change → BTreeMap Row ℕ → Type 0
AreCounts changes counts = (r : Row) → count_at counts r ≡ length (ranges_of r changes)
