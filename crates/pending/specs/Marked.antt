-- Marks of several rows at once.
use Rattle.std.specs.Prelude.{◌≡◌, ◌↔◌, ℕ, ◌<◌, Bool, ◌&&◌, if◌then◌else◌, List, Some, None}
use Rattle.std.specs.List.{Contains, list_any}
use Rattle.std.specs.List.Sorted.{IsStrictlySortedBy}
use Rattle.std.specs.Ordering.{is_eq}
use Rattle.logical_time.specs.Stamps.{TxnValue, txn_cmp}
use Rattle.column_family.specs.declared.batch.Row.{Row}
use Rattle.column_family.specs.declared.batch.Change.{Change}
use Rattle.column_family.specs.Location.{is_same_row}
use Rattle.pending.specs.Marks.{MarkList, time_at}

-- whether these changes touch the row
abbrev pub touches : List Change → Row → Bool
touches changes r = list_any (λ c. is_same_row r c.row) changes

-- each row that these changes touch has a mark of the transaction with this time; all other marks are as they were
abbrev pub AreMarked : MarkList → MarkList → List Change → TxnValue → ℕ → Type 0
AreMarked old new changes u time =
    (r : Row) (t : TxnValue) → time_at new r t ≡ (if is_eq (txn_cmp u t) && touches changes r then Some time else time_at old r t)

-- the transaction has no mark on the rows that these changes touch; all other marks are as they were
abbrev pub AreCleared : MarkList → MarkList → List Change → TxnValue → Type 0
AreCleared old new changes u =
    (r : Row) (t : TxnValue) → time_at new r t ≡ (if is_eq (txn_cmp u t) && touches changes r then None else time_at old r t)

-- the transaction has no mark on any row; all other marks are as they were
abbrev pub IsCleared : MarkList → MarkList → TxnValue → Type 0
IsCleared old new u = (r : Row) (t : TxnValue) → time_at new r t ≡ (if is_eq (txn_cmp u t) then None else time_at old r t)

-- the transaction has a mark below the bound on one of these rows
abbrev pub IsMarkedBelow : MarkList → List Row → ℕ → TxnValue → Type 0
IsMarkedBelow ms rows bound t = (r : Row) × Contains rows r × ((n : ℕ) × (time_at ms r t ≡ Some n) × (n < bound))

-- the transactions with a mark below the bound on one of these rows, in the order of their numbers
abbrev pub AreBelow : MarkList → List Row → ℕ → List TxnValue → Type 0
AreBelow ms rows bound ts = IsStrictlySortedBy txn_cmp ts × ((t : TxnValue) → Contains ts t ↔ IsMarkedBelow ms rows bound t)
