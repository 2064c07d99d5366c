-- Marks on rows: which transactions have one, and their times.
use Rattle.std.specs.Prelude.{◌≡◌, ◌↔◌, ℕ, ◌<◌, ◌≤◌, Bool, ◌&&◌, List, [], Option, Some, None, unwrap_or}
use Rattle.std.specs.Ordering.{is_eq}
use Rattle.std.specs.declared.cmp.Ordering.{Ordering}
use Rattle.std.specs.Map.{lookup}
use Rattle.std.specs.List.{Contains}
use Rattle.std.specs.List.Sorted.{IsStrictlySortedBy}
use Rattle.logical_time.specs.Stamps.{TxnValue, txn_cmp}
use Rattle.column_family.specs.declared.batch.Row.{Row}
use Rattle.column_family.specs.Places.{row_cmp}

-- the marks of a row: transactions with their times
abbrev pub RowList : Type 0
RowList = List (TxnValue × ℕ)

-- the marks of all rows
abbrev pub MarkList : Type 0
MarkList = List (Row × RowList)

-- the time of the transaction's mark among those of a row
abbrev pub time_in : RowList → TxnValue → Option ℕ
time_in es t = lookup (λ k. is_eq (txn_cmp t k)) es

-- what is listed at a key: nothing if the key isn't there
abbrev pub listed : {K X : Type 0} → (K → K → Ordering) → List (K × List X) → K → List X
listed R es k = unwrap_or (lookup (λ q. is_eq (R k q)) es) []

-- the marks of this row
abbrev pub marks_of : MarkList → Row → RowList
marks_of = listed row_cmp

-- the time of the transaction's mark on the row
abbrev pub time_at : MarkList → Row → TxnValue → Option ℕ
time_at ms r t = time_in (marks_of ms r) t

-- whether a mark on the row r of the transaction t is the one on the row s of the transaction u
abbrev pub is_same_mark : Row → TxnValue → Row → TxnValue → Bool
is_same_mark r t s u = is_eq (row_cmp r s) && is_eq (txn_cmp t u)

-- the least of the times, if there is one
abbrev pub IsLeast : (TxnValue → Option ℕ) → Option ℕ → Type 0
IsLeast times None = (t : TxnValue) → times t ≡ None
IsLeast times (Some n) = ((t : TxnValue) × (times t ≡ Some n)) × ((t : TxnValue) (m : ℕ) → times t ≡ Some m → n ≤ m)

-- the transactions with a time strictly below the bound, in the order of their numbers
abbrev pub IsBelow : (TxnValue → Option ℕ) → ℕ → List TxnValue → Type 0
IsBelow times bound ts = IsStrictlySortedBy txn_cmp ts × ((t : TxnValue) → Contains ts t ↔ ((n : ℕ) × (times t ≡ Some n) × (n < bound)))
