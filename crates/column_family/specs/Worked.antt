-- Worked batches on one row. Names and values are single letters and digits.
use Rattle.std.specs.Prelude.{ℕ, ◌+◌, List, [], ◌∷◌}
use Rattle.column_family.specs.declared.batch.Row.{Row}
use Rattle.column_family.specs.declared.batch.Change.{Change}
use Rattle.column_family.specs.declared.batch.Mutation.{Mutation}
use Rattle.column_family.specs.declared.batch.Mutation.TheVariants.{Insert, DeleteColumn, DeleteRow, DeleteRange}
use Rattle.logical_time.specs.Stamps.{StampValue}
use Rattle.column_family.specs.declared.batch.Committed.{Committed}
use Rattle.column_family.specs.Location.{Location}
use Rattle.column_family.specs.Normal.{committed}

-- the row of key b in the family f
abbrev pub row_b : Row
row_b = record { family = 102 ∷ []; key = 98 ∷ [] }

-- an open end
abbrev pub open_end : List ℕ
open_end = []

abbrev pub name_a : List ℕ
name_a = 97 ∷ []

abbrev pub name_b : List ℕ
name_b = 98 ∷ []

abbrev pub name_c : List ℕ
name_c = 99 ∷ []

abbrev pub name_d : List ℕ
name_d = 100 ∷ []

abbrev pub name_e : List ℕ
name_e = 101 ∷ []

-- the value that is this digit
abbrev pub digit : ℕ → List ℕ
digit n = (48 + n) ∷ []

abbrev pub on_b : Mutation → Change
on_b m = record { row = row_b; mutation = m }

abbrev pub inserted : List ℕ → ℕ → Change
inserted name n = on_b (Insert name (digit n))

abbrev pub deleted : List ℕ → Change
deleted name = on_b (DeleteColumn name)

abbrev pub row_deleted : Change
row_deleted = on_b DeleteRow

abbrev pub range_deleted : List ℕ → List ℕ → Change
range_deleted start finish = on_b (DeleteRange start finish)

-- the column of this name in the row
abbrev pub at : List ℕ → Location
at name = record { row = row_b; name = name }

-- the stamp of a transaction that shard 0 commits at this time
abbrev pub stamp_at : ℕ → StampValue
stamp_at n = record { time = n; node = 0 }

-- a batch that is committed at this time
abbrev pub committed_at : ℕ → List Change → Committed
committed_at n changes = committed changes (stamp_at n) n
