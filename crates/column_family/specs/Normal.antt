-- The normal form of a batch, and what it keeps.
use Rattle.std.specs.Prelude.{◌≡◌, ℕ, ◌+◌, ◌<◌, ◌&&◌, not, if◌then◌else◌, filter, List, [], ◌∷◌, ◌++◌, AllPairs, ◌⊎◌, ◌↔◌}
use Rattle.std.specs.declared.cmp.Ordering.TheVariants.{Less}
use Rattle.std.specs.Ordering.{nat_cmp}
use Rattle.std.specs.Cmp.Lexicographic.{slice_cmp}
use Rattle.std.specs.List.{list_any}
use Rattle.logical_time.specs.Stamps.{StampValue}
use Rattle.column_family.specs.declared.batch.Row.{Row}
use Rattle.column_family.specs.declared.batch.Change.{Change}
use Rattle.column_family.specs.declared.batch.Committed.{Committed}
use Rattle.column_family.specs.declared.batch.Mutation.{Mutation}
use Rattle.column_family.specs.declared.batch.Mutation.TheVariants.{Insert, DeleteColumn, DeleteRow, DeleteRange}
use Rattle.column_family.specs.Location.{Location, is_same_row, deletes_range, is_row_deletion, strikes}
use Rattle.column_family.specs.History.{History, newest_of, up_to, newest_at, table_at, ranges_at, RestsOn}

-- how many changes stand before the row's first
abbrev pub changes_before : List Change → Row → ℕ
changes_before [] r = 0
changes_before (c ∷ cs) r = if is_same_row r c.row then 0 else changes_before cs r + 1

-- the first name is below the second, as bytes
abbrev pub IsBelow : List ℕ → List ℕ → Type 0
IsBelow a b = slice_cmp nat_cmp a b ≡ Less

-- within a row: the row's deletion stands first, then deletions of ranges, and then come the columns in name
-- order, each once
abbrev pub StandsBefore : Mutation → Mutation → Type 0
StandsBefore DeleteRow (DeleteRange start finish) = Unit {0}
StandsBefore DeleteRow (Insert n v) = Unit {0}
StandsBefore DeleteRow (DeleteColumn n) = Unit {0}
StandsBefore (DeleteRange start finish) (DeleteRange start' finish') = Unit {0}
StandsBefore (DeleteRange start finish) (Insert n v) = Unit {0}
StandsBefore (DeleteRange start finish) (DeleteColumn n) = Unit {0}
StandsBefore (Insert m w) (Insert n v) = IsBelow m n
StandsBefore (Insert m w) (DeleteColumn n) = IsBelow m n
StandsBefore (DeleteColumn m) (Insert n v) = IsBelow m n
StandsBefore (DeleteColumn m) (DeleteColumn n) = IsBelow m n
StandsBefore _ _ = ⊥

-- rows stand in the order in which they first occur in this batch, and within a row the mutations as above
abbrev pub IsInOrderOf : List Change → List Change → Type 0
IsInOrderOf batch changes =
    AllPairs (λ c d. (changes_before batch c.row < changes_before batch d.row) ⊎ ((c.row ≡ d.row) × StandsBefore c.mutation d.mutation)) changes

-- The normal form: each row's changes stand together, at most one deletion of the row, first, then deletions of
-- ranges, and then each name at most once, in name order.
abbrev pub IsNormal : List Change → Type 0
IsNormal changes = IsInOrderOf changes changes

-- the deletions of ranges of columns of a row, in their order
abbrev pub ranges_of : Row → List Change → List Change
ranges_of r cs = filter (λ c. is_same_row r c.row && deletes_range c.mutation) cs

-- those after the last deletion of the row
abbrev pub ranges_left : Row → List Change → List Change
ranges_left r [] = []
ranges_left r (c ∷ cs) =
    if (is_same_row r c.row && deletes_range c.mutation) && not (list_any (is_row_deletion r) cs) then c ∷ ranges_left r cs else ranges_left r cs

abbrev pub committed : List Change → StampValue → ℕ → Committed
committed batch s t = record { batch = batch; stamp = s; commit = t }

-- One batch stands for the other: in every history, at every time, the table is the same, each location keeps its
-- newest mutation with its stamp, its newest deletion by row or by range and the transactions that delete ranges with it,
-- each row its newest deletion, and a read of a location rests on the same.
pub record StandsFor (kept given : List Change) : Type 0 where
  pub table : (before after : History) (s : StampValue) (commit time : ℕ) (l : Location)
      → table_at (before ++ committed kept s commit ∷ after) time l ≡ table_at (before ++ committed given s commit ∷ after) time l
  pub newest : (before after : History) (s : StampValue) (commit time : ℕ) (l : Location)
      → newest_at (before ++ committed kept s commit ∷ after) time l ≡ newest_at (before ++ committed given s commit ∷ after) time l
  pub deletion : (before after : History) (s : StampValue) (commit time : ℕ) (r : Row)
      → newest_of (is_row_deletion r) (up_to time (before ++ committed kept s commit ∷ after))
      ≡ newest_of (is_row_deletion r) (up_to time (before ++ committed given s commit ∷ after))
  pub struck : (before after : History) (s : StampValue) (commit time : ℕ) (l : Location)
      → newest_of (strikes l) (up_to time (before ++ committed kept s commit ∷ after)) ≡ newest_of (strikes l) (up_to time (before ++ committed given s commit ∷ after))
  pub ranges : (before after : History) (s : StampValue) (commit time : ℕ) (l : Location) (w : StampValue)
      → ranges_at (up_to time (before ++ committed kept s commit ∷ after)) l w ≡ ranges_at (up_to time (before ++ committed given s commit ∷ after)) l w
  pub rests : (before after : History) (s : StampValue) (commit time : ℕ) (l : Location) (w : StampValue)
      → RestsOn (up_to time (before ++ committed kept s commit ∷ after)) l w ↔ RestsOn (up_to time (before ++ committed given s commit ∷ after)) l w
