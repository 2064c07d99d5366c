-- What a store answers, by what was applied to it.
use Rattle.std.specs.Prelude.{◌≡◌, ℕ, max, nat_le, Bool, false, not, ◌&&◌, ◌||◌, if◌then◌else◌, List, [], ◌∷◌, map, filter, Option, Some, None, Contains, ◌↔◌}
use Rattle.std.specs.List.{list_any}
use Rattle.std.specs.List.Sorted.{IsStrictlySortedBy}
use Rattle.logical_time.specs.Stamps.{WriterValue, writer_cmp}
use Rattle.column_family.specs.declared.batch.Row.{Row}
use Rattle.column_family.specs.declared.batch.Change.{Change}
use Rattle.column_family.specs.declared.batch.Committed.{Committed}
use Rattle.column_family.specs.declared.batch.Mutation.{Mutation}
use Rattle.column_family.specs.declared.batch.Mutation.TheVariants.{Insert, DeleteColumn, DeleteRow, DeleteRange}
use Rattle.column_family.specs.Location.{is_same_row, is_column_change, is_row_deletion}
use Rattle.column_family.specs.History.{History, Stamped, newest_of, is_older_than}
use Rattle.slice.specs.declared.predicate.Predicate.{Predicate}
use Rattle.slice.specs.Slice.{slice_of, is_asked}
use Rattle.slice.specs.Live.{live_columns, columns_changed}
use Rattle.slice.specs.Meeting.{asks_between}
use Rattle.slice.specs.Rests.{RowRestsOn}
pub use Rattle.slice.specs.Parts.{has_row}
use Rattle.store.specs.declared.part.Applied.{Applied}
use Rattle.store.specs.declared.part.Part.{Part}

abbrev pub committed_of : Applied → Committed
committed_of a = record { batch = a.part.batch; stamp = a.stamp; commit = a.commit }

-- what was applied, as a history
abbrev pub history_of : List Applied → History
history_of applied = map committed_of applied

-- what was applied with a commit time at or before a time
abbrev pub applied_by : ℕ → List Applied → List Applied
applied_by t applied = filter (λ a. nat_le a.commit t) applied

-- the read of the row rests on something that this writer's transaction applied
abbrev pub IsRestedOn : List Applied → Row → Predicate → WriterValue → Type 0
IsRestedOn applied r p w =
    (a : Applied) × Contains applied a × (a.part.writer ≡ w) × RowRestsOn (history_of applied) r p a.stamp

-- a row's part of what was applied: the asked slice of the table's live columns, and what a read of it rests on
pub record IsPartOf (applied : List Applied) (r : Row) (p : Predicate) (part : Part) : Type 0 where
  pub columns : part.columns ≡ slice_of p (live_columns (history_of applied) r)
  pub writers : (w : WriterValue) → Contains part.writers w ↔ IsRestedOn applied r p w
  pub in_order : IsStrictlySortedBy writer_cmp part.writers

-- a row's part that is right at a time: by the table of what was applied, at that time
abbrev pub IsRightPart : List Applied → Row → Predicate → ℕ → Part → Type 0
IsRightPart applied r p t part = IsPartOf (applied_by t applied) r p part

abbrev pub commit_of : Option Stamped → ℕ
commit_of None = 0
commit_of (Some s) = s.commit

-- the earliest valid time of the newest version of a column, if the column is asked
abbrev pub column_evt : History → Row → Predicate → List ℕ → ℕ
column_evt h r p n = if is_asked p n then commit_of (newest_of (is_column_change (record { row = r; name = n })) h) else 0

abbrev pub greatest_of : List ℕ → ℕ
greatest_of [] = 0
greatest_of (n ∷ ns) = max n (greatest_of ns)

-- whether the mutation deletes a range of columns that has an asked one
abbrev pub asks_range : Predicate → Mutation → Bool
asks_range p (Insert n v) = false
asks_range p (DeleteColumn n) = false
asks_range p DeleteRow = false
asks_range p (DeleteRange start finish) = asks_between p start finish

-- whether a batch deletes a range of the row's columns that has an asked one, and the row by no later change
abbrev pub leaves_asked : Row → Predicate → List Change → Bool
leaves_asked r p [] = false
leaves_asked r p (c ∷ cs) =
    (is_same_row r c.row && (asks_range p c.mutation && not (list_any (is_row_deletion r) cs))) || leaves_asked r p cs

-- the commit time of a batch that deletes a range with an asked column, newer than the newest deletion of the row; else 0
abbrev pub range_evt : History → Row → Predicate → Committed → ℕ
range_evt h r p c =
    if leaves_asked r p c.batch && not (is_older_than (newest_of (is_row_deletion r) h) c.stamp) then c.commit else 0

-- The earliest valid time of a row's slice: the greatest of the newest version of each asked column that there
-- is, whatever the count of a range is, of the row's newest deletion, and of each newer deletion of a range that has an
-- asked column; 0 if there are none (this profile's EVT).
abbrev pub evt_of : History → Row → Predicate → ℕ
evt_of h r p =
    max (commit_of (newest_of (is_row_deletion r) h))
    (max (greatest_of (map (column_evt h r p) (columns_changed h r))) (greatest_of (map (range_evt h r p) h)))

-- a row's part by the newest versions, and since when it is valid
pub record IsNewestPart (applied : List Applied) (r : Row) (p : Predicate) (part : Part) : Type 0 where
  pub shown : IsPartOf applied r p part
  pub evt : part.evt ≡ evt_of (history_of applied) r p
