-- What a shard answers of a row, by what it applied, and the marks of what it prepared.
use Rattle.std.specs.Prelude.{ℕ, min, Bool, ◌&&◌, not, List, [], ◌∷◌, map, filter}
use Rattle.std.specs.List.{list_any}
use Rattle.logical_time.specs.Stamps.{WriterValue}
use Rattle.column_family.specs.declared.batch.Row.{Row}
use Rattle.column_family.specs.Location.{is_same_row}
use Rattle.slice.specs.declared.column.Column.{Column}
use Rattle.slice.specs.declared.predicate.Predicate.{Predicate}
use Rattle.slice.specs.declared.read.Read.{Read}
use Rattle.slice.specs.Rows.{row_of}
use Rattle.slice.specs.Slice.{slice_of}
use Rattle.slice.specs.Live.{live_columns}
pub use Rattle.slice.specs.Rests.{is_rested_on}
use Rattle.store.specs.declared.part.Applied.{Applied}
use Rattle.store.specs.Part.{history_of, applied_by, evt_of}
use Rattle.messages.specs.declared.rows_now.RowNow.{RowNow}
use Rattle.messages.specs.declared.rows_at.RowAt.{RowAt}
use Rattle.messages.specs.Words.{in_writer_order}
use Rattle.messages.specs.Shard.{ShardState, PreparedPart}
use Rattle.messages.specs.Known.{is_applied}

-- the slice of the row by the newest versions of what was applied
abbrev pub columns_of : List Applied → Row → Predicate → List Column
columns_of applied r p = slice_of p (live_columns (history_of applied) r)

-- the writers that the slice rests on, in order
abbrev pub writers_of : List Applied → Row → Predicate → List WriterValue
writers_of applied r p =
    in_writer_order (map (λ x. x.part.writer) (filter (λ x. is_rested_on (history_of applied) r p x.stamp) applied))

-- whether a part touches the row
abbrev pub touches_row : Row → PreparedPart → Bool
touches_row r p = list_any (λ c. is_same_row r c.row) p.rows

-- the parts that mark the row: prepared and not applied
abbrev pub marks_on : Row → ShardState → List PreparedPart
marks_on r a = filter (λ p. touches_row r p && not (is_applied p.txn a)) a.prepared

-- the least of a clock and the times of these marks
abbrev pub least_mark : ℕ → List PreparedPart → ℕ
least_mark n [] = n
least_mark n (p ∷ ps) = min p.time (least_mark n ps)

-- A row by the newest versions. Its latest valid time is the shard's clock, or the least prepare time pending in the
-- row if that is less (this profile's LVT).
abbrev pub row_now : ℕ → ShardState → Read → List ℕ → RowNow
row_now n a read key =
    record {
      key = key;
      columns = columns_of a.applied (row_of read key) read.predicate;
      writers = writers_of a.applied (row_of read key) read.predicate;
      evt = evt_of (history_of a.applied) (row_of read key) read.predicate;
      lvt = least_mark n (marks_on (row_of read key) a);
    }

-- a row at a time: by the newest versions of what was committed by then
abbrev pub row_at : ℕ → ShardState → Read → List ℕ → RowAt
row_at time a read key =
    record {
      key = key;
      columns = columns_of (applied_by time a.applied) (row_of read key) read.predicate;
      writers = writers_of (applied_by time a.applied) (row_of read key) read.predicate;
    }
