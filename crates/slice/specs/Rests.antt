-- What the read of a row rests on.
use Rattle.std.specs.Prelude.{◌≡◌, ℕ, Bool, true, false, ◌&&◌, ◌||◌, nat_lt, if◌then◌else◌, ◌-◌, List, length, slice_get, Option, Some, None, is_some, ◌⊎◌}
use Rattle.std.specs.List.{list_any}
use Rattle.std.specs.Option.{option_map_or}
use Rattle.std.specs.Ordering.{is_eq}
use Rattle.logical_time.specs.Stamps.{StampValue, stamp_cmp}
use Rattle.column_family.specs.declared.batch.Row.{Row}
use Rattle.column_family.specs.Location.{is_column_change, is_row_deletion}
use Rattle.column_family.specs.History.{History, newest, newest_of, stamp_of, RestsOn}
use Rattle.slice.specs.declared.column.Column.{Column}
use Rattle.slice.specs.declared.predicate.Predicate.{Predicate}
use Rattle.slice.specs.declared.predicate.Predicate.TheVariants.{Names, Range}
use Rattle.slice.specs.Slice.{name_le, is_between, is_asked, slice_of}
use Rattle.slice.specs.Live.{live_columns, columns_changed}
use Rattle.slice.specs.Meeting.{ranges_met}

-- whether a walk that returned these columns had come to the name by the last of them
abbrev pub is_reached : Bool → List Column → List ℕ → Bool
is_reached reversed columns name =
    option_map_or (λ c. if reversed then name_le c.name name else name_le name c.name) (slice_get columns (length columns - 1)) false

-- whether the walk of a predicate that returned these columns came to the name: a list of names has no walk
abbrev pub is_within : Predicate → List Column → List ℕ → Bool
is_within (Names names) columns name = true
is_within (Range start finish reversed count) columns name = nat_lt (length columns) count || is_reached reversed columns name

-- Whether a read that returned these columns of a row looked at the column of this name: it is asked, and where
-- a range returned as many columns as its count, it doesn't lie after the last of them.
abbrev pub is_looked_at : Predicate → List Column → List ℕ → Bool
is_looked_at p columns name = is_asked p name && is_within p columns name

-- some column that a read looked at lies between the two ends
abbrev pub SomeLookedAt : Predicate → List Column → List ℕ → List ℕ → Type 0
SomeLookedAt p columns low high = (name : List ℕ) × (is_looked_at p columns name ≡ true) × (is_between low high name ≡ true)

-- The read of a row, answered from the table of a whole history, rests on the transaction of this stamp: at some
-- column that it looked at, or as that of the row's newest deletion, which counts always. For a read at a time
-- the history is what is committed by then.
abbrev pub RowRestsOn : History → Row → Predicate → StampValue → Type 0
RowRestsOn h r p s =
    ((name : List ℕ) × (is_looked_at p (slice_of p (live_columns h r)) name ≡ true) × RestsOn h (record { row = r; name = name }) s)
    ⊎ (stamp_of (newest_of (is_row_deletion r) h) ≡ Some s)

-- A read that returned these columns of a row rests on the transaction of this stamp by the newest mutation of a column that it
-- looked at, where some column mutation touches it.
abbrev pub RestsByNewest : History → Row → Predicate → List Column → StampValue → Type 0
RestsByNewest h r p columns s =
    (name : List ℕ) × (is_looked_at p columns name ≡ true) × (is_some (newest_of (is_column_change (record { row = r; name = name })) h) ≡ true)
    × (stamp_of (newest h (record { row = r; name = name })) ≡ Some s)

abbrev pub has_stamp : Option StampValue → StampValue → Bool
has_stamp None s = false
has_stamp (Some z) s = is_eq (stamp_cmp z s)

-- The same as a test: the transaction's is the newest mutation of a column that the read looked at, or the newest
-- deletion of the row, or a newer deletion of a range that meets what the read looked at.
abbrev pub is_rested_on : History → Row → Predicate → StampValue → Bool
is_rested_on h r p s =
    list_any (λ n. is_looked_at p (slice_of p (live_columns h r)) n && has_stamp (stamp_of (newest h (record { row = r; name = n }))) s) (columns_changed h r)
    || (has_stamp (stamp_of (newest_of (is_row_deletion r) h)) s || ranges_met h r p (slice_of p (live_columns h r)) s)
