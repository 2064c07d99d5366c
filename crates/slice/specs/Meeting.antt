-- Ranges of names that meet, and which of them a read of a row came to.
use Rattle.std.specs.Prelude.{◌≡◌, ℕ, Bool, true, false, ◌&&◌, ◌||◌, not, ◌-◌, nat_lt, if◌then◌else◌, List, [], ◌∷◌, length, slice_get}
use Rattle.std.specs.List.{list_any}
use Rattle.std.specs.Ordering.{is_eq}
use Rattle.std.specs.Option.{option_map_or}
use Rattle.logical_time.specs.Stamps.{StampValue, stamp_cmp}
use Rattle.column_family.specs.declared.batch.Row.{Row}
use Rattle.column_family.specs.declared.batch.Change.{Change}
use Rattle.column_family.specs.declared.batch.Mutation.{Mutation}
use Rattle.column_family.specs.declared.batch.Mutation.TheVariants.{Insert, DeleteColumn, DeleteRow, DeleteRange}
use Rattle.column_family.specs.Location.{is_same_row, is_row_deletion}
use Rattle.column_family.specs.History.{History, newest_of, is_older_than}
use Rattle.slice.specs.declared.column.Column.{Column}
use Rattle.slice.specs.declared.predicate.Predicate.{Predicate}
use Rattle.slice.specs.declared.predicate.Predicate.TheVariants.{Names, Range}
use Rattle.slice.specs.Slice.{name_le, is_open, is_between, is_asked}

-- the greater of two lower ends: an open one is the least
abbrev pub later_low : List ℕ → List ℕ → List ℕ
later_low a b = if name_le a b then b else a

-- the lesser of two upper ends: an open one is the greatest
abbrev pub earlier_high : List ℕ → List ℕ → List ℕ
earlier_high a b = if is_open a then b else (if is_open b then a else (if name_le a b then a else b))

-- whether some name lies between two ends
abbrev pub has_names : List ℕ → List ℕ → Bool
has_names low high = is_open high || name_le low high

-- whether some name lies between both pairs of ends
abbrev pub do_meet : List ℕ → List ℕ → List ℕ → List ℕ → Bool
do_meet low high low' high' = has_names (later_low low low') (earlier_high high high')

-- Whether some name between two ends had been come to by a walk's last column: the first of them by one upwards, or
-- one that isn't below the column by one downwards.
abbrev pub comes_to : Bool → List ℕ → List ℕ → List ℕ → Bool
comes_to reversed low high name = if reversed then has_names (later_low low name) high else (has_names low high && name_le low name)

-- the same of a walk that returned these columns
abbrev pub comes_to_last : Bool → List ℕ → List ℕ → List Column → Bool
comes_to_last reversed low high columns = option_map_or (λ c. comes_to reversed low high c.name) (slice_get columns (length columns - 1)) false

-- the lower end of a walk
abbrev pub low_end : List ℕ → List ℕ → Bool → List ℕ
low_end start finish reversed = if reversed then finish else start

-- its upper end
abbrev pub high_end : List ℕ → List ℕ → Bool → List ℕ
high_end start finish reversed = if reversed then start else finish

-- Whether a read that returned these columns of a row looked at some column between the two ends: whether one of its
-- names lies there, or its range meets them, where it returned as many columns as its count up to the last of them.
abbrev pub meets : Predicate → List Column → List ℕ → List ℕ → Bool
meets (Names names) columns low high = list_any (λ n. is_between low high n) names
meets (Range start finish reversed count) columns low high =
    if nat_lt (length columns) count
    then do_meet (low_end start finish reversed) (high_end start finish reversed) low high
    else comes_to_last reversed (later_low (low_end start finish reversed) low) (earlier_high (high_end start finish reversed) high) columns

-- Whether a predicate asks for some column between the two ends, whatever its count is.
abbrev pub asks_between : Predicate → List ℕ → List ℕ → Bool
asks_between (Names names) low high = list_any (λ n. is_between low high n) names
asks_between (Range start finish reversed count) low high = do_meet (low_end start finish reversed) (high_end start finish reversed) low high

-- some column that a predicate asks for lies between the two ends
abbrev pub SomeAsked : Predicate → List ℕ → List ℕ → Type 0
SomeAsked p low high = (name : List ℕ) × (is_asked p name ≡ true) × (is_between low high name ≡ true)

-- the same of a mutation that deletes a range
abbrev pub meets_range : Predicate → List Column → Mutation → Bool
meets_range p columns (Insert n v) = false
meets_range p columns (DeleteColumn n) = false
meets_range p columns DeleteRow = false
meets_range p columns (DeleteRange start finish) = meets p columns start finish

-- whether a batch deletes a range of columns of the row that meets a read which returned these columns, and the row by no
-- later change
abbrev pub leaves_met : Row → Predicate → List Column → List Change → Bool
leaves_met r p columns [] = false
leaves_met r p columns (c ∷ cs) =
    (is_same_row r c.row && (meets_range p columns c.mutation && not (list_any (is_row_deletion r) cs))) || leaves_met r p columns cs

-- Whether the transaction of this stamp deletes a range that meets a read of the row which returned these columns, newer than
-- the row's newest deletion.
abbrev pub ranges_met : History → Row → Predicate → List Column → StampValue → Bool
ranges_met h r p columns s =
    list_any (λ c. is_eq (stamp_cmp c.stamp s) && leaves_met r p columns c.batch) h
    && not (is_older_than (newest_of (is_row_deletion r) h) s)
