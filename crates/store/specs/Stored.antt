-- What a store keeps: rows of chains, and the time below which it answers no more.
use Rattle.std.specs.Prelude.{◌≤◌, ◌≡◌, ℕ, ◌+◌, ◌-◌, ◌<◌, length, Bool, true, false, ◌&&◌, List, [], ◌∷◌, map, filter, filter_map, Option, Some, None, unwrap_or}
use Rattle.std.specs.List.{list_any}
use Rattle.std.specs.Ordering.{nat_cmp, is_eq}
use Rattle.std.specs.declared.cmp.Ordering.{Ordering}
use Rattle.std.specs.Cmp.Lexicographic.{slice_cmp}
use Rattle.std.specs.Map.{lookup}
use Rattle.column_family.specs.declared.batch.Row.{Row}
use Rattle.column_family.specs.declared.batch.Change.{Change}
use Rattle.column_family.specs.declared.batch.Mutation.{Mutation}
use Rattle.column_family.specs.declared.batch.Mutation.TheVariants.{Insert, DeleteColumn, DeleteRow, DeleteRange}
use Rattle.column_family.specs.Location.{is_same_row, changes_name, deletes_row}
use Rattle.column_family.specs.History.{inserted}
use Rattle.column_family.specs.Normal.{ranges_of}
use Rattle.column_family.specs.Places.{row_cmp}
use Rattle.versions.specs.declared.version.Version.{Version}
use Rattle.versions.specs.declared.range.RangeDeletion.{RangeDeletion}
use Rattle.versions.specs.Chain.{Held, put_of, kept_from}
use Rattle.versions.specs.Ranges.{HeldRanges, put_range, kept_ranges}
use Rattle.store.specs.declared.origin.Origin.{Origin}

-- a place in a row: the column of a name, or none for the row's deletions
abbrev pub Place : Type 0
Place = Option (List ℕ)

-- a row: a chain for each of its columns, one for its deletions, and the deletions of ranges of its columns
pub record Chains : Type 0 where
  pub columns : List (List ℕ × Held)
  pub deletions : Held
  pub ranges : HeldRanges

-- what a store keeps: its rows, its horizon, the time below which it answers no more, and how many more rows fit without
-- memory into the list of those that a collection looks at
pub record StoreValue : Type 0 where
  pub rows : List (Row × Chains)
  pub low : ℕ
  pub listing : ℕ

-- names are ordered as bytes
abbrev pub name_cmp : List ℕ → List ℕ → Ordering
name_cmp = slice_cmp nat_cmp

-- what stands at a key, or else this
abbrev pub held_by : {K X : Type 0} → (K → K → Ordering) → X → List (K × X) → K → X
held_by R d es q = unwrap_or (lookup (λ k. is_eq (R q k)) es) d

abbrev pub nothing_held : Held
nothing_held = record { versions = []; room = 0 }

abbrev pub no_ranges : HeldRanges
no_ranges = record { ranges = []; room = 0 }

abbrev pub no_row : Chains
no_row = record { columns = []; deletions = nothing_held; ranges = no_ranges }

abbrev pub column_held : List (List ℕ × Held) → List ℕ → Held
column_held = held_by name_cmp nothing_held

-- the chain of a place of a row
abbrev pub chain_of : Chains → Place → Held
chain_of r None = r.deletions
chain_of r (Some n) = column_held r.columns n

-- the chain of a place of one of these rows
abbrev pub chain_at : List (Row × Chains) → Row → Place → Held
chain_at rows r p = chain_of (held_by row_cmp no_row rows r) p

-- the deletions of ranges of one of these rows
abbrev pub ranges_in : List (Row × Chains) → Row → HeldRanges
ranges_in rows r = (held_by row_cmp no_row rows r).ranges

-- whether a mutation is one of a place: an insertion or a deletion of the column, or a deletion of the row
abbrev pub is_of_place : Place → Mutation → Bool
is_of_place None m = deletes_row m
is_of_place (Some n) m = changes_name m n

-- whether a change is one of this place of this row
abbrev pub is_at : Row → Place → Change → Bool
is_at r p c = is_same_row r c.row && is_of_place p c.mutation

-- whether a mutation leaves a version at a place: a deletion of a range stands by itself
abbrev pub leaves_version : Mutation → Bool
leaves_version (Insert n v) = true
leaves_version (DeleteColumn n) = true
leaves_version DeleteRow = true
leaves_version (DeleteRange start finish) = false

-- the version that a mutation leaves
abbrev pub version_of : Origin → Mutation → Version
version_of o m = record { stamp = o.stamp; evt = o.evt; what = record { writer = o.writer; value = inserted m } }

-- the versions that these changes leave at a place of a row, in order
abbrev pub written : Origin → Row → Place → List Change → List Version
written o r p changes = map (λ c. version_of o c.mutation) (filter (is_at r p) changes)

-- versions put into a chain, one after the other
abbrev pub put_all : List Version → List Version → List Version
put_all xs [] = xs
put_all xs (v ∷ vs) = put_all (put_of xs v) vs

-- there is room for a version at each place that these changes write to
abbrev pub HasRoomAtPlaces : List (Row × Chains) → List Change → Type 0
HasRoomAtPlaces rows changes = (r : Row) (p : Place) → list_any (is_at r p) changes ≡ true → 0 < (chain_at rows r p).room

-- there is room in each row for the deletions of ranges that are among these changes
abbrev pub HasRoomForRanges : List (Row × Chains) → List Change → Type 0
HasRoomForRanges rows changes = (r : Row) → length (ranges_of r changes) ≤ (ranges_in rows r).room

-- there is room in the rows for all that these changes leave
abbrev pub HasRoomInRows : List (Row × Chains) → List Change → Type 0
HasRoomInRows rows changes = HasRoomAtPlaces rows changes × HasRoomForRanges rows changes

-- there is room for all that these changes leave, and for their rows in the list
abbrev pub HasRoom : StoreValue → List Change → Type 0
HasRoom s changes = HasRoomInRows s.rows changes × (length changes ≤ s.listing)

-- both rows of chains have the same versions at each place
abbrev pub HaveSameVersions : List (Row × Chains) → List (Row × Chains) → Type 0
HaveSameVersions olds news = (r : Row) (p : Place) → (chain_at news r p).versions ≡ (chain_at olds r p).versions

-- both rows of chains have the same deletions of ranges in each row
abbrev pub HaveSameRanges : List (Row × Chains) → List (Row × Chains) → Type 0
HaveSameRanges olds news = (r : Row) → (ranges_in news r).ranges ≡ (ranges_in olds r).ranges

-- in each row there is at least the room for deletions of ranges that there was
abbrev pub HaveKeptRangeRoom : List (Row × Chains) → List (Row × Chains) → Type 0
HaveKeptRangeRoom olds news = (r : Row) → (ranges_in olds r).room ≤ (ranges_in news r).room

-- at each place there is at least the room that there was
abbrev pub HaveKeptRoom : List (Row × Chains) → List (Row × Chains) → Type 0
HaveKeptRoom olds news = (r : Row) (p : Place) → (chain_at olds r p).room ≤ (chain_at news r p).room

-- at each place the versions that these changes leave are put to what was held
abbrev pub HavePut : Origin → List Change → List (Row × Chains) → List (Row × Chains) → Type 0
HavePut o changes olds news =
    (r : Row) (p : Place) → (chain_at news r p).versions ≡ put_all (chain_at olds r p).versions (written o r p changes)

-- the deletion of a range that a mutation leaves, if it deletes one
abbrev pub range_left : Origin → Mutation → Option RangeDeletion
range_left o (Insert n v) = None
range_left o (DeleteColumn n) = None
range_left o DeleteRow = None
range_left o (DeleteRange start finish) =
    Some (record { stamp = o.stamp; evt = o.evt; start = start; finish = finish; writer = o.writer })

-- the deletions of ranges that these changes leave in a row, in order
abbrev pub ranges_written : Origin → Row → List Change → List RangeDeletion
ranges_written o r changes = filter_map (λ c. range_left o c.mutation) (filter (λ c. is_same_row r c.row) changes)

-- deletions of ranges put to those of a row, one after the other
abbrev pub put_all_ranges : List RangeDeletion → List RangeDeletion → List RangeDeletion
put_all_ranges xs [] = xs
put_all_ranges xs (v ∷ vs) = put_all_ranges (put_range xs v) vs

-- in each row the deletions of ranges that these changes leave are put to those that were held, each once
abbrev pub HavePutRanges : Origin → List Change → List (Row × Chains) → List (Row × Chains) → Type 0
HavePutRanges o changes olds news =
    (r : Row) → (ranges_in news r).ranges ≡ put_all_ranges (ranges_in olds r).ranges (ranges_written o r changes)

-- a chain after a collection, with the room that it leaves
abbrev pub collected_held : ℕ → Held → Held
collected_held t h = record {
  versions = kept_from t h.versions;
  room = h.room + length h.versions - length (kept_from t h.versions);
}

-- the deletions of ranges after a collection below deletions of their row, with the room that it leaves
abbrev pub collected_ranges : ℕ → List Version → HeldRanges → HeldRanges
collected_ranges t deletions h = record {
  ranges = kept_ranges t deletions h.ranges;
  room = h.room + length h.ranges - length (kept_ranges t deletions h.ranges);
}

-- a row after a collection of all that it holds: of its deletions of ranges by its deletions as they were
abbrev pub collected_row : ℕ → Chains → Chains
collected_row t r = record {
  columns = map (λ e. (e.0, collected_held t e.1)) r.columns;
  deletions = collected_held t r.deletions;
  ranges = collected_ranges t r.deletions.versions r.ranges;
}

-- at each place what can be seen from the time on is kept
abbrev pub HaveKept : ℕ → List (Row × Chains) → List (Row × Chains) → Type 0
HaveKept t olds news = (r : Row) (p : Place) → (chain_at news r p).versions ≡ kept_from t (chain_at olds r p).versions

-- in each row the deletions of ranges are kept that are in force at some time from the time on
abbrev pub HaveKeptRanges : ℕ → List (Row × Chains) → List (Row × Chains) → Type 0
HaveKeptRanges t olds news =
    (r : Row) → (ranges_in news r).ranges ≡ kept_ranges t (chain_at olds r None).versions (ranges_in olds r).ranges
