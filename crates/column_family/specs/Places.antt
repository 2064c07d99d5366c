-- How the normal form is found: the place of each change in it, and what is kept at each place.
use Rattle.std.specs.Prelude.{ℕ, ◌+◌, ◌==◌, Bool, true, false, not, ◌&&◌, if◌then◌else◌, List, [], ◌∷◌, filter}
use Rattle.std.specs.declared.cmp.Ordering.{Ordering}
use Rattle.std.specs.declared.cmp.Ordering.TheVariants.{Less, Equal, Greater}
use Rattle.std.specs.Ordering.{nat_cmp, is_eq, is_le, is_lt, ordering_then}
use Rattle.std.specs.Cmp.Lexicographic.{slice_cmp}
use Rattle.std.specs.List.{list_any}
use Rattle.std.specs.Map.{values_of}
use Rattle.std.specs.BTreeMap.{insert_entry}
use Rattle.column_family.specs.declared.batch.Row.{Row}
use Rattle.column_family.specs.declared.batch.Change.{Change}
use Rattle.column_family.specs.declared.batch.Mutation.{Mutation}
use Rattle.column_family.specs.declared.batch.Mutation.TheVariants.{Insert, DeleteColumn, DeleteRow, DeleteRange}
use Rattle.column_family.specs.declared.places.RowPart.{RowPart}
use Rattle.column_family.specs.declared.places.RowPart.TheVariants.{Whole, Range, Column, End}
use Rattle.column_family.specs.declared.places.Place.{Place}
use Rattle.column_family.specs.Names.{is_open, is_between}
use Rattle.column_family.specs.Location.{is_same_row}
use Rattle.column_family.specs.Normal.{changes_before}

-- whether each change is in a row of its own: such changes are their own normal form
abbrev pub are_apart : List Change → Bool
are_apart [] = true
are_apart (c ∷ cs) = not (list_any (λ d. is_same_row c.row d.row) cs) && are_apart cs

-- changes at their places
abbrev pub Placed : Type 0
Placed = List (Place × Change)

-- where the first of these changes to the row stands, if they stand from i on, or else the given number
abbrev pub first_from : ℕ → List Change → Row → ℕ → ℕ
first_from i [] r n = n
first_from i (c ∷ cs) r n = if is_same_row r c.row then i else first_from (i + 1) cs r n

-- rows are ordered by key, then by family
abbrev pub row_cmp : Row → Row → Ordering
row_cmp a b = ordering_then (slice_cmp nat_cmp a.key b.key) (slice_cmp nat_cmp a.family b.family)

-- whether the row is one of these
abbrev pub is_listed : List Row → Row → Bool
is_listed rows r = list_any (λ s. is_eq (row_cmp r s)) rows

-- the part of its row that a mutation concerns, which stands here in the batch
abbrev pub part_of : ℕ → Mutation → RowPart
part_of i (Insert n v) = Column n
part_of i (DeleteColumn n) = Column n
part_of i DeleteRow = Whole
part_of i (DeleteRange start finish) = Range i

-- whether a newer mutation of the row undoes what is kept of this part of it, where the end counts as a column
abbrev pub is_undone : Mutation → RowPart → Bool
is_undone DeleteRow p = true
is_undone (DeleteRange start finish) (Column n) = is_between start finish n
is_undone (DeleteRange start finish) End = is_open finish
is_undone m p = false

-- parts are in the order in which they stand within a row
abbrev pub part_cmp : RowPart → RowPart → Ordering
part_cmp Whole Whole = Equal
part_cmp Whole q = Less
part_cmp p Whole = Greater
part_cmp (Range i) (Range j) = nat_cmp i j
part_cmp (Range i) q = Less
part_cmp p (Range j) = Greater
part_cmp (Column n) (Column m) = slice_cmp nat_cmp n m
part_cmp (Column n) End = Less
part_cmp End (Column m) = Greater
part_cmp End End = Equal

-- places are ordered by row, and then by part
abbrev pub place_cmp : Place → Place → Ordering
place_cmp a b = ordering_then (nat_cmp a.row b.row) (part_cmp a.part b.part)

-- whether a place isn't before the first nor after the second of two
abbrev pub is_among : Place → Place → Place → Bool
is_among low high p = is_le (place_cmp low p) && not (is_lt (place_cmp high p))

-- the last part of a row that a range with this finish has
abbrev pub last_part : List ℕ → RowPart
last_part finish = if is_open finish then End else Column finish

-- what is kept of changes after a newer mutation of a row of this number: what it doesn't undo
abbrev pub after : ℕ → Mutation → Placed → Placed
after row m es = filter (λ e. not (e.0.row == row && is_undone m e.0.part)) es

-- what is kept of changes after a newer one of the row, which stands here in the batch: that one too
abbrev pub keep : ℕ → ℕ → Placed → Change → Placed
keep row i es c = insert_entry place_cmp (after row c.mutation es) (record { row = row; part = part_of i c.mutation }) c

-- what is kept of changes that stand from i on, after older ones, where each row has a number
abbrev pub keep_all : (Row → ℕ) → ℕ → Placed → List Change → Placed
keep_all number i es [] = es
keep_all number i es (c ∷ cs) = keep_all number (i + 1) (keep (number c.row) i es c) cs

-- the normal form of a batch: what is kept of it, in the order of places
abbrev pub normal_of : List Change → List Change
normal_of batch = values_of (keep_all (changes_before batch) 0 [] batch)
