-- What is seen of a row at a moment, and what a read finds in it.
use Rattle.std.specs.Prelude.{◌≡◌, ℕ, max, Bool, true, false, not, ◌==◌, ◌&&◌, if◌then◌else◌, List, [], ◌∷◌, ◌++◌, map, filter_map, Option, Some, None, option_map, option_to_list, Contains, slice_get, ◌↔◌}
use Rattle.std.specs.List.Sorted.{IsStrictlySortedBy}
use Rattle.std.specs.declared.ops.Bound.{Bound}
use Rattle.std.specs.declared.ops.Bound.TheVariants.{Included, Unbounded}
use Rattle.std.specs.Ordering.{is_lt}
use Rattle.std.specs.declared.cmp.Ordering.{Ordering}
use Rattle.std.specs.declared.cmp.Ordering.TheVariants.{Less, Equal, Greater}
use Rattle.logical_time.specs.Stamps.{WriterValue, writer_cmp, is_older}
use Rattle.versions.specs.declared.version.Version.{Version}
use Rattle.versions.specs.Chain.{Held, at_of}
use Rattle.versions.specs.Newest.{newer_of}
use Rattle.slice.specs.declared.column.Column.{Column}
use Rattle.slice.specs.declared.predicate.Predicate.{Predicate}
use Rattle.slice.specs.Slice.{is_asked, is_open, slice_of}
use Rattle.slice.specs.Rests.{is_within}
use Rattle.store.specs.declared.sight.Moment.{Moment}
use Rattle.store.specs.declared.sight.Moment.TheVariants.{Now, At}
use Rattle.store.specs.declared.sight.Seen.{Seen}
use Rattle.store.specs.Stored.{Place, Chains, chain_of, column_held, name_cmp}
use Rattle.store.specs.declared.part.Part.{Part}
use Rattle.store.specs.Part.{greatest_of}

-- the version that is seen of a chain: the newest, or the newest at a time
abbrev pub seen_in : Moment → List Version → Option Version
seen_in Now xs = slice_get xs 0
seen_in (At t) xs = at_of xs t

-- what is seen at each place of a row
abbrev pub Sight : Type 0
Sight = Place → Option Version

-- what is seen of a row at a moment
abbrev pub sight_of : Moment → Chains → Sight
sight_of m row = λ q. seen_in m (chain_of row q).versions

-- of what is seen at a place of two rows, the newer
abbrev pub newer_seen : Option Version → Option Version → Option Version
newer_seen o None = o
newer_seen o (Some v) = newer_of v o

-- what is seen of a row where another is laid over it: at each place the newer
abbrev pub laid_over : Sight → Sight → Sight
laid_over f g = λ q. newer_seen (f q) (g q)

-- a column that is seen, with its version
abbrev pub NamedVersion : Type 0
NamedVersion = List ℕ × Version

abbrev pub named : Seen → NamedVersion
named s = (s.name.now, s.version.now)

-- an entry of a row's columns, if a version of it is seen
abbrev pub seen_entry : Moment → List ℕ × Held → Option NamedVersion
seen_entry m e = option_map (λ v. (e.0, v)) (seen_in m e.1.versions)

-- the column of a name, if a version of it is seen
abbrev pub seen_at : Moment → List (List ℕ × Held) → List ℕ → Option NamedVersion
seen_at m columns n = seen_entry m (n, column_held columns n)

-- these are the columns that are asked for and of which a version is seen, in name order
pub record AreSeen (f : Sight) (p : Predicate) (seen : List NamedVersion) : Type 0 where
  pub in_order : IsStrictlySortedBy name_cmp (map (λ s. s.0) seen)
  pub sound : (n : List ℕ) (v : Version) → Contains seen (n, v) → (is_asked p n ≡ true) × (f (Some n) ≡ Some v)
  pub whole : (n : List ℕ) (v : Version) → is_asked p n ≡ true → f (Some n) ≡ Some v → Contains seen (n, v)

-- of a column that is seen in two rows, the newer version
abbrev pub newer_named : NamedVersion → NamedVersion → NamedVersion
newer_named x y = if is_older x.1.stamp y.1.stamp then (x.0, y.1) else x

-- of two columns the first, by how their names compare, or the newer where they are one, and how many that takes of each
abbrev pub first_by : Ordering → NamedVersion → NamedVersion → NamedVersion × ℕ × ℕ
first_by Less x y = (x, 1, 0)
first_by Equal x y = (newer_named x y, 1, 1)
first_by Greater x y = (y, 0, 1)

-- the first of two lists by how their first names compare, before what is left of them
abbrev pub merged_by : Ordering → NamedVersion → NamedVersion → List NamedVersion → List NamedVersion → List NamedVersion → List NamedVersion
merged_by Less x y first both second = x ∷ first
merged_by Equal x y first both second = newer_named x y ∷ both
merged_by Greater x y first both second = y ∷ second

-- one column, merged into columns in name order before what follows it
abbrev pub merged_into : NamedVersion → (List NamedVersion → List NamedVersion) → List NamedVersion → List NamedVersion
merged_into x more [] = x ∷ more []
merged_into x more (y ∷ ys) = merged_by (name_cmp x.0 y.0) x y (more (y ∷ ys)) (more ys) (merged_into x more ys)

-- the columns that are seen in either of two rows, in name order, each once with its newer version
abbrev pub merged : List NamedVersion → List NamedVersion → List NamedVersion
merged [] ys = ys
merged (x ∷ xs) ys = merged_into x (λ zs. merged xs zs) ys

-- neither end is open, and the first lies above the second
abbrev pub is_backwards : List ℕ → List ℕ → Bool
is_backwards low high = not (is_open low) && not (is_open high) && is_lt (name_cmp high low)

-- an end of a range as a bound: it is included, and an empty one is open
abbrev pub bound_at : List ℕ → Bound (List ℕ)
bound_at end = if is_open end then Unbounded else Included end

-- a version of a column is covered by a newer deletion of its row
abbrev pub is_covered : Option Version → Version → Bool
is_covered None v = false
is_covered (Some d) v = is_older v.stamp d.stamp

-- the column, where it is live
abbrev pub live_of : Option Version → NamedVersion → Option Column
live_of d s = if is_covered d s.1 then None else option_map (λ v. record { name = s.0; value = v }) s.1.what.value

abbrev pub evt_or_0 : Option Version → ℕ
evt_or_0 None = 0
evt_or_0 (Some v) = v.evt

-- since when the columns and the deletion are all seen
abbrev pub evt_of_sight : Option Version → List NamedVersion → ℕ
evt_of_sight d seen = max (evt_or_0 d) (greatest_of (map (λ s. s.1.evt) seen))

-- the writer of a column's version, where a read that returned these columns rests on it
abbrev pub writer_of : Predicate → List Column → Option Version → NamedVersion → Option WriterValue
writer_of p columns d s = if is_within p columns s.0 && not (is_covered d s.1) then Some s.1.what.writer else None

-- the writer of a column's version that no newer deletion of its row covers
abbrev pub uncovered_writer : Option Version → NamedVersion → Option WriterValue
uncovered_writer d s = if is_covered d s.1 then None else Some s.1.what.writer

-- both lists have the same writers, however often each
abbrev pub HaveSameWriters : List WriterValue → List WriterValue → Type 0
HaveSameWriters xs ys = (w : WriterValue) → Contains xs w ↔ Contains ys w

-- both are one writer
abbrev pub same_writer : WriterValue → WriterValue → Bool
same_writer v w = ((v.txn.session == w.txn.session) && (v.txn.number == w.txn.number)) && (v.shard == w.shard)

-- there is no other writer than this one
abbrev pub has_no_other : WriterValue → Option WriterValue → Bool
has_no_other w None = true
has_no_other w (Some v) = same_writer v w

-- the writers that a read rests on which returned these columns
abbrev pub writers_of : Predicate → List Column → Option Version → List NamedVersion → List WriterValue
writers_of p columns d seen =
    filter_map (writer_of p columns d) seen ++ option_to_list (option_map (λ v. v.what.writer) d)

-- each of these columns is asked for
abbrev pub AreAskedFor : Predicate → List NamedVersion → Type 0
AreAskedFor p seen = (n : List ℕ) (v : Version) → Contains seen (n, v) → is_asked p n ≡ true

-- the part is made of this deletion and these columns: the slice of those that are live, what it rests on, and since
-- when all of it is seen
pub record IsMadeOf (d : Option Version) (seen : List NamedVersion) (p : Predicate) (part : Part) : Type 0 where
  pub columns : part.columns ≡ slice_of p (filter_map (live_of d) seen)
  pub writers : (w : WriterValue) → Contains part.writers w ↔ Contains (writers_of p part.columns d seen) w
  pub in_order : IsStrictlySortedBy writer_cmp part.writers
  pub evt : part.evt ≡ evt_of_sight d seen

-- the part is what is seen of a row: of the columns that are asked for
pub record IsPartSeen (f : Sight) (p : Predicate) (part : Part) : Type 0 where
  pub seen : List NamedVersion
  pub are_seen : AreSeen f p seen
  pub made : IsMadeOf (f None) seen p part
