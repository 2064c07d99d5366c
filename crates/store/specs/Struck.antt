-- What the deletions of ranges that are seen of a row do to a read of it.
use Rattle.std.specs.Prelude.{◌≡◌, ℕ, max, nat_le, Bool, true, not, ◌&&◌, List, filter, filter_map, map, ◌++◌, Option, None, Contains, ◌↔◌}
use Rattle.std.specs.List.{list_any}
use Rattle.std.specs.List.Sorted.{IsStrictlySortedBy}
use Rattle.logical_time.specs.Stamps.{WriterValue, writer_cmp, is_older}
use Rattle.column_family.specs.Names.{is_between}
use Rattle.slice.specs.declared.column.Column.{Column}
use Rattle.slice.specs.declared.predicate.Predicate.{Predicate}
use Rattle.slice.specs.Meeting.{meets, asks_between}
use Rattle.slice.specs.Slice.{slice_of}
use Rattle.versions.specs.declared.version.Version.{Version}
use Rattle.versions.specs.declared.range.RangeDeletion.{RangeDeletion}
use Rattle.versions.specs.Ranges.{is_under}
use Rattle.store.specs.declared.part.Part.{Part}
use Rattle.store.specs.declared.sight.Moment.{Moment}
use Rattle.store.specs.declared.striking.Standing.{Standing}
use Rattle.store.specs.declared.sight.Moment.TheVariants.{Now, At}
use Rattle.store.specs.Stored.{Chains}
use Rattle.store.specs.Part.{greatest_of}
use Rattle.store.specs.Sight.{Sight, NamedVersion, AreSeen, live_of, evt_of_sight, writers_of, seen_in, newer_seen}

abbrev pub ranged : Standing → RangeDeletion
ranged s = s.range.now

-- whether a deletion of a range is seen at a moment
abbrev pub is_range_seen : Moment → RangeDeletion → Bool
is_range_seen Now x = true
is_range_seen (At t) x = nat_le x.evt t

-- of these deletions of ranges those that are seen at a moment and newer than the deletion that is seen of the row
abbrev pub standing : Moment → Option Version → List RangeDeletion → List RangeDeletion
standing m d xs = filter (λ x. is_range_seen m x && not (is_under d x)) xs

-- what is seen at a moment of a row's deletions of ranges
abbrev pub ranges_seen : Moment → Chains → List RangeDeletion
ranges_seen m row = standing m (seen_in m row.deletions.versions) row.ranges.ranges

-- the same of a row where another is laid over it
abbrev pub ranges_over : Moment → Chains → Chains → List RangeDeletion
ranges_over m row over =
    standing m (newer_seen (seen_in m row.deletions.versions) (seen_in m over.deletions.versions)) (row.ranges.ranges ++ over.ranges.ranges)

-- Whether a deletion of a range strikes a column's version: it has the column, and is newer. One of the same stamp is the
-- older: in a normal form the columns stand last.
abbrev pub strikes : RangeDeletion → NamedVersion → Bool
strikes x s = is_between x.start x.finish s.0 && is_older s.1.stamp x.stamp

-- whether one of these strikes a column's version
abbrev pub is_struck : List RangeDeletion → NamedVersion → Bool
is_struck xs s = list_any (λ x. strikes x s) xs

-- the columns of these that none of these deletions of ranges strikes
abbrev pub unstruck : List RangeDeletion → List NamedVersion → List NamedVersion
unstruck xs seen = filter (λ s. not (is_struck xs s)) seen

-- the writers of the deletions of ranges that a read met which returned these columns
abbrev pub writers_met : Predicate → List Column → List RangeDeletion → List WriterValue
writers_met p columns xs = map (λ x. x.writer) (filter (λ x. meets p columns x.start x.finish) xs)

-- since when all of these deletions of ranges are seen that have an asked column
abbrev pub evt_asked : Predicate → List RangeDeletion → ℕ
evt_asked p xs = greatest_of (map (λ x. x.evt) (filter (λ x. asks_between p x.start x.finish) xs))

-- The part is made of this deletion, these deletions of ranges and these columns: the slice of those that are live where
-- no range strikes them, what it rests on, and since when all of it is seen.
pub record IsMadeUnder (d : Option Version) (xs : List RangeDeletion) (seen : List NamedVersion) (p : Predicate) (part : Part) : Type 0 where
  pub columns : part.columns ≡ slice_of p (filter_map (live_of d) (unstruck xs seen))
  pub writers : (w : WriterValue) → Contains part.writers w ↔ Contains (writers_of p part.columns d (unstruck xs seen) ++ writers_met p part.columns xs) w
  pub in_order : IsStrictlySortedBy writer_cmp part.writers
  pub evt : part.evt ≡ max (evt_of_sight d seen) (evt_asked p xs)

-- the part is what is seen of a row under these deletions of ranges: of the columns that are asked for
pub record IsPartUnder (f : Sight) (xs : List RangeDeletion) (p : Predicate) (part : Part) : Type 0 where
  pub seen : List NamedVersion
  pub are_seen : AreSeen f p seen
  pub made : IsMadeUnder (f None) xs seen p part
