-- How the deletions of ranges of a row are asked for many columns, and a predicate for many ranges.
use Rattle.std.specs.Prelude.{◌≡◌, ℕ, nat_le, Bool, true, false, not, ◌&&◌, List, Option, Some, None, Contains, ⊤}
use Rattle.logical_time.specs.Stamps.{is_older}
use Rattle.slice.specs.declared.predicate.Predicate.{Predicate}
use Rattle.slice.specs.declared.predicate.Predicate.TheVariants.{Names}
use Rattle.slice.specs.Live.{in_name_order}
use Rattle.versions.specs.declared.version.Version.{Version}
use Rattle.versions.specs.declared.range.RangeDeletion.{RangeDeletion}
use Rattle.versions.specs.Ranges.{is_under, over_of}
use Rattle.store.specs.declared.sight.Moment.{Moment}
use Rattle.store.specs.Sight.{NamedVersion}
use Rattle.store.specs.Struck.{is_range_seen}

-- whether this newest deletion of a range over a column, below this deletion of the row, strikes the column's version
abbrev pub does_strike : Option Version → Option RangeDeletion → NamedVersion → Bool
does_strike d None s = false
does_strike d (Some x) s = is_older s.1.stamp x.stamp && not (is_under d x)

-- whether the newest by this time of a row's deletions of ranges over a column strikes its version
abbrev pub newest_strikes : List RangeDeletion → ℕ → Option Version → NamedVersion → Bool
newest_strikes xs t d s = does_strike d (over_of xs s.0 t) s

-- by this time these are all seen, and none is that is not seen at the moment
pub record IsTimeOf (m : Moment) (xs : List RangeDeletion) (t : ℕ) : Type 0 where
  pub sound : (x : RangeDeletion) → nat_le x.evt t ≡ true → is_range_seen m x ≡ true
  pub whole : (x : RangeDeletion) → Contains xs x → nat_le x.evt t ≡ true

-- the predicate is a list of these names, where they are given
abbrev pub IsSetOf : Option (List (List ℕ)) → Predicate → Type 0
IsSetOf None p = ⊤
IsSetOf (Some keys) p = (listed : List (List ℕ)) × (p ≡ Names listed) × (keys ≡ in_name_order listed)
