-- What a store's answers stand for: everything that was ever applied to it.
use Rattle.std.specs.Prelude.{◌≡◌, ℕ, ◌≤◌, Bool, true, false, List, [], ◌∷◌, Option, Some, None, option_map, Contains, ⊤}
use Rattle.std.specs.List.{list_any}
use Rattle.std.specs.Ordering.{is_eq}
use Rattle.logical_time.specs.Stamps.{StampValue, stamp_cmp, is_older}
use Rattle.column_family.specs.declared.batch.Row.{Row}
use Rattle.column_family.specs.declared.batch.Mutation.{Mutation}
use Rattle.column_family.specs.declared.batch.Mutation.TheVariants.{Insert, DeleteColumn, DeleteRow, DeleteRange}
use Rattle.column_family.specs.Location.{Location, is_row_deletion}
use Rattle.column_family.specs.History.{Stamped, newest_of, newest_at, is_older_than}
use Rattle.column_family.specs.Normal.{IsNormal}
use Rattle.versions.specs.declared.version.Version.{Version}
use Rattle.versions.specs.declared.range.RangeDeletion.{RangeDeletion}
use Rattle.versions.specs.Chain.{IsFalling, at_of}
use Rattle.store.specs.declared.part.Applied.{Applied}
use Rattle.store.specs.Part.{history_of, applied_by}
use Rattle.store.specs.Stored.{Place, StoreValue, chain_at, ranges_in, is_at}

-- nothing of these was applied with the stamp
abbrev pub IsNewStamp : StampValue → List Applied → Type 0
IsNewStamp s applied = list_any (λ a. is_eq (stamp_cmp s a.stamp)) applied ≡ false

-- each part is in normal form, and no two have one stamp
abbrev pub AreApart : List Applied → Type 0
AreApart [] = ⊤
AreApart (a ∷ rest) = IsNormal a.part.batch × IsNewStamp a.stamp rest × AreApart rest

-- the mutation that left this at a place: a value, or none
abbrev pub mutation_of : Place → Option (List ℕ) → Mutation
mutation_of None value = DeleteRow
mutation_of (Some n) None = DeleteColumn n
mutation_of (Some n) (Some v) = Insert n v

-- a version of a place, as the mutation that it stands for
abbrev pub stamped_of : Place → Version → Stamped
stamped_of p v = record { stamp = v.stamp; commit = v.evt; mutation = mutation_of p v.what.value }

-- the version came from one of these parts
abbrev pub IsFrom : List Applied → Version → Type 0
IsFrom applied v =
    (a : Applied) × Contains applied a × (a.stamp ≡ v.stamp) × (a.commit ≡ v.evt) × (a.part.writer ≡ v.what.writer)

-- the deletion of a range of the row came from one of these parts
abbrev pub IsRangeFrom : List Applied → Row → RangeDeletion → Type 0
IsRangeFrom applied r x =
    (a : Applied) × Contains applied a × (a.stamp ≡ x.stamp) × (a.commit ≡ x.evt) × (a.part.writer ≡ x.writer)
    × Contains a.part.batch (record { row = r; mutation = DeleteRange x.start x.finish })

-- the newest deletion of the row among these parts is newer than the stamp
abbrev pub is_row_newer : List Applied → Row → StampValue → Bool
is_row_newer applied r s = is_older_than (newest_of (is_row_deletion r) (history_of applied)) s

-- The store keeps all of this, which is everything that was ever applied to it: from its horizon on it sees at
-- each place the newest mutation of what was applied by then, in each row every deletion of a range that is newer than the
-- newest deletion of the row by then, and what it holds came from there. What it dropped can't be seen from the horizon on.
pub record Keeps (s : StoreValue) (all : List Applied) : Type 0 where
  pub apart : AreApart all
  pub falling : (r : Row) (p : Place) → IsFalling (chain_at s.rows r p).versions
  pub seen : (r : Row) (p : Place) (t : ℕ) → s.low ≤ t
      → option_map (stamped_of p) (at_of (chain_at s.rows r p).versions t) ≡ newest_of (is_at r p) (history_of (applied_by t all))
  pub from : (r : Row) (p : Place) (v : Version) → Contains (chain_at s.rows r p).versions v → IsFrom all v
  pub ranges : (r : Row) (t : ℕ) (x : RangeDeletion) → s.low ≤ t → IsRangeFrom (applied_by t all) r x
      → is_row_newer (applied_by t all) r x.stamp ≡ false → Contains (ranges_in s.rows r).ranges x
  pub ranges_from : (r : Row) (x : RangeDeletion) → Contains (ranges_in s.rows r).ranges x → IsRangeFrom all r x

-- a mutation of this stamp and commit time is overtaken at the location: something newer touches it that is
-- committed at or before it
abbrev pub IsOvertaken : List Applied → Location → StampValue → ℕ → Type 0
IsOvertaken all l s commit =
    (n : Stamped) × (newest_at (history_of all) commit l ≡ Some n) × (is_older s n.stamp ≡ true)
