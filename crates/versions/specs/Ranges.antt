-- Deletions of ranges of a row's columns: how they are put, which is the newest over a name, and which are dropped.
use Rattle.std.specs.Prelude.{◌≡◌, ℕ, ◌≤◌, max, Bool, true, false, ◌&&◌, if◌then◌else◌, not, nat_le, List, [], ◌∷◌, filter, find, Option, Some, None, Contains, ⊤}
use Rattle.std.specs.List.{list_any}
use Rattle.logical_time.specs.Stamps.{StampValue, is_older}
use Rattle.versions.specs.declared.version.Version.{Version}
use Rattle.versions.specs.declared.range.RangeDeletion.{RangeDeletion}
use Rattle.versions.specs.Chain.{at_of}
use Rattle.column_family.specs.Names.{is_between}

-- the range deletions that are held, the newest first, and how many more fit without memory
pub record HeldRanges : Type 0 where
  pub ranges : List RangeDeletion
  pub room : ℕ

-- no range deletion has a greater stamp than this
abbrev pub NoneNewer : StampValue → List RangeDeletion → Type 0
NoneNewer s [] = ⊤
NoneNewer s (x ∷ xs) = (is_older s x.stamp ≡ false) × NoneNewer s xs

-- the stamps never rise
abbrev pub RangesFall : List RangeDeletion → Type 0
RangesFall [] = ⊤
RangesFall (x ∷ xs) = NoneNewer x.stamp xs × RangesFall xs

-- with one more in its place: before the others of its stamp, which stand before it in the batch
abbrev pub put_range : List RangeDeletion → RangeDeletion → List RangeDeletion
put_range [] v = v ∷ []
put_range (x ∷ xs) v = if is_older v.stamp x.stamp then x ∷ put_range xs v else v ∷ x ∷ xs

-- ---- which of them is the newest over a name
-- whether the range deletion is seen by a time, and has the name between its ends
abbrev pub is_over : List ℕ → ℕ → RangeDeletion → Bool
is_over name t x = nat_le x.evt t && is_between x.start x.finish name

-- the newest that is over the name
abbrev pub over_of : List RangeDeletion → List ℕ → ℕ → Option RangeDeletion
over_of xs name t = find (is_over name t) xs

-- the range deletion is held and over the name, and none that is has a greater stamp
abbrev pub IsNewestOver : List RangeDeletion → List ℕ → ℕ → RangeDeletion → Type 0
IsNewestOver xs name t v =
    Contains xs v × (is_over name t v ≡ true) × ((x : RangeDeletion) → Contains xs x → is_over name t x ≡ true → is_older v.stamp x.stamp ≡ false)

-- of a range deletion that is put and one that was found, the newer: at a tie the one that is put
abbrev pub newer_range : RangeDeletion → Option RangeDeletion → Option RangeDeletion
newer_range v None = Some v
newer_range v (Some x) = if is_older v.stamp x.stamp then Some x else Some v

-- the newest over a name once a range deletion is put
abbrev pub over_with : List RangeDeletion → RangeDeletion → List ℕ → ℕ → Option RangeDeletion
over_with xs v name t = if is_over name t v then newer_range v (over_of xs name t) else over_of xs name t

-- ---- range deletions below deletions of their row
-- whether this newest deletion of the row is newer than the range deletion; one of its stamp stands before it in the batch
abbrev pub is_under : Option Version → RangeDeletion → Bool
is_under None x = false
is_under (Some d) x = is_older x.stamp d.stamp

-- whether the range deletion is seen by the time, and newer than the newest deletion of the row that is
abbrev pub is_in_force : List Version → ℕ → RangeDeletion → Bool
is_in_force deletions t x = nat_le x.evt t && not (is_under (at_of deletions t) x)

-- it is so at some time from `low` on
abbrev pub IsInForceFrom : ℕ → List Version → RangeDeletion → Type 0
IsInForceFrom low deletions x = (t : ℕ) × (low ≤ t) × (is_in_force deletions t x ≡ true)

-- those that are seen by the time and newer than the newest deletion of the row that is
abbrev pub in_force_at : List Version → List RangeDeletion → ℕ → List RangeDeletion
in_force_at deletions xs t = filter (is_in_force deletions t) xs

-- whether the range deletion is in force at no time from `low` on: not at the first of these at which it is seen
abbrev pub hidden : ℕ → List Version → RangeDeletion → Bool
hidden low deletions x = is_under (at_of deletions (max low x.evt)) x

-- the range deletions without those
abbrev pub kept_ranges : ℕ → List Version → List RangeDeletion → List RangeDeletion
kept_ranges low deletions xs = filter (λ x. not (hidden low deletions x)) xs

-- whether some newer deletion of the row has an EVT not above the greater of `low` and the range deletion's own
abbrev pub has_newer_by : ℕ → List Version → RangeDeletion → Bool
has_newer_by low deletions x = list_any (λ d. is_older x.stamp d.stamp && nat_le d.evt (max low x.evt)) deletions
