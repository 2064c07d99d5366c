-- Which rows a collection has to look at.
use Rattle.std.specs.Prelude.{◌≡◌, ℕ, ◌≤◌, length, nat_lt, Bool, false, not, ◌&&◌, ◌||◌, List, [], map}
use Rattle.std.specs.List.{list_any}
use Rattle.column_family.specs.declared.batch.Row.{Row}
use Rattle.column_family.specs.Places.{is_listed, row_cmp}
use Rattle.versions.specs.Chain.{Held}
use Rattle.store.specs.Stored.{Place, Chains, chain_at, ranges_in, held_by, no_row}

-- the rows that are listed, each once or more, and how many more fit without memory
pub record Listed : Type 0 where
  pub rows : List Row
  pub room : ℕ

-- whether a chain holds more than one version
abbrev pub holds_more : Held → Bool
holds_more h = nat_lt 1 (length h.versions)

-- whether a chain comes to hold more than one version
abbrev pub comes_to_more : Held → Held → Bool
comes_to_more before after = not (holds_more before) && holds_more after

-- whether a chain of the row holds more than one version, or the row a deletion of a range: a collection drops nothing
-- from any other row
abbrev pub is_crowded : Chains → Bool
is_crowded row = list_any holds_more (map (λ e. e.1) row.columns) || (holds_more row.deletions || nat_lt 0 (length row.ranges.ranges))

-- whether the row is crowded, as one of these
abbrev pub is_crowded_in : List (Row × Chains) → Row → Bool
is_crowded_in rows r = is_crowded (held_by row_cmp no_row rows r)

-- each chain of a row that isn't listed holds one version at most
abbrev pub AreShort : List Row → List (Row × Chains) → Type 0
AreShort listed rows = (r : Row) (p : Place) → is_listed listed r ≡ false → length (chain_at rows r p).versions ≤ 1

-- a row that isn't listed holds no deletion of a range
abbrev pub HaveNoRanges : List Row → List (Row × Chains) → Type 0
HaveNoRanges listed rows = (r : Row) → is_listed listed r ≡ false → (ranges_in rows r).ranges ≡ []

-- each row that has to be listed is
abbrev pub AreListed : List Row → List (Row × Chains) → Type 0
AreListed listed rows = AreShort listed rows × HaveNoRanges listed rows
