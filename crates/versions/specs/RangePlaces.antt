-- How range deletions are kept: the oldest first.
use Rattle.std.specs.Prelude.{◌≡◌, ℕ, ◌≤◌, List, ◌∷◌, ◌++◌, reverse, take, drop, length}
use Rattle.versions.specs.declared.range.RangeDeletion.{RangeDeletion}
use Rattle.versions.specs.Ranges.{put_range}

-- the range deletion goes to this index
abbrev pub IsRangeIndex : RangeDeletion → List RangeDeletion → ℕ → Type 0
IsRangeIndex v rs i = (i ≤ length rs) × (put_range (reverse rs) v ≡ reverse (drop i rs) ++ v ∷ reverse (take i rs))
