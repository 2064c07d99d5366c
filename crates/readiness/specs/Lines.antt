-- A line whose calls don't wait, as who serves it sees it.
use Rattle.std.specs.Prelude.{ℕ, ◌<◌, ◌≤◌, List, take, Bool, true, false}
use Rattle.front.specs.Lines.{LineValue, hears, says, ends, fails}
use Rattle.readiness.specs.declared.line.Came.{Came}
use Rattle.readiness.specs.declared.line.Came.TheVariants as came
use Rattle.readiness.specs.declared.line.Went.{Went}
use Rattle.readiness.specs.declared.line.Went.TheVariants as went

-- What came and went, as of a line that waits; whether the last read found nothing, so that the line tells when there
-- is more; and whether the last write found no room.
pub record ReadyValue : Type 0 where
  pub line : LineValue
  pub dry : Bool
  pub full : Bool

-- what a read into a buffer makes of a line
abbrev pub reads : List ℕ → Came → ReadyValue → ReadyValue
reads buffer (came.Bytes n) s = record { line = hears (take n buffer) s.line; dry = false; full = s.full }
reads buffer came.Nothing s = record { line = s.line; dry = true; full = s.full }
reads buffer came.End s = record { line = ends s.line; dry = s.dry; full = s.full }
reads buffer came.Failed s = record { line = fails s.line; dry = s.dry; full = s.full }

-- what a write of a piece makes of a line
abbrev pub writes : List ℕ → Went → ReadyValue → ReadyValue
writes piece (went.Bytes n) s = record { line = says (take n piece) s.line; dry = s.dry; full = false }
writes piece went.Nothing s = record { line = s.line; dry = s.dry; full = true }
writes piece went.Failed s = record { line = fails s.line; dry = s.dry; full = s.full }

-- at least one byte comes, and no more than there is room for
abbrev pub CameWithin : Came → ℕ → Type 0
CameWithin (came.Bytes n) length = (0 < n) × (n ≤ length)
CameWithin r length = Unit {0}

-- at least one byte goes, and no more than there are
abbrev pub WentWithin : Went → ℕ → Type 0
WentWithin (went.Bytes n) length = (0 < n) × (n ≤ length)
WentWithin r length = Unit {0}
