-- A line in memory, which is ready or not as a list says.
use Rattle.std.specs.Prelude.{ℕ, List, Bool, Some, None}
use Rattle.readiness.specs.Lines.{ReadyValue}

-- what was read and what wasn't; what was written; how often the end was told; how many calls failed; and whether the
-- last read found nothing, and the last write no room
pub record MemoryValue : Type 0 where
  pub heard : List ℕ
  pub unread : List ℕ
  pub said : List ℕ
  pub endings : ℕ
  pub failures : ℕ
  pub dry : Bool
  pub full : Bool

-- as a line, it tells its bytes, and nothing of moments, as it is never waited for
abbrev pub line_of : MemoryValue → ReadyValue
line_of m = record { line = record { heard = Some m.heard; said = Some m.said; endings = m.endings; failures = m.failures; moments = None }; dry = m.dry; full = m.full }
