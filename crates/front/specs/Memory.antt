-- A line in memory.
use Rattle.std.specs.Prelude.{ℕ, List, take, Some}
use Rattle.front.specs.Lines.{Moment, LineValue}
use Rattle.front.specs.declared.memory.Failing.{Failing}
use Rattle.front.specs.declared.memory.Mark.{Mark}

-- what was read and what wasn't; what was written; how often the end was told; how many reads and writes there were; which of
-- them is to fail, and how many have failed; and the moments at which it was waited for
pub record MemoryValue : Type 0 where
  pub heard : List ℕ
  pub unread : List ℕ
  pub said : List ℕ
  pub endings : ℕ
  pub reads : ℕ
  pub writes : ℕ
  pub failing : Failing
  pub failures : ℕ
  pub moments : List Moment

-- the moment at which so much of this input had come, and so much of this output had gone
abbrev pub moment_at : List ℕ → List ℕ → Mark → Moment
moment_at input output mark = record { heard = Some (take mark.heard input); said = Some (take mark.said output) }

-- as a line, it tells its bytes and its moments
abbrev pub line_of : MemoryValue → LineValue
line_of m = record { heard = Some m.heard; said = Some m.said; endings = m.endings; failures = m.failures; moments = Some m.moments }
