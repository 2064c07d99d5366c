-- A line, as who serves it sees it.
use Rattle.std.specs.Prelude.{ℕ, zero, ◌+◌, ◌-◌, ◌^◌, min, List, [], ◌∷◌, ◌++◌, take, Option, Some, None, option_map}

-- the bytes that had come and those that had been written at a moment, where the line tells them
pub record Moment : Type 0 where
  pub heard : Option (List ℕ)
  pub said : Option (List ℕ)

-- The bytes that came and those that were written, where the line tells them; how often the end of input was told;
-- how many calls failed; and, where the line tells them, the moments at which it was waited for: before each read that
-- didn't fail.
pub record LineValue : Type 0 where
  pub heard : Option (List ℕ)
  pub said : Option (List ℕ)
  pub endings : ℕ
  pub failures : ℕ
  pub moments : Option (List Moment)

-- more behind what is told
abbrev pub with_more : {A : Type 0} → List A → Option (List A) → Option (List A)
with_more more told = option_map (λ known. known ++ more) told

abbrev pub hears : List ℕ → LineValue → LineValue
hears bytes l = record l { heard = with_more bytes l.heard }

abbrev pub says : List ℕ → LineValue → LineValue
says bytes l = record l { said = with_more bytes l.said }

-- what is counted raises its count, which stays at its greatest value
abbrev pub raised : ℕ → ℕ
raised n = min (n + 1) (2 ^ 64 - 1)

abbrev pub ends : LineValue → LineValue
ends l = record l { endings = raised l.endings }

abbrev pub fails : LineValue → LineValue
fails l = record l { failures = raised l.failures }

-- the line is waited for once more
abbrev pub awaited : LineValue → LineValue
awaited l = record l { moments = with_more ((record { heard = l.heard; said = l.said }) ∷ []) l.moments }

-- what reading into a buffer makes of a line: it failed, or told the end of input, or so many bytes came
abbrev pub reads : List ℕ → Option ℕ → LineValue → LineValue
reads buffer None l = fails l
reads buffer (Some zero) l = ends (awaited l)
reads buffer (Some n) l = hears (take n buffer) (awaited l)

-- what writing a piece makes of a line: it failed, or so many bytes went
abbrev pub writes : List ℕ → Option ℕ → LineValue → LineValue
writes piece None l = fails l
writes piece (Some n) l = says (take n piece) l
