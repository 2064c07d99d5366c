-- What is told of a load.
use Rattle.std.specs.Prelude.{◌≡◌, ℕ, ◌+◌, ◌*◌, ◌/◌, List, [], ◌∷◌, ◌++◌, ◌==◌, ◌⊎◌, max, codes, decimal, if◌then◌else◌}
use Rattle.std.specs.List.{sum}
use Rattle.load.specs.Percentiles.{IsPercentile, greatest_in}
use Rattle.load.specs.declared.told.Report.{Report}

-- how many there are in a second, where so many came in so many microseconds
abbrev pub a_second : ℕ → ℕ → ℕ
a_second count time = count * 1000000 / max time 1

-- a time is what is told of a percentile in thousandths
abbrev pub IsTime : ℕ → List ℕ → ℕ → Type 0
IsTime permille counts time = (bucket : ℕ) × IsPercentile permille counts bucket × (time ≡ greatest_in bucket)

-- how many, how many a second, and within how many microseconds half of them were answered, 99 of a hundred and 999 of a thousand
abbrev pub line_text : List ℕ → ℕ → ℕ → ℕ → ℕ → ℕ → List ℕ
line_text name count rate half most nearly_all =
    name ++ codes " " ++ decimal count ++ codes ", " ++ decimal rate ++ codes " a second, 50 % " ++ decimal half ++ codes " us, 99 % " ++ decimal most ++ codes " us, 99.9 % " ++ decimal nearly_all ++ codes " us\n"

-- the line of those that are counted in buckets, and came in so many microseconds
abbrev pub IsLine : List ℕ → List ℕ → ℕ → List ℕ → Type 0
IsLine name counts time text =
    ((sum counts ≡ 0) × (text ≡ name ++ codes " 0\n"))
    ⊎ ((half most nearly_all : ℕ) × IsTime 500 counts half × IsTime 990 counts most × IsTime 999 counts nearly_all × (text ≡ line_text name (sum counts) (a_second (sum counts) time) half most nearly_all))

-- the line of a refusal, where any were
abbrev pub refusal_text : ℕ → ℕ → List ℕ
refusal_text number count = if count == 0 then [] else codes "refused " ++ decimal number ++ codes ": " ++ decimal count ++ codes "\n"

-- the lines of refusals, from this number on
abbrev pub refusals_text : ℕ → List ℕ → List ℕ
refusals_text number [] = []
refusals_text number (count ∷ counts) = refusal_text number count ++ refusals_text (number + 1) counts

-- what was asked, and how long that took
abbrev pub asked_text : Report → List ℕ
asked_text r = codes "asked " ++ decimal r.asked ++ codes " in " ++ decimal (r.time / 1000) ++ codes " ms\n"

-- what was never answered, and how many connections ended
abbrev pub unanswered_text : Report → List ℕ
unanswered_text r = codes "unanswered " ++ decimal r.unanswered ++ codes " on " ++ decimal r.silent ++ codes " connections, " ++ decimal r.ended ++ codes " ended\n"

-- all that is told of a load
pub record IsReport (r : Report) (text : List ℕ) : Type 0 where
  pub reads : List ℕ
  pub writes : List ℕ
  pub together : List ℕ
  pub reads_line : IsLine (codes "reads") r.reads r.time reads
  pub writes_line : IsLine (codes "writes") r.writes r.time writes
  pub together_line : IsLine (codes "together") r.together r.time together
  pub whole : text ≡ asked_text r ++ reads ++ writes ++ together ++ refusals_text 0 r.refused.items ++ unanswered_text r
