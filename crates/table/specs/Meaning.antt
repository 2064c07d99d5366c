-- What a read means on a history at a time.
use Rattle.std.specs.Prelude.{ℕ, not, List, [], ◌∷◌, filter, map}
use Rattle.std.specs.Str.{bytes_eq}
use Rattle.column_family.specs.declared.batch.Row.{Row}
use Rattle.column_family.specs.History.{History, up_to}
use Rattle.slice.specs.declared.read.Read.{Read}
use Rattle.slice.specs.declared.read.AnsweredRow.{AnsweredRow}
use Rattle.slice.specs.Rows.{row_of}
use Rattle.slice.specs.Slice.{slice_of}
use Rattle.slice.specs.Live.{live_columns}

-- each key once, in the order of first asking
abbrev pub each_once : List (List ℕ) → List (List ℕ)
each_once [] = []
each_once (k ∷ ks) = k ∷ filter (λ j. not (bytes_eq k j)) (each_once ks)

-- what a read shows of a row in the table of a whole history: its slice
abbrev pub shown_row : Read → History → List ℕ → AnsweredRow
shown_row read h key = record { key = key; columns = slice_of read.predicate (live_columns h (row_of read key)) }

-- what a read shows of the table of a whole history: each asked key, in the order of first asking, with its slice
abbrev pub shown : Read → History → List AnsweredRow
shown read h = map (shown_row read h) (each_once read.keys)

-- the meaning of a read on a history at a time: what it shows of what is committed by then
abbrev pub meaning : Read → History → ℕ → List AnsweredRow
meaning read h t = shown read (up_to t h)
