-- The join of the rows that shards answered, and which rows are right.
use Rattle.std.specs.Prelude.{◌≡◌, ℕ, ◌+◌, if◌then◌else◌, List, [], ◌∷◌, map, flat_map, Contains, Option, Some, None, option_map, unwrap_or}
use Rattle.std.specs.List.{find}
use Rattle.std.specs.Str.{bytes_eq}
use Rattle.column_family.specs.History.{History, up_to}
use Rattle.slice.specs.declared.column.Column.{Column}
use Rattle.slice.specs.declared.read.AnsweredRow.{AnsweredRow}
use Rattle.slice.specs.declared.read.Read.{Read}
use Rattle.table.specs.Meaning.{each_once, shown_row}
use Rattle.planner.specs.Plan.{keys_for}

-- the first row of this key among those given
abbrev pub row_for : List AnsweredRow → List ℕ → Option AnsweredRow
row_for rows key = find (λ r. bytes_eq r.key key) rows

-- the columns of this key among the rows given: none, where no row of it is given
abbrev pub columns_for : List AnsweredRow → List ℕ → List Column
columns_for rows key = unwrap_or (option_map (λ r. r.columns) (row_for rows key)) []

-- a key with its columns among the rows given
abbrev pub joined_row : List AnsweredRow → List ℕ → AnsweredRow
joined_row rows k = record { key = k; columns = columns_for rows k }

-- the join of rows: each asked key once, in the order of first asking, with its columns among them
abbrev pub joined : List (List ℕ) → List AnsweredRow → List AnsweredRow
joined keys rows = map (joined_row rows) (each_once keys)

-- where the first row of this key stands
abbrev pub place_in : List AnsweredRow → List ℕ → Option ℕ
place_in [] key = None
place_in (r ∷ rs) key = if bytes_eq r.key key then Some 0 else option_map (λ i. i + 1) (place_in rs key)

-- The rows are right for a read at a time, each key against a history of its own: each asked key has one, and those
-- of asked keys show the slice of the table of their history.
pub record AreRight (read : Read) (history : List ℕ → History) (t : ℕ) (rows : List AnsweredRow) : Type 0 where
  pub given : (k : List ℕ) → Contains read.keys k → Contains (map (λ r. r.key) rows) k
  pub right : (r : AnsweredRow) → Contains rows r → Contains read.keys r.key → r ≡ shown_row read (up_to t (history r.key)) r.key

-- what shards answer to a plan, each by a history of its own, one after another in this order
abbrev pub answers_of : ℕ → Read → (ℕ → History) → ℕ → List ℕ → List AnsweredRow
answers_of shards read history t order =
    flat_map (λ s. map (shown_row read (up_to t (history s))) (keys_for shards read.keys s)) order
