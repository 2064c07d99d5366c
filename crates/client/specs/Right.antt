-- Which answers a session gives to reads whose rows are right.
use Rattle.std.specs.Prelude.{◌≡◌, ℕ, ◌+◌, max, List, map, Option, Some}
use Rattle.column_family.specs.History.{History, up_to}
use Rattle.slice.specs.declared.read.Read.{Read}
use Rattle.table.specs.Meaning.{each_once, shown_row}
use Rattle.messages.specs.declared.rows_at.RowAt.{RowAt}
use Rattle.messages.specs.declared.outcome.Outcome.{Outcome}
use Rattle.messages.specs.declared.outcome.Outcome.TheVariants as outcome
use Rattle.messages.specs.declared.envelope.Envelope.{Envelope}
use Rattle.planner.specs.Join.{AreRight}
use Rattle.read_txn.specs.Completed.{shown, answered}
use Rattle.client.specs.declared.kept.SessionKept.{SessionKept}
use Rattle.client.specs.Steps.{heard_kept, completed}

-- the envelope completes the read at this time, and these are the rows that it took
abbrev pub Completes : SessionKept → Envelope → Read → ℕ → List RowAt → Type 0
Completes k e read time rows =
    heard_kept (max k.clock e.time + 1) k e.from e.body ≡ completed (max k.clock e.time + 1) k (answered read time rows)

-- Where each row is right at the time against a history of its own, the outcome of the read is each asked key, in the
-- order of first asking, with its slice of the table of that history at the time.
pub record AnswersRight (k : SessionKept) (e : Envelope) (untaken : Option (ℕ × Outcome)) : Type 0 where
  pub right : (read : Read) (time : ℕ) (rows : List RowAt) (history : List ℕ → History) → Completes k e read time rows → AreRight read history time (map shown rows)
      → untaken ≡ Some (k.count, outcome.Read time (map (λ key. shown_row read (up_to time (history key)) key) (each_once read.keys)))
