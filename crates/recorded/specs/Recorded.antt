-- What a file records of a store.
use Rattle.std.specs.Prelude.{ℕ, List}
use Rattle.column_family.specs.History.{History}
use Rattle.audit.specs.declared.judging.Answered.{Answered}

-- its column families, the history of each of its data centres, and reads that it answered
pub record RecordedValue : Type 0 where
  pub families : List (List ℕ)
  pub histories : List History
  pub reads : List Answered
