-- What a history of parts has of a row, against the history of the whole batches.
use Rattle.std.specs.Prelude.{◌≡◌, Bool, true, List, filter, Contains}
use Rattle.std.specs.List.{list_any}
use Rattle.column_family.specs.declared.batch.Row.{Row}
use Rattle.column_family.specs.declared.batch.Change.{Change}
use Rattle.column_family.specs.declared.batch.Committed.{Committed}
use Rattle.column_family.specs.Location.{is_same_row}
use Rattle.column_family.specs.History.{History}
use Rattle.column_family.specs.Places.{normal_of}

-- whether changes touch the row
abbrev pub has_row : Row → List Change → Bool
has_row r changes = list_any (λ c. is_same_row r c.row) changes

-- the changes of the row, in their order
abbrev pub changes_of : Row → List Change → List Change
changes_of r changes = filter (λ c. is_same_row r c.row) changes

-- A part of a batch agrees with the whole on a row: it has the same stamp and commit time, and of the row it has what
-- the normal form of the whole has.
pub record AgreesOn (r : Row) (part whole : Committed) : Type 0 where
  pub stamp : part.stamp ≡ whole.stamp
  pub commit : part.commit ≡ whole.commit
  pub changes : changes_of r part.batch ≡ changes_of r (normal_of whole.batch)

-- a stamp names one entry
abbrev pub AreStampedApart : History → Type 0
AreStampedApart h = (c d : Committed) → Contains h c → Contains h d → c.stamp ≡ d.stamp → c ≡ d

-- The parts have the same of a row as the whole batches: each part that touches the row agrees with a whole batch on it,
-- and each whole batch whose normal form touches the row with a part. No two of the whole batches have one stamp.
pub record HaveSameOf (r : Row) (parts whole : History) : Type 0 where
  pub only : (p : Committed) → Contains parts p → has_row r p.batch ≡ true → (w : Committed) × Contains whole w × AgreesOn r p w
  pub each : (w : Committed) → Contains whole w → has_row r (normal_of w.batch) ≡ true → (p : Committed) × Contains parts p × AgreesOn r p w
  pub apart : AreStampedApart whole
