use Rattle.std.proofs.Common.{◌≡◌, length}
use Rattle.std.specs.Prelude.{unwrap_or}
use Rattle.std.specs.BTreeMap.{get}
use Rattle.column_family.specs.declared.batch.Row.{Row}
use Rattle.column_family.specs.Normal.{changes_before}
use Rattle.column_family.specs.Places.{row_cmp, first_from}
use Rattle.column_family.proofs.normalizing.first_places.Given as goal

-- the rest's first, or else what is held, is the row's first
abbrev pub invariant-loop-last : goal.invariant-loop-last
invariant-loop-last l = (r : Row) → first_from 0 l.rest r (unwrap_or (get row_cmp l.first r) (length l.changes)) ≡ changes_before l.changes r

abbrev pub decreases-loop-last : goal.decreases-loop-last
decreases-loop-last l = length l.rest
