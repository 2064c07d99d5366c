use Rattle.std.proofs.Common.{◌≡◌, map, take}
use Rattle.read_txn.specs.Completed.{row_of, shown}
use Rattle.read_txn.proofs.completing.rows_shown.Given as goal

abbrev pub invariant-loop-row : goal.invariant-loop-row
invariant-loop-row l = l.all.items ≡ map shown (map row_of (take l.row-index l.rows))
