use Rattle.std.proofs.Common.{◌≡◌, ◌++◌, drop, map}
use Rattle.read_txn.specs.Completed.{row_of}
use Rattle.read_txn.proofs.completing.add_rows.Given as goal

-- the rows so far and what is left
abbrev pub invariant-loop-row : goal.invariant-loop-row
invariant-loop-row l = map row_of l.taken.items ++ drop l.row-index l.rows ≡ map row_of l.fn.taken.items ++ l.rows
