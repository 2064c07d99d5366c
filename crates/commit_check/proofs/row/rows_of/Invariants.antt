use Rattle.std.proofs.Common.{◌≡◌, take, map}
use Rattle.slice.specs.Rows.{row_of}
use Rattle.commit_check.proofs.row.rows_of.Given as goal

-- the rows of the keys so far
abbrev pub invariant-loop-key : goal.invariant-loop-key
invariant-loop-key l = l.asked.items ≡ map (row_of l.read) (take l.key-index l.read.keys)
