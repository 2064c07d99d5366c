use Rattle.std.proofs.Common.{◌≡◌, ◌++◌, drop, map, filter}
use Rattle.std.specs.Prelude.{nat_le}
use Rattle.messages.specs.Rounds.{row_taken}
use Rattle.read_txn.specs.Completed.{row_of}
use Rattle.read_txn.proofs.completing.add_accepted.Given as goal

-- the rows so far and those of what is left
abbrev pub invariant-loop-row : goal.invariant-loop-row
invariant-loop-row l =
    map row_of l.taken.items ++ map row_taken (filter (λ r. nat_le l.time r.lvt) (drop l.row-index l.rows))
    ≡ map row_of l.fn.taken.items ++ map row_taken (filter (λ r. nat_le l.time r.lvt) l.rows)
