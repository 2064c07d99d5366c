use Rattle.std.proofs.Common.{◌≡◌, ◌++◌, drop, flat_map, map}
use Rattle.messages.specs.declared.rows_at.RowAt.{RowAt}
use Rattle.read_txn.specs.Completed.{row_of}
use Rattle.read_txn.proofs.completing.writers_of.Given as goal

-- the writers so far and those of what is left
abbrev pub invariant-loop-row : goal.invariant-loop-row
invariant-loop-row l =
    l.writers.items ++ flat_map (λ (r : RowAt). r.writers) (map row_of (drop l.row-index l.rows)) ≡ flat_map (λ (r : RowAt). r.writers) (map row_of l.rows)
