use Rattle.std.proofs.Common.{◌≡◌, ◌++◌, drop, map, filter}
use Rattle.std.specs.Prelude.{nat_lt}
use Rattle.read_txn.proofs.asking.add_late_keys.Given as goal

-- the keys so far and those of what is left
abbrev pub invariant-loop-row : goal.invariant-loop-row
invariant-loop-row l =
    l.keys.items ++ map (λ r. r.key) (filter (λ r. nat_lt r.lvt l.time) (drop l.row-index l.rows))
    ≡ l.fn.keys.items ++ map (λ r. r.key) (filter (λ r. nat_lt r.lvt l.time) l.rows)
