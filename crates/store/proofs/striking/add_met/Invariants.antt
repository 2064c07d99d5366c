use Rattle.std.proofs.Common.{◌≡◌, ◌++◌, filter_map, take}
use Rattle.store.proofs.seen.Strikes.{met_writer}
use Rattle.store.proofs.striking.add_met.Given as goal

-- the writers so far
abbrev pub invariant-loop-one : goal.invariant-loop-one
invariant-loop-one l = l.writers.items ≡ l.fn.writers.items ++ filter_map (met_writer l.predicate l.columns) (take l.one-index l.ranges)
