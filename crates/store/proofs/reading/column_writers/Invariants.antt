use Rattle.std.proofs.Common.{take, filter_map}
use Rattle.std.specs.Option.{option_copied}
use Rattle.store.specs.Sight.{HaveSameWriters, named, uncovered_writer}
use Rattle.store.proofs.reading.column_writers.Given as goal

-- the writers so far
abbrev pub invariant-loop-one : goal.invariant-loop-one
invariant-loop-one l =
    HaveSameWriters l.writers.items (filter_map (λ s. uncovered_writer (option_copied l.deletion) (named s)) (take l.one-index l.seen))
