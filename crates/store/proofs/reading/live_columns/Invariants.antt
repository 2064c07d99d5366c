use Rattle.std.proofs.Common.{◌≡◌, take, filter_map}
use Rattle.std.specs.Option.{option_copied}
use Rattle.store.specs.Sight.{named, live_of}
use Rattle.store.proofs.reading.live_columns.Given as goal

-- the columns so far
abbrev pub invariant-loop-one : goal.invariant-loop-one
invariant-loop-one l = l.columns.items ≡ filter_map (λ s. live_of (option_copied l.fn.deletion) (named s)) (take l.one-index l.seen)
