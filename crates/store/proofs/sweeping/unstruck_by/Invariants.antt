use Rattle.std.proofs.Common.{◌≡◌, filter, take, not}
use Rattle.std.specs.Option.{option_copied}
use Rattle.store.specs.Sight.{named}
use Rattle.store.specs.Sweeping.{newest_strikes}
use Rattle.store.proofs.sweeping.unstruck_by.Given as goal

-- those so far
abbrev pub invariant-loop-one : goal.invariant-loop-one
invariant-loop-one l = (l.walk ≡ record { ranges = l.ranges.ranges; time = l.fn.time }) × (l.bare.items ≡ filter (λ s. not (newest_strikes l.ranges.ranges l.fn.time (option_copied l.deletion) (named s))) (take l.one-index l.seen))
