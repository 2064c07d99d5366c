use Rattle.std.proofs.Common.{length, filter_map}
use Rattle.std.specs.Option.{option_copied}
use Rattle.store.specs.Gathering.{IsLeft}
use Rattle.store.specs.Sight.{seen_at}
use Rattle.store.proofs.gathering.gather_named.Given as goal

-- what is left to look up completes what is gathered
abbrev pub invariant-loop-name : goal.invariant-loop-name
invariant-loop-name l = IsLeft (option_copied l.deletion) (filter_map (seen_at l.moment l.columns.entries) l.rest) (filter_map (seen_at l.moment l.columns.entries) l.names) l.found

abbrev pub decreases-loop-name : goal.decreases-loop-name
decreases-loop-name l = length l.rest
