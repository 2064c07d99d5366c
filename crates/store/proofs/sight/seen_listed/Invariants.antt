use Rattle.std.proofs.Common.{◌≡◌, ◌++◌, length, map, filter_map}
use Rattle.store.specs.Sight.{named, seen_at}
use Rattle.store.proofs.sight.seen_listed.Given as goal

-- what is left to look up completes what is seen
abbrev pub invariant-loop-name : goal.invariant-loop-name
invariant-loop-name l = map named l.seen.items ++ filter_map (seen_at l.moment l.columns.entries) l.rest ≡ filter_map (seen_at l.moment l.columns.entries) l.names

abbrev pub decreases-loop-name : goal.decreases-loop-name
decreases-loop-name l = length l.rest
