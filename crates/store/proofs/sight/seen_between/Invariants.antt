use Rattle.std.proofs.Common.{◌≡◌, ◌++◌, map, filter, filter_map}
use Rattle.slice.specs.Slice.{is_between}
use Rattle.store.specs.Sight.{named, seen_entry}
use Rattle.store.proofs.sight.seen_between.Given as goal

-- what is left of the range completes what is seen
abbrev pub invariant-loop-name : goal.invariant-loop-name
invariant-loop-name l = map named l.seen.items ++ filter_map (seen_entry l.moment) l.name-iterator ≡ filter_map (seen_entry l.moment) (filter (λ e. is_between l.low l.high e.0) l.columns.entries)
