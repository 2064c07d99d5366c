use Rattle.std.proofs.Common.{filter_map}
use Rattle.std.specs.Option.{option_copied}
use Rattle.store.specs.Gathering.{IsLeft}
use Rattle.store.specs.Sight.{seen_entry}
use Rattle.store.proofs.gathering.gather_all.Given as goal

-- what is left to come to completes what is gathered
abbrev pub invariant-loop-name : goal.invariant-loop-name
invariant-loop-name l = IsLeft (option_copied l.deletion) (filter_map (seen_entry l.moment) l.name-iterator) (filter_map (seen_entry l.moment) l.columns.entries) l.found
