use Rattle.std.proofs.Common.{◌≡◌, ◌++◌, map, take}
use Rattle.std.specs.Option.{option_copied}
use Rattle.store.specs.Struck.{ranged, standing}
use Rattle.store.proofs.striking.add_standing.Given as goal

-- those so far are added
abbrev pub invariant-loop-place : goal.invariant-loop-place
invariant-loop-place l = map ranged l.found.items ≡ map ranged l.fn.found.items ++ standing l.moment (option_copied l.deletion) (take l.place l.ranges.ranges)
