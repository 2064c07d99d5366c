use Rattle.std.proofs.Common.{◌≡◌, max, map, drop}
use Rattle.store.specs.Struck.{ranged, evt_asked}
use Rattle.store.proofs.striking.evt_asked.Given as goal

-- the greatest so far and that of the rest are the greatest of all
abbrev pub invariant-loop-one : goal.invariant-loop-one
invariant-loop-one l = max l.evt (evt_asked l.predicate (map ranged (drop l.one-index l.ranges))) ≡ evt_asked l.predicate (map ranged l.ranges)
