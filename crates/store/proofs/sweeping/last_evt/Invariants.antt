use Rattle.std.proofs.Common.{◌≡◌, max, map, drop}
use Rattle.store.specs.Part.{greatest_of}
use Rattle.store.proofs.sweeping.last_evt.Given as goal

-- the greatest so far and that of the rest are the greatest of all
abbrev pub invariant-loop-one : goal.invariant-loop-one
invariant-loop-one l = max l.last (greatest_of (map (λ x. x.range.now.evt) (drop l.one-index l.ranges))) ≡ greatest_of (map (λ x. x.range.now.evt) l.ranges)
