use Rattle.std.proofs.Common.{◌≡◌, max, map, drop}
use Rattle.std.specs.Option.{option_copied}
use Rattle.store.specs.Part.{greatest_of}
use Rattle.store.specs.Sight.{evt_or_0}
use Rattle.store.proofs.reading.evt_of.Given as goal

-- the greatest so far and that of the rest are the greatest of all
abbrev pub invariant-loop-one : goal.invariant-loop-one
invariant-loop-one l =
    max l.evt (greatest_of (map (λ s. s.version.now.evt) (drop l.one-index l.seen)))
    ≡ max (evt_or_0 (option_copied l.deletion)) (greatest_of (map (λ s. s.version.now.evt) l.seen))
