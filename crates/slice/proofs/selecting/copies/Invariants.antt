use Rattle.std.proofs.Common.{◌≡◌, map, take}
use Rattle.slice.proofs.selecting.copies.Given as goal

abbrev pub invariant-loop-column : goal.invariant-loop-column
invariant-loop-column l = l.copies.items ≡ map (λ c. c.now) (take l.column-index l.columns)
