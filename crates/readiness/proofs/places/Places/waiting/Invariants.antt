use Rattle.std.proofs.Common.{◌≡◌, take}
use Rattle.readiness.specs.Places.{waiting_in}
use Rattle.readiness.proofs.places.Places.waiting.Given as goal

-- those at the places so far
abbrev pub invariant-loop-place : goal.invariant-loop-place
invariant-loop-place g l = l.sum ≡ waiting_in (take l.place-index l.self.places.items)
