use Rattle.std.proofs.Common.{◌≡◌, false, take}
use Rattle.actors.specs.Ways.{has_way}
use Rattle.actors.proofs.lane.way_to.Given as goal

abbrev pub invariant-loop-place : goal.invariant-loop-place
invariant-loop-place l = has_way l.to (take l.place l.lanes) ≡ false
