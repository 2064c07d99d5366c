use Rattle.std.proofs.Common.{◌≡◌, take}
use Rattle.actors.specs.Resting.{waiting_on}
use Rattle.actors.proofs.ways.are_idle.Given as goal

abbrev pub invariant-loop-place : goal.invariant-loop-place
invariant-loop-place l = waiting_on (take l.place l.ways) ≡ 0
