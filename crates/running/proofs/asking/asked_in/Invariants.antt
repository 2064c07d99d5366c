use Rattle.std.proofs.Common.{◌≡◌, take}
use Rattle.running.specs.Asked.{asked_in}
use Rattle.running.proofs.asking.asked_in.Given as goal

abbrev pub invariant-loop-place : goal.invariant-loop-place
invariant-loop-place l = l.list.items ≡ asked_in l.node (take l.place l.events)
