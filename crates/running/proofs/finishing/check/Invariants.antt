use Rattle.std.proofs.Common.{◌≡◌, drop}
use Rattle.running.specs.Faults.{first_fault}
use Rattle.running.proofs.finishing.check.Given as goal

-- none of those before ended with a fault
abbrev pub invariant-loop-place : goal.invariant-loop-place
invariant-loop-place l = first_fault l.shifts ≡ first_fault (drop l.place l.shifts)
