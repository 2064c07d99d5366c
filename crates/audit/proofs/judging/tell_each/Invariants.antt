use Rattle.std.proofs.Common.{◌≡◌, take}
use Rattle.audit.specs.Misreads.{misreads_from}
use Rattle.audit.proofs.judging.tell_each.Given as goal

-- those so far are told
abbrev pub invariant-loop-place : goal.invariant-loop-place
invariant-loop-place l = l.found.items ≡ misreads_from l.laid 0 (take l.place l.reads)
