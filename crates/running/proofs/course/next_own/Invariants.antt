use Rattle.std.proofs.Common.{◌≡◌, take}
use Rattle.running.specs.Asked.{own_events}
use Rattle.running.proofs.course.next_own.Given as goal

abbrev pub invariant-loop-place : goal.invariant-loop-place
invariant-loop-place l = own_events (take l.place l.journal) ≡ own_events (take l.first l.journal)
