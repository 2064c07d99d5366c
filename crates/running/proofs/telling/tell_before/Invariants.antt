use Rattle.running.proofs.ToldMore.{IsOnWay}
use Rattle.running.proofs.telling.tell_before.Given as goal

abbrev pub invariant-loop-place : goal.invariant-loop-place
invariant-loop-place l = IsOnWay l.node l.number l.seat.refusals l.first l.place l.fn.transcript l.transcript
