use Rattle.std.proofs.Common.{◌≡◌, ◌++◌, drop}
use Rattle.running.specs.Told.{told_by}
use Rattle.running.proofs.telling.tell_session.Given as goal

abbrev pub invariant-loop-place : goal.invariant-loop-place
invariant-loop-place l =
    l.transcript ++ told_by l.node (drop l.place l.seat.outcomes) (drop l.told l.seat.refusals) ≡ l.fn.transcript ++ told_by l.node l.seat.outcomes l.seat.refusals
