use Rattle.std.proofs.Common.{◌≡◌, ◌++◌, map, drop}
use Rattle.running.specs.Told.{refusal_by}
use Rattle.running.proofs.telling.tell_left.Given as goal

abbrev pub invariant-loop-place : goal.invariant-loop-place
invariant-loop-place l =
    l.transcript ++ map (refusal_by l.node) (drop l.place l.seat.refusals) ≡ l.fn.transcript ++ map (refusal_by l.node) (drop l.first l.seat.refusals)
