use Rattle.actors.proofs.Sent.{IsAbove}
use Rattle.actors.proofs.recorded.nth_to.Given as goal

abbrev pub invariant-loop-place : goal.invariant-loop-place
invariant-loop-place l = IsAbove l.to l.envelopes l.number l.place l.left
