use Rattle.std.specs.Prelude.{◌≡◌, ◌↔◌, true}
use Rattle.threaded.specs.Matching.{AreKept, AreAllTimed}
use Rattle.threaded.proofs.matching.are_timed.Given as goal

abbrev pub invariant-loop-node : goal.invariant-loop-node
invariant-loop-node l = ((l.timed ≡ true) ↔ AreAllTimed l.node l.seats) × AreKept l.node l.seats
