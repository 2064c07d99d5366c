use Rattle.std.specs.Prelude.{length, take}
use Rattle.threaded.specs.Matching.{HaveReceived}
use Rattle.threaded.proofs.matching.receives.Given as goal

abbrev pub invariant-loop-place : goal.invariant-loop-place
invariant-loop-place l = HaveReceived (length l.places) l.seats l.to (take l.place l.journal) l.received.items
