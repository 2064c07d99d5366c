use Rattle.std.specs.Prelude.{take}
use Rattle.threaded.specs.Quiet.{HaveCounted}
use Rattle.threaded.proofs.matching.receipts_of.Given as goal

abbrev pub invariant-loop-place : goal.invariant-loop-place
invariant-loop-place l = HaveCounted l.count (take l.place l.journal) l.received.items
