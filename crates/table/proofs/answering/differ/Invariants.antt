use Rattle.std.proofs.Common.{◌≡◌, length}
use Rattle.table.specs.Once.{do_differ}
use Rattle.table.proofs.answering.differ.Given as goal

-- the rest differ if and only if all do
abbrev pub invariant-loop-key : goal.invariant-loop-key
invariant-loop-key l = do_differ l.rest ≡ do_differ l.keys

abbrev pub decreases-loop-key : goal.decreases-loop-key
decreases-loop-key l = length l.rest
