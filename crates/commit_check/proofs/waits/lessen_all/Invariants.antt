use Rattle.std.proofs.Common.{◌≡◌, take, drop, ◌++◌}
use Rattle.messages.specs.Reads.{lessened}
use Rattle.commit_check.specs.Waiting.{concerns}
use Rattle.commit_check.proofs.waits.lessen_all.Given as goal

-- the reads so far are lessened, and the others are as they were
abbrev pub invariant-loop-wait : goal.invariant-loop-wait
invariant-loop-wait l = l.wait-items ≡ lessened l.txn (concerns l.cause) (take l.wait-index l.fn.waits.items) ++ drop l.wait-index l.fn.waits.items
