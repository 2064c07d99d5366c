use Rattle.std.proofs.Common.{◌≡◌, take}
use Rattle.std.specs.BTreeSet.{contains}
use Rattle.logical_time.specs.Stamps.{TxnValue, txn_cmp}
use Rattle.messages.specs.SessionEvents.{is_left}
use Rattle.dependencies.proofs.missing.txns_of.Given as goal

-- the transactions of the writers so far
abbrev pub invariant-loop-writer : goal.invariant-loop-writer
invariant-loop-writer l = (t : TxnValue) → contains txn_cmp l.txns t ≡ is_left t (take l.writer-index l.writers)
