use Rattle.std.specs.Vec.{vec_len}
use Rattle.write_txn.proofs.ledger.Ledger.close.Given as goal

abbrev pub decreases-loop-open : goal.decreases-loop-open
decreases-loop-open l = vec_len l.under_way
