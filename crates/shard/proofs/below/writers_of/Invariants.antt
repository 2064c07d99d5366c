use Rattle.std.proofs.Common.{◌≡◌, take, filter_map}
use Rattle.shard.specs.UnderWay.{writer_under_way}
use Rattle.shard.proofs.below.writers_of.Given as goal

-- the writers of the transactions so far
abbrev pub invariant-loop-txn : goal.invariant-loop-txn
invariant-loop-txn l = l.writers.items ≡ filter_map (writer_under_way l.ledger) (take l.txn-index l.txns)
