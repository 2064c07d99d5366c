use Rattle.std.proofs.Common.{◌≡◌, ◌++◌, filter_map}
use Rattle.shard.specs.UnderWay.{part_under_way}
use Rattle.shard.proofs.unfinished.parts_of.Given as goal

-- with the parts of the transactions that are left all are there
abbrev pub invariant-loop-txn : goal.invariant-loop-txn
invariant-loop-txn l = l.parts.items ++ filter_map (part_under_way l.ledger) l.txn-iterator ≡ filter_map (part_under_way l.ledger) l.txns.keys
