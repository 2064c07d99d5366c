use Rattle.std.proofs.Common.{rules, of_calls, nat_lt}
use Rattle.std.proofs.lemmas.Fn.{always_returns_same}
use Rattle.std.proofs.lemmas.List.Sorted.{IsPartitionedBy-ltb}
use Rattle.write_txn.specs.Statuses.{slot_number}
use Rattle.write_txn.proofs.Slots.{split_from}
use Rattle.write_txn.proofs.block.count_below.Goals as goal

pub returns-clause-split : goal.returns-clause-split
returns-clause-split c =
    split_from c.args.number c.partition_point.result c.args.slots.now
    (c.partition_point.ensures.partitioned (λ s. nat_lt (slot_number s) c.args.number) (always_returns_same _ _ _ (λ a r f k. search (rules, of_calls))) (IsPartitionedBy-ltb slot_number c.args.slots.now c.args.number c.requires))
