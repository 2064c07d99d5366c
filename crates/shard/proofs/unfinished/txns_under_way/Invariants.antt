use Rattle.std.proofs.Common.{take, Contains}
use Rattle.std.specs.List.Sorted.{IsStrictlySortedBy}
use Rattle.logical_time.specs.Stamps.{txn_cmp}
use Rattle.write_txn.specs.declared.open.Open.{Open}
use Rattle.write_txn.specs.Ledger.{txn_of}
use Rattle.shard.proofs.unfinished.txns_under_way.Given as goal

-- the transactions of what is seen so far are there, in order
abbrev pub invariant-loop-open : goal.invariant-loop-open
invariant-loop-open l = record {
  listed : (o : Open) → Contains (take l.open-index l.open-items) o → Contains l.txns.keys (txn_of o);
  ordered : IsStrictlySortedBy txn_cmp l.txns.keys;
}
