-- Stamps, the numbers of transactions and writers as contracts see them, and their orders.
use Rattle.std.specs.Prelude.{ℕ, Bool}
use Rattle.std.specs.Ordering.{nat_cmp, ordering_then, is_lt}
use Rattle.std.specs.declared.cmp.Ordering.{Ordering}

-- the commit time where the transaction was submitted, and the coordinator there
pub record StampValue : Type 0 where
  pub time : ℕ
  pub node : ℕ

-- a session, and the number of its operation
pub record TxnValue : Type 0 where
  pub session : ℕ
  pub number : ℕ

-- a transaction, and the shard that coordinates it
pub record WriterValue : Type 0 where
  pub txn : TxnValue
  pub shard : ℕ

-- stamps are ordered by time, then by node
abbrev pub stamp_cmp : StampValue → StampValue → Ordering
stamp_cmp a b = ordering_then (nat_cmp a.time b.time) (nat_cmp a.node b.node)

-- whether the first stamp is the smaller one: the last writer wins, so what it stamps is older
abbrev pub is_older : StampValue → StampValue → Bool
is_older a b = is_lt (stamp_cmp a b)

-- transactions are ordered by session, then by number
abbrev pub txn_cmp : TxnValue → TxnValue → Ordering
txn_cmp a b = ordering_then (nat_cmp a.session b.session) (nat_cmp a.number b.number)

-- writers are ordered by transaction, then by shard
abbrev pub writer_cmp : WriterValue → WriterValue → Ordering
writer_cmp a b = ordering_then (txn_cmp a.txn b.txn) (nat_cmp a.shard b.shard)
