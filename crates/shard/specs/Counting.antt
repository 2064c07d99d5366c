-- Notices and answers for ballots of other data centres' writes.
use Rattle.std.specs.Prelude.{◌≡◌, ℕ, ⊤, true, Option, is_some}
use Rattle.logical_time.specs.Stamps.{TxnValue}
use Rattle.messages.specs.Topology.{TopologyValue}
use Rattle.messages.specs.Shard.{ShardState, ShardStep}
use Rattle.messages.specs.Replication.{on_notify, on_dep_ok}
use Rattle.write_txn.specs.declared.open.Missing.{Missing}
use Rattle.write_txn.specs.declared.open.Missing.TheVariants.{Notice, Answer}
use Rattle.write_txn.specs.Ledger.{State}

-- what one makes of a shard
abbrev pub on_missing : Missing → TopologyValue → ℕ → ℕ → ShardState → TxnValue → ShardStep
on_missing (Notice node) top me n a t = on_notify top me n a node t
on_missing (Answer dependency) top me n a t = on_dep_ok top me n a dependency t

-- a notice of an unknown transaction is early
abbrev pub IsInTime : Missing → Option State → Type 0
IsInTime (Notice node) s = is_some s ≡ true
IsInTime (Answer dependency) s = ⊤
