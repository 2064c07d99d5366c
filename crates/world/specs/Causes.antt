-- What is decided before a write, where the write is decided.
use Rattle.std.specs.Prelude.{◌≡◌, ℕ, ◌<◌, true, Contains}
use Rattle.logical_time.specs.Stamps.{TxnValue, is_older}
use Rattle.messages.specs.Topology.{TopologyValue}
use Rattle.messages.specs.Shard.{Decision}
use Rattle.world.specs.Run.{Run}
use Rattle.world.specs.Histories.{decisions_in}
use Rattle.world.specs.Before.{Past}

-- the transaction is decided in this data centre as well, with a smaller commit time and a smaller stamp than this decision
pub record IsDecidedBefore (top : TopologyValue) (w : Run) (dc : ℕ) (u : TxnValue) (e : Decision) : Type 0 where
  pub decision : Decision
  pub decided : Contains (decisions_in top w dc) decision
  pub txn : decision.txn ≡ u
  pub commit : decision.commit < e.commit
  pub stamp : is_older decision.stamp e.stamp ≡ true

-- in whatever data centre a write is decided, each write before it is decided there so
abbrev pub PastsAreDecided : TopologyValue → Run → Type 0
PastsAreDecided top w =
    (u v : TxnValue) (dc : ℕ) (e : Decision) → Past top w v u → Contains (decisions_in top w dc) e → e.txn ≡ v → IsDecidedBefore top w dc u e
