-- Decisions that are to be announced.
use Rattle.std.specs.Prelude.{ℕ, List}
use Rattle.logical_time.specs.Stamps.{StampValue}
use Rattle.txn_state.specs.Prepared.{PreparedValue}

-- the coordinator's own part, its cohorts, the commit time and the stamp
pub record VerdictValue : Type 0 where
  pub own : PreparedValue
  pub cohorts : List ℕ
  pub commit : ℕ
  pub stamp : StampValue
