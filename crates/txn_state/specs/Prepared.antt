-- Parts that are prepared.
use Rattle.std.specs.Prelude.{ℕ}
use Rattle.txn_state.specs.declared.part.WritePart.{WritePart}

-- a part, and the time at which it was prepared
pub record PreparedValue : Type 0 where
  pub part : WritePart
  pub time : ℕ
