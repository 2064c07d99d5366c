-- The home of a session.
use Rattle.std.specs.Prelude.{ℕ}

-- the number of the data centre, how many there are, and how many shards each has
pub record HomeValue : Type 0 where
  pub dc : ℕ
  pub dcs : ℕ
  pub shards : ℕ
