-- A data centre, by its shards.
use Rattle.std.specs.Prelude.{ℕ}

-- the number of the data centre, and how many shards it has
pub record HomeValue : Type 0 where
  pub dc : ℕ
  pub shards : ℕ
