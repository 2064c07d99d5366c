-- What is seen of the bytes of a log.
use Rattle.std.specs.Prelude.{◌≡◌, ◌≤◌, ◌+◌, ℕ, true, List, length, drop}
use Rattle.records.specs.Records.{spelled, recovered, has_first, IsUndamaged}

-- the records end there, and nothing behind them was synced
pub record IsWholeAt (secret : ℕ) (bytes : List ℕ) (end : ℕ) : Type 0 where
  pub ends : end ≡ length (spelled secret 0 (recovered secret 0 0 bytes))
  pub within : end ≤ length bytes
  pub undamaged : IsUndamaged secret bytes

-- records end there, and a first one begins behind
abbrev pub IsDamagedAt : ℕ → List ℕ → ℕ → Type 0
IsDamagedAt secret bytes at = let end = length (spelled secret 0 (recovered secret 0 0 bytes)) in (at ≡ end) × (has_first secret (end + 1) (drop (end + 1) bytes) ≡ true)
