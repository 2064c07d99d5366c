-- Counts that stay at the greatest value of their type.
use Rattle.std.proofs.Common.{◌≡◌, ℕ, ◌+◌, ◌≤◌, arith}
use Rattle.store.specs.Holdings.{counted}

-- where nothing is left, all was counted
pub all_counted : (sum all : ℕ) → sum ≤ 18446744073709551615 → counted (sum + 0) ≡ counted all → sum ≡ counted all
all_counted sum all within counts = omega arith
