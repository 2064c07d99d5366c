use Rattle.std.specs.Prelude.{◌≡◌, ℕ, length, slice_get, Some}
use Rattle.threaded.proofs.matching.none_received.Given as goal

abbrev pub invariant-loop-made : goal.invariant-loop-made
invariant-loop-made l = (length l.received.items ≡ l.made) × ((from n : ℕ) → slice_get l.received.items from ≡ Some n → n ≡ 0)
