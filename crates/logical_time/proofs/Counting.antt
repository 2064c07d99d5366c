-- Numbers that are counted up to an end.
use Rattle.std.proofs.Common.{◌≡◌, ℕ, suc, ◌+◌, ◌-◌, ◌<◌, ◌∷◌, List, length, ap, arith}
use Rattle.std.specs.List.{range_with_len}

-- the first of them, and the others
pub counted_first : (next end : ℕ) → next < end → range_with_len next (end - next) ≡ next ∷ range_with_len (next + 1) (end - (next + 1))
counted_first next end below =
    let more : end - next ≡ suc (end - (next + 1)) = omega arith in
    ap (range_with_len next) more

-- fewer are left after the first
pub fewer_left : (all others : List ℕ) (first : ℕ) → all ≡ first ∷ others → length others < length all
fewer_left all others first e = let longer : length all ≡ length (first ∷ others) = ap length e in omega (arith, longer)
