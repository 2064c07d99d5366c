-- What reading into a buffer tells.
use Rattle.std.proofs.Common.{◌≡◌, ℕ, zero, suc, ◌+◌, ◌-◌, ◌<◌, ◌≤◌, List, ◌++◌, length, take, drop, Some, refl, ap, sym, ◌∙◌, arith}
use Rattle.std.proofs.Math.Seq.{take-add}
use Rattle.std.proofs.lemmas.List.{take_at, take-take}
use Rattle.front.specs.Lines.{LineValue, reads, hears, ends, awaited}

-- a read of nothing
pub reads-none : (n : ℕ) (buffer : List ℕ) (l : LineValue) → n ≡ 0 → reads buffer (Some n) l ≡ ends (awaited l)
reads-none n buffer l h = rw h refl

-- a read of something
pub reads-some : (n : ℕ) (buffer : List ℕ) (l : LineValue) → 0 < n → reads buffer (Some n) l ≡ hears (take n buffer) (awaited l)
reads-some zero buffer l h = absurd (omega arith)
reads-some (suc n) buffer l h = refl

-- bytes that were copied into a buffer are told behind those that came before
pub told_more : (input copied buffer : List ℕ) (at n : ℕ) → copied ≡ take n (take (length input - at) (drop at input)) → n ≤ length input - at → length copied ≡ n → take at input ++ take n (copied ++ drop n buffer) ≡ take (at + n) input
told_more input copied buffer at n e le len =
    ap (λ (t : List ℕ). take at input ++ t) (take_at copied (drop n buffer) n len ∙ e ∙ take-take n (length input - at) (drop at input) le) ∙ sym (take-add at n input)
