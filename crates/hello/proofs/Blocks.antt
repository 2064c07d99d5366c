-- A key as one block.
use Rattle.std.proofs.Common.{◌≡◌, ◌∙◌, ◌<◌, ◌≤◌, ℕ, ◌+◌, ◌-◌, List, ◌++◌, length, take, drop, replicate, refl, sym, ap, arith}
use Rattle.std.proofs.lemmas.Bool.{le-leb, lt-leb}
use Rattle.std.proofs.lemmas.List.{drop-replicate}
use Rattle.sha2.specs.Sha256.{sha256}
use Rattle.hello.specs.Mac.{block_of}

-- bytes put over the front of zeros have zeros behind them
over_zeros : (n k : ℕ) (bytes : List ℕ) → k ≡ length bytes → take 0 (replicate n 0) ++ bytes ++ drop k (replicate n 0) ≡ bytes ++ replicate (n - length bytes) 0
over_zeros n k bytes e = rw (drop-replicate {X = ℕ} k n 0, e) refl

pub short_block : (block key : List ℕ) → length key ≤ 64 → block ≡ take 0 (replicate 64 0) ++ key ++ drop (0 + length key) (replicate 64 0) → block ≡ block_of key
unfolding block_of
short_block block key short e = e ∙ over_zeros 64 (0 + length key) key (omega arith) ∙ sym (rw (le-leb (length key) 64 short) refl)

pub long_block : (block key : List ℕ) → 64 < length key → block ≡ take 0 (replicate 64 0) ++ sha256 key ++ drop (0 + length (sha256 key)) (replicate 64 0) → block ≡ block_of key
unfolding block_of
long_block block key long e = e ∙ over_zeros 64 (0 + length (sha256 key)) (sha256 key) (omega arith) ∙ sym (rw (lt-leb (length key) 64 long) refl)

-- what was put may be read for what it is
pub put_same : (block digest is : List ℕ) → digest ≡ is → block ≡ take 0 (replicate 64 0) ++ digest ++ drop (0 + length digest) (replicate 64 0) → block ≡ take 0 (replicate 64 0) ++ is ++ drop (0 + length is) (replicate 64 0)
put_same block digest is same e = e ∙ ap (λ (l : List ℕ). take 0 (replicate 64 0) ++ l ++ drop (0 + length l) (replicate 64 0)) same
