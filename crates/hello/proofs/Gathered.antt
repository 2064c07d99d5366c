-- What a comparison that looks at all bytes has gathered.
use Rattle.std.proofs.Common.{◌≡◌, ◌∙◌, ◌<◌, ◌/◌, ◌%◌, ◌^◌, ℕ, ◌+◌, List, length, take, get_or, bit_or, bit_xor, refl, sym, ap, arith}
use Rattle.std.specs.Int.Bits.{xor_self}
use Rattle.std.proofs.lemmas.Nat.{le_or_l, le_or_r}
use Rattle.std.proofs.lemmas.Nat.Bits.{same_from_bits, bit_at_xor, bit_at-zero, bit_at-lt}
use Rattle.std.proofs.lemmas.List.{take-take, get_or-take, take_more_same}

-- what was gathered of the first i bytes is 0 just where they are the same
abbrev pub IsSameTo : List ℕ → List ℕ → ℕ → ℕ → Type 0
IsSameTo a b i d = (d ≡ 0 → take i a ≡ take i b) × (take i a ≡ take i b → d ≡ 0)

-- numbers whose xor is 0 are the same
same_from_xor : (a b : ℕ) → bit_xor a b ≡ 0 → a ≡ b
same_from_xor a b none =
    same_from_bits a b (λ i. omega (arith, sym (bit_at_xor a b i) ∙ ap (λ (n : ℕ). n / 2 ^ i % 2) none ∙ bit_at-zero i, bit_at-lt a i, bit_at-lt b i))

pub same_none : (a b : List ℕ) → IsSameTo a b 0 0
same_none a b = (λ e. refl, λ e. refl)

pub same_more : (a b : List ℕ) (i d : ℕ) → i < length a → length a ≡ length b → IsSameTo a b i d → IsSameTo a b (i + 1) (bit_or d (bit_xor (get_or a i 0) (get_or b i 0)))
same_more a b i d below long same =
    let x = get_or a i 0 in
    let y = get_or b i 0 in (
      λ e.
          let before : d ≡ 0 = omega (arith, le_or_l d (bit_xor x y), e) in
          let here : bit_xor x y ≡ 0 = omega (arith, le_or_r d (bit_xor x y), e) in
          take_more_same a b i 0 below (omega arith) (same.0 before) (same_from_xor x y here),
      λ e.
          let before : take i a ≡ take i b = sym (take-take i (i + 1) a (omega arith)) ∙ ap (λ (l : List ℕ). take i l) e ∙ take-take i (i + 1) b (omega arith) in
          let here : x ≡ y = sym (get_or-take (i + 1) a i 0 (omega arith)) ∙ ap (λ (l : List ℕ). get_or l i 0) e ∙ get_or-take (i + 1) b i 0 (omega arith) in
          ap (λ (n : ℕ). bit_or n (bit_xor x y)) (same.1 before) ∙ ap (λ (n : ℕ). bit_or 0 (bit_xor n y)) here ∙ ap (λ (n : ℕ). bit_or 0 n) (xor_self y),
    )
