-- A byte is found again from its shards. What is true of each byte is shown by trying all 256.
use Rattle.std.proofs.Common.{◌≡◌, ℕ, zero, suc, ◌<◌, Bool, true, ◌&&◌, ◌==◌, refl, subst, arith, inl, inr, eqb-true, not-suc-le-zero}
use Rattle.std.proofs.lemmas.Bool.{cases_lt, and_parts}
use Rattle.messages.specs.CohortBits.{shards_in, bits_of}

-- each number below n passes
unfoldable pub all_below : (ℕ → Bool) → ℕ → Bool
all_below p zero = true
all_below p (suc n) = p n && all_below p n

pub all_below-at : (p : ℕ → Bool) (n j : ℕ) → all_below p n ≡ true → j < n → p j ≡ true
unfolding all_below
all_below-at p zero j h lt = absurd (not-suc-le-zero lt)
all_below-at p (suc n) j h lt =
    let parts = and_parts (p n) (all_below p n) h in
    elim (cases_lt j n) [
      | inl below ↦ all_below-at p n j parts.1 below
      | inr last ↦ let at : n ≡ j = omega arith in subst (λ k. p k ≡ true) at parts.0
    ]

pub bits_back : (n : ℕ) → n < 256 → bits_of (shards_in n) ≡ n
unfolding all_below shards_in bits_of
bits_back n lt = eqb-true _ _ (all_below-at (λ m. bits_of (shards_in m) == m) 256 n refl lt)
