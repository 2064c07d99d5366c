-- Sums over nodes: where nothing changes, where one node's part does, and where none is more.
use Rattle.std.proofs.Common.{◌≡◌, ℕ, zero, suc, ◌+◌, ◌<◌, ◌≤◌, inl, inr, refl, subst, arith}
use Rattle.std.specs.Prelude.{◌≢◌}
use Rattle.std.proofs.lemmas.Bool.{cases_lt}
use Rattle.world.specs.Drains.{total}

total_same : (f g : ℕ → ℕ) (n : ℕ) → ((m : ℕ) → m < n → g m ≡ f m) → total g n ≡ total f n
total_same f g zero same = refl
total_same f g (suc n) same =
    let rest = total_same f g n (λ m lt. same m (omega arith)) in let last = same n (omega arith) in omega arith

pub total_one : (f g : ℕ → ℕ) (node n : ℕ) → node < n → ((m : ℕ) → m ≢ node → g m ≡ f m) → total g n + f node ≡ total f n + g node
total_one f g node zero lt others = absurd (omega arith)
total_one f g node (suc n) lt others = elim (cases_lt node n) [
  | inl less ↦ let rest = total_one f g node n less others in let last = others n (λ same. omega arith) in omega arith
  | inr le ↦
      let rest = total_same f g n (λ m below. others m (λ same. omega arith)) in
      let is : n ≡ node = omega arith in
      let ends : total g n + g n + f n ≡ total f n + f n + g n = omega arith in
      subst (λ (i : ℕ). total g (suc n) + f i ≡ total f (suc n) + g i) is ends
]

pub total_below : (f g : ℕ → ℕ) (n : ℕ) → ((m : ℕ) → f m ≤ g m) → total f n ≤ total g n
total_below f g zero le = omega arith
total_below f g (suc n) le = let rest = total_below f g n le in let last = le n in omega arith
