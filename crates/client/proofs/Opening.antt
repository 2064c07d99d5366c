-- A session before its first event, and its home.
use Rattle.std.proofs.Common.{◌≡◌, ℕ, zero, suc, ◌<◌, Bool, true, false, refl, List, [], ◌∷◌, Option, Some, None, arith}
use Rattle.std.specs.Prelude.{◌&&◌, nat_lt, slice_get, option_and_then}
use Rattle.std.specs.List.{list_all}
use Rattle.std.proofs.lemmas.Bool.Decides.{nat_tests}
use Rattle.messages.specs.Topology.{TopologyValue, session_of, home_of}

all_head : (b c : Bool) → (b && c) ≡ true → (b ≡ true) × (c ≡ true)
all_head true c e = (refl, e)
all_head false c e = absurd (cc)

below_at : (n : ℕ) (xs : List ℕ) (i d : ℕ) → list_all (λ x. nat_lt x n) xs ≡ true → slice_get xs i ≡ Some d → d < n
below_at n [] i d all at = absurd (cc)
below_at n (x ∷ xs) zero d all at =
    let first = (all_head (nat_lt x n) (list_all (λ y. nat_lt y n) xs) all).0 in
    grind (arith, nat_tests)
below_at n (x ∷ xs) (suc i) d all at = below_at n xs i d (all_head (nat_lt x n) (list_all (λ y. nat_lt y n) xs) all).1 at

pub home_below : (top : TopologyValue) (node d : ℕ) → list_all (λ x. nat_lt x top.dcs) top.homes ≡ true → home_of top node ≡ Some d → d < top.dcs
home_below top node d all e = go (session_of top node) e
  where
    go : (o : Option ℕ) → option_and_then (λ i. slice_get top.homes i) o ≡ Some d → d < top.dcs
    go None h = absurd (cc)
    go (Some i) h = below_at top.dcs top.homes i d all h
