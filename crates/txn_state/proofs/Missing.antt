-- What is left of a list once all that passes a test is taken out.
use Rattle.std.proofs.Common.{◌≡◌, ℕ, ap, refl, Bool, true, false, not, cond, ◌==◌, List, [], ◌∷◌, ◌++◌, take, drop, filter, length, arith}
use Rattle.std.specs.Prelude.{◌&&◌, ◌||◌}
use Rattle.std.specs.List.{list_any, list_all}
use Rattle.std.proofs.lemmas.Bool.Decides.{nat_tests}

-- nothing is left exactly where all pass
pub none_left : {X : Type 0} (p : X → Bool) (xs : List X) → (length (filter (λ x. not (p x)) xs) == 0) ≡ list_all p xs
none_left p [] = refl
none_left {X} p (x ∷ xs) = go (p x) (none_left p xs)
  where
    rest : List X
    rest = filter (λ x. not (p x)) xs

    go : (b : Bool) → (length rest == 0) ≡ list_all p xs → (length (cond (not b) (x ∷ rest) rest) == 0) ≡ (b && list_all p xs)
    go true more = more
    go false more = grind (arith, nat_tests)

-- all is left where none passes
pub all_left : {X : Type 0} (p : X → Bool) (xs : List X) → list_any p xs ≡ false → filter (λ x. not (p x)) xs ≡ xs
all_left p [] none = refl
all_left {X} p (x ∷ xs) none = go (p x) none (all_left p xs)
  where
    rest : List X
    rest = filter (λ x. not (p x)) xs

    go : (b : Bool) → (b || list_any p xs) ≡ false → (list_any p xs ≡ false → rest ≡ xs) → cond (not b) (x ∷ rest) rest ≡ x ∷ xs
    go true e more = absurd (cc)
    go false e more = ap (λ ys. x ∷ ys) (more e)

-- ## One after the other

-- those before a place, and those from there on that pass
abbrev pub passed : {X : Type 0} → (X → Bool) → ℕ → List X → List X
passed p i xs = take i xs ++ filter p (drop i xs)
