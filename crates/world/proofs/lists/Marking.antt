-- Marks in a list.
use Rattle.std.proofs.Common.{◌≡◌, ℕ, zero, suc, Bool, true, false, List, [], ◌∷◌, ◌++◌, ◌==◌, ◌||◌, ◌<◌, length, refl, sym, ap, ◌∙◌, arith, eqb-true, eq-eqb}
use Rattle.std.specs.Prelude.{slice_set}
use Rattle.std.proofs.lemmas.Bool.{false≢true}
use Rattle.world.specs.Delivered.{is_marked}

-- an unmarked place at the end changes nothing
pub marked_push : (marks : List Bool) (j : ℕ) → is_marked (marks ++ false ∷ []) j ≡ is_marked marks j
marked_push [] zero = refl
marked_push [] (suc j) = refl
marked_push (m ∷ marks) zero = refl
marked_push (m ∷ marks) (suc j) = marked_push marks j

marked_here : (marks : List Bool) (k : ℕ) → k < length marks → is_marked (slice_set marks k true) k ≡ true
marked_here [] k lt = absurd (omega arith)
marked_here (m ∷ marks) zero lt = refl
marked_here (m ∷ marks) (suc k) lt = marked_here marks k (omega arith)

marked_elsewhere : (marks : List Bool) (k j : ℕ) → (j ≡ k → ⊥) → is_marked (slice_set marks k true) j ≡ is_marked marks j
marked_elsewhere [] zero j other = refl
marked_elsewhere [] (suc k) j other = refl
marked_elsewhere (m ∷ marks) zero zero other = absurd (other refl)
marked_elsewhere (m ∷ marks) zero (suc j) other = refl
marked_elsewhere (m ∷ marks) (suc k) zero other = refl
marked_elsewhere (m ∷ marks) (suc k) (suc j) other = marked_elsewhere marks k j (λ same. other (ap suc same))

-- a place within the list is marked
pub marked_set : (marks : List Bool) (k j : ℕ) → k < length marks → is_marked (slice_set marks k true) j ≡ (j == k || is_marked marks j)
marked_set marks k j lt = by (j == k) refl
  where
    by : (b : Bool) → (j == k) ≡ b → is_marked (slice_set marks k true) j ≡ (b || is_marked marks j)
    by true e = ap (is_marked (slice_set marks k true)) (eqb-true j k e) ∙ marked_here marks k lt
    by false e = marked_elsewhere marks k j (λ same. false≢true (sym e ∙ eq-eqb j k same))

-- what was marked stays so when one more place is
pub still_marked : (marks : List Bool) (k first : ℕ) → k < length marks → ((j : ℕ) → j < first → is_marked marks j ≡ true) → (j : ℕ) → j < first
    → is_marked (slice_set marks k true) j ≡ true
still_marked marks k first lt before j below = marked_set marks k j lt ∙ with_it (j == k) (is_marked marks j) (before j below)
  where
    with_it : (b c : Bool) → c ≡ true → (b || c) ≡ true
    with_it true c e = refl
    with_it false c e = e
