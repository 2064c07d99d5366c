-- Places of lists.
use Rattle.std.proofs.Common.{◌≡◌, ℕ, zero, suc, ◌+◌, ◌<◌, Bool, true, false, ◌||◌, List, [], ◌∷◌, length, get_or, set, Some, refl, ap, sym, subst, ◌∙◌, inl, inr, arith}
use Rattle.std.specs.Prelude.{◌≢◌, All}
use Rattle.std.specs.List.{slice_get}
use Rattle.std.proofs.lemmas.Bool.Decides.{eqb_tells}
use Rattle.std.proofs.lemmas.Option.{slice_get-get_or}

pub set_at : {X : Type 0} (xs : List X) (k : ℕ) (x : X) → k < length xs → slice_get (set xs k x) k ≡ Some x
set_at [] k x lt = absurd (omega arith)
set_at (y ∷ xs) zero x lt = refl
set_at (y ∷ xs) (suc k) x lt = set_at xs k x (omega arith)

pub set_here : {X : Type 0} (xs : List X) (k : ℕ) (x l : X) → k < length xs → slice_get (set xs k x) k ≡ Some l → l ≡ x
set_here [] k x l lt at = absurd (omega arith)
set_here (y ∷ xs) zero x l lt at = cc
set_here (y ∷ xs) (suc k) x l lt at = set_here xs k x l (omega arith) at

pub set_away : {X : Type 0} (xs : List X) (k j : ℕ) (x : X) → j ≢ k → slice_get (set xs k x) j ≡ slice_get xs j
set_away [] k j x ne = refl
set_away (y ∷ xs) zero zero x ne = absurd (ne refl)
set_away (y ∷ xs) zero (suc j) x ne = refl
set_away (y ∷ xs) (suc k) zero x ne = refl
set_away (y ∷ xs) (suc k) (suc j) x ne = set_away xs k j x (λ e. ne (ap suc e))

pub here : {X : Type 0} (xs : List X) (k : ℕ) (d : X) → k < length xs → d ≡ get_or xs k d → slice_get xs k ≡ Some d
here xs k d lt is = slice_get-get_or xs k d lt ∙ ap Some (sym is)

pub either_false : (a b : Bool) → (a || b) ≡ false → (a ≡ false) × (b ≡ false)
either_false false b e = (refl, e)
either_false true b e = absurd cc

pub true_or : (a b : Bool) → b ≡ true → (a || b) ≡ true
true_or false b e = e
true_or true b e = refl

-- what holds at each place holds of all
pub all_of : {X : Type 0} (P : X → Type 0) (xs : List X) → ((k : ℕ) (x : X) → k < length xs → slice_get xs k ≡ Some x → P x) → All P xs
all_of P xs each k d lt = each k (get_or xs k d) lt (slice_get-get_or xs k d lt)

-- what holds before a place, and of what is put there
pub each_more : {X : Type 0} (P : X → Type 0) (xs : List X) (k : ℕ) (x : X) → k < length xs → ((j : ℕ) (y : X) → j < k → slice_get xs j ≡ Some y → P y) → P x
    → (j : ℕ) (y : X) → j < k + 1 → slice_get (set xs k x) j ≡ Some y → P y
each_more P xs k x lt before of j y below at = elim (eqb_tells j k) [
  | inl same ↦
      let y_is : y ≡ x = set_here xs k x y lt (subst (λ (i : ℕ). slice_get (set xs k x) i ≡ Some y) same.1 at) in
      subst (λ (z : _). P z) (sym y_is) of
  | inr away ↦ before j y (grind (arith, away.1, below)) (sym (set_away xs k j x away.1) ∙ at)
]
