-- Lists and what is kept of them.
use Rattle.std.proofs.Common.{◌≡◌, ◌∙◌, ℕ, Bool, true, false, cond, List, [], ◌∷◌, ◌++◌, map, refl, ap, eq-eqb, eqb-true}
use Rattle.std.specs.Prelude.{◌==◌, filter}
use Rattle.std.proofs.lemmas.List.{append-nil, append_assoc}
use Rattle.std.proofs.lemmas.List.Elements.{filter-append}
use Rattle.actors.specs.Journals.{IsBeginning}

pub map_more : {Y Z : Type 0} (g : Y → Z) (xs ys : List Y) → map g (xs ++ ys) ≡ map g xs ++ map g ys
map_more g [] ys = refl
map_more g (x ∷ xs) ys = ap (λ l. g x ∷ l) (map_more g xs ys)

pub self : (n : ℕ) → (n == n) ≡ true
self n = eq-eqb n n refl

pub apart : (m n : ℕ) → (m ≡ n → ⊥) → (m == n) ≡ false
apart m n away = by (m == n) refl
  where
    by : (b : Bool) → (m == n) ≡ b → b ≡ false
    by false q = refl
    by true q = absurd (away (eqb-true m n q))

pub filter_one : {X : Type 0} (p : X → Bool) (x : X) → p x ≡ true → filter p (x ∷ []) ≡ x ∷ []
filter_one p x is = ap (λ b. cond b (x ∷ []) []) is

pub filter_none : {X : Type 0} (p : X → Bool) (x : X) → p x ≡ false → filter p (x ∷ []) ≡ []
filter_none p x is = ap (λ b. cond b (x ∷ []) []) is

-- one thing more that isn't kept
pub filter_same : {X : Type 0} (p : X → Bool) (xs : List X) (x : X) → p x ≡ false → filter p (xs ++ x ∷ []) ≡ filter p xs
filter_same p xs x is = filter-append p xs (x ∷ []) ∙ ap (λ l. filter p xs ++ l) (filter_none p x is) ∙ append-nil (filter p xs)

pub begins_more : {X : Type 0} (b s : List X) (more : List X) → IsBeginning b s → IsBeginning b (s ++ more)
begins_more b s more begun = (begun.0 ++ more, ap (λ l. l ++ more) begun.1 ∙ append_assoc b begun.0 more)
