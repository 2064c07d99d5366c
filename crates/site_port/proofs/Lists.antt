-- Lists, and one of their items.
use Rattle.std.proofs.Common.{◌≡◌, ◌∙◌, ℕ, zero, suc, ◌+◌, ◌<◌, List, [], ◌∷◌, ◌++◌, length, length-append, slice_get, take, drop, Some, inl, inr, refl, sym, ap, subst, arith}
use Rattle.std.specs.Prelude.{All, get_or, slice_set}
use Rattle.std.proofs.Math.ListN.{get_or-append}
use Rattle.std.proofs.Math.Seq.{drop-cons}
use Rattle.std.proofs.lemmas.List.{length-take-le, get_or-take, take-append-drop}
use Rattle.std.proofs.lemmas.Option.{slice_get_within, slice_get-get_or, get_or_from_slice_get}
use Rattle.site.proofs.Lists.{same_or_not}

same_at : {X : Type 0} (xs : List X) (p : ℕ) (x d : X) → p < length xs → get_or xs p x ≡ get_or xs p d
same_at xs p x d lt =
    let a = slice_get-get_or xs p x lt in
    let b = slice_get-get_or xs p d lt in
    cc

-- what holds of the first ones and of the next one holds of one more
pub all_more : {X : Type 0} (P : X → Type 0) (xs : List X) (p : ℕ) (x : X) → p < length xs → x ≡ get_or xs p x → P x → All P (take p xs) → All P (take (p + 1) xs)
all_more P xs p x lt is px all = λ k d kl.
    let short : k < p + 1 = subst (λ n. k < n) (length-take-le (p + 1) xs (omega arith)) kl in
    let in_xs = get_or-take (p + 1) xs k d short in
    elim (same_or_not k p) [
      | inl q ↦ subst P (is ∙ (same_at xs p x d lt ∙ (ap (λ n. get_or xs n d) (sym q) ∙ sym in_xs))) px
      | inr ne ↦
          let less : k < p = omega arith in
          subst P (get_or-take p xs k d less ∙ sym in_xs) (all k d (subst (λ n. k < n) (sym (length-take-le p xs (omega arith))) less))
    ]

-- a list around one of its items
pub split_at : {X : Type 0} (xs : List X) (p : ℕ) (x : X) → p < length xs → x ≡ get_or xs p x → xs ≡ take p xs ++ x ∷ drop (suc p) xs
split_at xs p x lt is = sym (take-append-drop p xs) ∙ ap (λ l. take p xs ++ l) (drop-cons xs p x lt ∙ ap (λ y. y ∷ drop (suc p) xs) (sym is))

pub get_mid : {X : Type 0} (xs : List X) (y : X) (ys : List X) → slice_get (xs ++ y ∷ ys) (length xs) ≡ Some y
get_mid [] y ys = refl
get_mid (x ∷ xs) y ys = get_mid xs y ys

pub all_at : {X : Type 0} (P : X → Type 0) (xs : List X) (n : ℕ) (y : X) → slice_get xs n ≡ Some y → All P xs → P y
all_at P xs n y at all = subst P (get_or_from_slice_get xs n y y at) (all n y (slice_get_within xs n y at))

pub all_first : {X : Type 0} (P : X → Type 0) (xs ys : List X) → All P (xs ++ ys) → All P xs
all_first P xs ys all = λ k d lt. subst P (get_or-append xs ys d k lt) (all k d (grind (arith, length-append, lt)))

pub all_rest : {X : Type 0} (P : X → Type 0) (xs ys : List X) → All P (xs ++ ys) → All P ys
all_rest P [] ys all = all
all_rest P (x ∷ xs) ys all = all_rest P xs ys (λ k d lt. all (suc k) d (omega arith))

pub length_set : {X : Type 0} (xs : List X) (i : ℕ) (y : X) → length (slice_set xs i y) ≡ length xs
length_set [] i y = refl
length_set (x ∷ xs) zero y = refl
length_set (x ∷ xs) (suc i) y = ap suc (length_set xs i y)

-- what was taken from a place is put back
pub set_back : {X : Type 0} (xs : List X) (i : ℕ) (y z : X) → slice_get xs i ≡ Some z → slice_set (slice_set xs i y) i z ≡ xs
set_back [] i y z at = refl
set_back (x ∷ xs) zero y z at = (let same : x ≡ z = cc in ap (λ w. w ∷ xs) (sym same))
set_back (x ∷ xs) (suc i) y z at = ap (λ l. x ∷ l) (set_back xs i y z at)
