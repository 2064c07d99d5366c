-- Choosing before making: what is made of the first of a walk is the first of a walk of what is made.
use Rattle.std.proofs.Common.{◌≡◌, ◌∙◌, ap, sym, refl, ℕ, zero, suc, Bool, true, false, List, [], ◌∷◌, ◌++◌, filter, filter_map, take, reverse, Option, Some, None, cond, append-nil}
use Rattle.std.specs.Prelude.{is_some}
use Rattle.std.specs.List.{cons_option}
use Rattle.std.proofs.lemmas.List.Elements.{filter_map-append}
use Rattle.std.proofs.lemmas.Grind.{reverse_onto}
use Rattle.slice.specs.declared.predicate.Predicate.{Predicate}
use Rattle.slice.specs.declared.predicate.Predicate.TheVariants.{Names, Range}
use Rattle.slice.specs.Slice.{first_of_walk, walked}
use Rattle.slice.proofs.Selected.{filter_reverse}

last_made : {Y : Type 0} (o : Option Y) (ys : List Y) → reverse ys ++ cons_option o [] ≡ reverse (cons_option o ys)
last_made (Some y) ys = sym (reverse_onto ys y [])
last_made None ys = append-nil (reverse ys)

made_reverse : {X Y : Type 0} (f : X → Option Y) (xs : List X) → filter_map f (reverse xs) ≡ reverse (filter_map f xs)
made_reverse f [] = refl
made_reverse f (x ∷ xs) =
    ap (filter_map f) (reverse_onto xs x []) ∙ (filter_map-append f (reverse xs) (x ∷ [])
    ∙ (ap (λ ys. ys ++ filter_map f (x ∷ [])) (made_reverse f xs) ∙ last_made (f x) (filter_map f xs)))

-- one that is chosen exactly where something is made of it, before the rest
made_first : {X Y : Type 0} (f : X → Option Y) (x : X) (xs : List X) (all : List Y) (o : Option Y) → f x ≡ o → filter_map f xs ≡ all
    → filter_map f (cond (is_some o) (x ∷ xs) xs) ≡ cons_option o all
made_first f x xs all (Some y) e h = ap (λ p. cons_option p (filter_map f xs)) e ∙ ap (λ ys. y ∷ ys) h
made_first f x xs all None e h = h

made_chosen : {X Y : Type 0} (f : X → Option Y) (xs : List X) → filter_map f (filter (λ x. is_some (f x)) xs) ≡ filter_map f xs
made_chosen f [] = refl
made_chosen f (x ∷ xs) = made_first f x (filter (λ z. is_some (f z)) xs) (filter_map f xs) (f x) refl (made_chosen f xs)

take_first : {X Y : Type 0} (f : X → Option Y) (n : ℕ) (x : X) (xs : List X) (all : List Y) (o : Option Y) → f x ≡ o
    → filter_map f (take n xs) ≡ take n all → filter_map f (take (suc n) xs) ≡ take (suc n) all
    → filter_map f (take (suc n) (cond (is_some o) (x ∷ xs) xs)) ≡ take (suc n) (cons_option o all)
take_first f n x xs all (Some y) e h more = ap (λ p. cons_option p (filter_map f (take n xs))) e ∙ ap (λ ys. y ∷ ys) h
take_first f n x xs all None e h more = more

made_take : {X Y : Type 0} (f : X → Option Y) (n : ℕ) (xs : List X) → filter_map f (take n (filter (λ x. is_some (f x)) xs)) ≡ take n (filter_map f xs)
made_take f zero xs = refl
made_take f (suc n) [] = refl
made_take f (suc n) (x ∷ xs) = take_first f n x (filter (λ z. is_some (f z)) xs) (filter_map f xs) (f x) refl (made_take f n xs) (made_take f (suc n) xs)

made_walked : {X Y : Type 0} (f : X → Option Y) (n : ℕ) (reversed : Bool) (xs : List X)
    → filter_map f (take n (walked reversed (filter (λ x. is_some (f x)) xs))) ≡ take n (walked reversed (filter_map f xs))
made_walked f n true xs =
    ap (λ zs. filter_map f (take n zs)) (sym (filter_reverse (λ x. is_some (f x)) xs)) ∙ (made_take f n (reverse xs) ∙ ap (take n) (made_reverse f xs))
made_walked f n false xs = made_take f n xs

-- those of which something is made are chosen, then the first of the walk, and only of these it is made
pub chosen_first : {X Y : Type 0} (f : X → Option Y) (p : Predicate) (xs : List X)
    → filter_map f (first_of_walk p (filter (λ x. is_some (f x)) xs)) ≡ first_of_walk p (filter_map f xs)
chosen_first f (Names names) xs = made_chosen f xs
chosen_first f (Range start finish reversed count) xs = made_walked f count reversed xs
