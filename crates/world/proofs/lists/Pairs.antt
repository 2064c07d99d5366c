-- What holds of each two places of a list: of lists put together, of what a function gives, and in any order.
use Rattle.std.proofs.Common.{◌≡◌, suc, List, [], ◌∷◌, ◌++◌, Option, Some, None, inl, inr, refl, subst, arith}
use Rattle.std.specs.Prelude.{AllPairs, filter_map, Contains}
use Rattle.std.specs.List.{cons_option}
use Rattle.std.proofs.lemmas.List.Kept.{AllPairs-cons}
use Rattle.planner.proofs.Members.{all_members}
use Rattle.store.proofs.lists.Lists.{given_only}
use Rattle.world.proofs.lists.Members.{contains_first, contains_rest, Contains-append_cases}

-- of the first element and each later one
pub first_pairs : {X : Type 0} (R : X → X → Type 0) (x : X) (xs : List X) → AllPairs R (x ∷ xs) → (y : X) → Contains xs y → R x y
first_pairs R x xs h y m = let lt = m.1 in subst (R x) m.2 (h 0 (suc m.0) y (omega arith) (omega arith))

-- of the later ones
pub later_pairs : {X : Type 0} (R : X → X → Type 0) (x : X) (xs : List X) → AllPairs R (x ∷ xs) → AllPairs R xs
later_pairs R x xs h = λ i j d lt below. h (suc i) (suc j) d (omega arith) (omega arith)

pub no_pairs : {X : Type 0} (R : X → X → Type 0) → AllPairs R []
no_pairs R = λ i j d lt below. absurd (omega arith)

pub more_pairs : {X : Type 0} (R : X → X → Type 0) (x : X) (xs : List X) → ((y : X) → Contains xs y → R x y) → AllPairs R xs → AllPairs R (x ∷ xs)
more_pairs R x xs h pairs = AllPairs-cons R x xs (all_members (R x) xs (λ y c. h y c)) pairs

pub append_pairs : {X : Type 0} (R : X → X → Type 0) (xs ys : List X) → AllPairs R xs → AllPairs R ys → ((x y : X) → Contains xs x → Contains ys y → R x y)
    → AllPairs R (xs ++ ys)
append_pairs R [] ys first second cross = second
append_pairs R (x ∷ xs) ys first second cross =
    more_pairs R x (xs ++ ys)
    (λ y m. elim (Contains-append_cases xs ys y m) [ inl a ↦ first_pairs R x xs first y a | inr b ↦ cross x y (contains_first x xs) b ])
    (append_pairs R xs ys (later_pairs R x xs first) second (λ a b m n. cross a b (contains_rest x a xs m) n))

given_more : {X Y : Type 0} (R : X → X → Type 0) (S : Y → Y → Type 0) (f : X → Option Y) (x : X) (xs : List X) (o : Option Y) → f x ≡ o
    → ((a b : X) (y z : Y) → R a b → f a ≡ Some y → f b ≡ Some z → S y z)
    → AllPairs R (x ∷ xs) → AllPairs S (filter_map f xs) → AllPairs S (cons_option o (filter_map f xs))
given_more R S f x xs None e step pairs rest = rest
given_more R S f x xs (Some y) e step pairs rest =
    more_pairs S y (filter_map f xs)
    (λ z m. let g = given_only f xs z m in step x g.0 y z (first_pairs R x xs pairs g.0 g.1) e g.2)
    rest

pub given_pairs : {X Y : Type 0} (R : X → X → Type 0) (S : Y → Y → Type 0) (f : X → Option Y) (xs : List X)
    → ((a b : X) (y z : Y) → R a b → f a ≡ Some y → f b ≡ Some z → S y z)
    → AllPairs R xs → AllPairs S (filter_map f xs)
given_pairs R S f [] step pairs = no_pairs S
given_pairs R S f (x ∷ xs) step pairs = given_more R S f x xs (f x) refl step pairs (given_pairs R S f xs step (later_pairs R x xs pairs))

-- what holds of each two of the list's elements, in places one after the other
pub among_pairs : {X : Type 0} (R S : X → X → Type 0) (xs : List X) → ((a b : X) → Contains xs a → Contains xs b → R a b → S a b) → AllPairs R xs
    → AllPairs S xs
among_pairs R S [] step pairs = no_pairs S
among_pairs R S (x ∷ xs) step pairs =
    more_pairs S x xs (λ y m. step x y (contains_first x xs) (contains_rest x y xs m) (first_pairs R x xs pairs y m))
    (among_pairs R S xs (λ a b m n r. step a b (contains_rest x a xs m) (contains_rest x b xs n) r) (later_pairs R x xs pairs))
