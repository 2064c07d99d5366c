-- What a list contains once it is filtered, or seen by a function.
use Rattle.std.proofs.Common.{◌≡◌, ◌∙◌, sym, ap, subst, refl, Bool, true, false, not, ◌||◌, inl, inr, cond, List, [], ◌∷◌, map, Option, Some, None}
use Rattle.std.specs.Prelude.{filter, filter_map, Contains, ◌⊎◌}
use Rattle.std.specs.List.{cons_option, list_any, AllByRecursion}
pub use Rattle.slice.proofs.Lists.{none_in_empty, contains_first, contains_rest, first_or_rest}

-- what passes the test stays
pub kept : {X : Type 0} (q : X → Bool) (xs : List X) (x : X) → Contains xs x → q x ≡ true → Contains (filter q xs) x
kept q [] x has is = absurd (none_in_empty x has)
kept {X} q (z ∷ xs) x has is = elim (first_or_rest z x xs has) [
  | inl here ↦ (let p : q z ≡ true = ap q here ∙ is in rw p (subst (Contains (z ∷ filter q xs)) here (contains_first z (filter q xs))))
  | inr there ↦ added (q z) (kept q xs x there is)
]
  where
    added : (b : Bool) → Contains (filter q xs) x → Contains (cond b (z ∷ filter q xs) (filter q xs)) x
    added true h = contains_rest z x (filter q xs) h
    added false h = h

-- and nothing else does
pub kept_only : {X : Type 0} (q : X → Bool) (xs : List X) (x : X) → Contains (filter q xs) x → Contains xs x × (q x ≡ true)
kept_only q [] x has = absurd (none_in_empty x has)
kept_only {X} q (z ∷ xs) x has = go (q z) refl has (kept_only q xs x)
  where
    later : Contains xs x × (q x ≡ true) → Contains (z ∷ xs) x × (q x ≡ true)
    later h = (contains_rest z x xs h.0, h.1)

    go : (b : Bool) → q z ≡ b → Contains (cond b (z ∷ filter q xs) (filter q xs)) x → (Contains (filter q xs) x → Contains xs x × (q x ≡ true)) → Contains (z ∷ xs) x × (q x ≡ true)
    go true is h more = elim (first_or_rest z x (filter q xs) h) [
      | inl here ↦ (subst (Contains (z ∷ xs)) here (contains_first z xs), ap q (sym here) ∙ is)
      | inr there ↦ later (more there)
    ]
    go false is h more = later (more h)

-- what a function gives of an element is given
pub given : {X Y : Type 0} (f : X → Option Y) (xs : List X) (x : X) (y : Y) → Contains xs x → f x ≡ Some y → Contains (filter_map f xs) y
given f [] x y has is = absurd (none_in_empty x has)
given {X} {Y} f (z ∷ xs) x y has is = elim (first_or_rest z x xs has) [
  | inl here ↦ (let p : f z ≡ Some y = ap f here ∙ is in rw p (contains_first y (filter_map f xs)))
  | inr there ↦ added (f z) (given f xs x y there is)
]
  where
    added : (o : Option Y) → Contains (filter_map f xs) y → Contains (cons_option o (filter_map f xs)) y
    added None h = h
    added (Some w) h = contains_rest w y (filter_map f xs) h

-- and nothing else is
pub given_only : {X Y : Type 0} (f : X → Option Y) (xs : List X) (y : Y) → Contains (filter_map f xs) y → (x : X) × Contains xs x × (f x ≡ Some y)
given_only f [] y has = absurd (none_in_empty y has)
given_only {X} {Y} f (z ∷ xs) y has = go (f z) refl has (given_only f xs y)
  where
    later : (x : X) × Contains xs x × (f x ≡ Some y) → (x : X) × Contains (z ∷ xs) x × (f x ≡ Some y)
    later (x, has', is) = (x, contains_rest z x xs has', is)

    go : (o : Option Y) → f z ≡ o → Contains (cons_option o (filter_map f xs)) y → (Contains (filter_map f xs) y → (x : X) × Contains xs x × (f x ≡ Some y))
        → (x : X) × Contains (z ∷ xs) x × (f x ≡ Some y)
    go None is h more = later (more h)
    go (Some w) is h more = elim (first_or_rest w y (filter_map f xs) h) [
      | inl here ↦ (z, contains_first z xs, is ∙ ap Some here)
      | inr there ↦ later (more there)
    ]

-- what is given of what a function makes
pub given_seen : {X Y Z : Type 0} (f : Y → Option Z) (g : X → Y) (xs : List X) → filter_map f (map g xs) ≡ filter_map (λ x. f (g x)) xs
given_seen f g [] = refl
given_seen f g (x ∷ xs) = ap (cons_option (f (g x))) (given_seen f g xs)

pub map_of_map : {X Y Z : Type 0} (f : Y → Z) (g : X → Y) (xs : List X) → map f (map g xs) ≡ map (λ x. f (g x)) xs
map_of_map f g [] = refl
map_of_map f g (x ∷ xs) = ap (λ zs. f (g x) ∷ zs) (map_of_map f g xs)

-- ## Tests

pub no_truth : {P : Type 0} (b : Bool) → b ≡ true → b ≡ false → P
no_truth b t f = absurd (cc)

pub or_left : (a b : Bool) → a ≡ true → (a || b) ≡ true
or_left true b e = refl
or_left false b e = absurd (cc)

pub or_right : (a b : Bool) → b ≡ true → (a || b) ≡ true
or_right true b e = refl
or_right false b e = e

pub any_has : {X : Type 0} (q : X → Bool) (xs : List X) (x : X) → Contains xs x → q x ≡ true → list_any q xs ≡ true
any_has q [] x has is = absurd (none_in_empty x has)
any_has q (y ∷ ys) x has is = elim (first_or_rest y x ys has) [
  | inl here ↦ or_left (q y) (list_any q ys) (ap q here ∙ is)
  | inr there ↦ or_right (q y) (list_any q ys) (any_has q ys x there is)
]

pub each_from : {X : Type 0} (P : X → Type 0) (xs : List X) → ((x : X) → Contains xs x → P x) → AllByRecursion P xs
each_from P [] h = tt
each_from P (x ∷ xs) h = (h x (contains_first x xs), each_from P xs (λ y has. h y (contains_rest x y xs has)))

either : (a b : Bool) → (a || b) ≡ true → (a ≡ true) ⊎ (b ≡ true)
either true b e = inl refl
either false b e = inr e

pub any_found : {X : Type 0} (q : X → Bool) (xs : List X) → list_any q xs ≡ true → (x : X) × Contains xs x × (q x ≡ true)
any_found q [] e = absurd (cc)
any_found {X} q (x ∷ xs) e = elim (either (q x) (list_any q xs) e) [
  | inl here ↦ (x, contains_first x xs, here)
  | inr there ↦ (let m = any_found q xs there in (m.0, contains_rest x m.0 xs m.1, m.2))
]

pub same_if : (a b : Bool) → (a ≡ true → b ≡ true) → (b ≡ true → a ≡ true) → a ≡ b
same_if true b f g = sym (f refl)
same_if false true f g = g refl
same_if false false f g = refl

pub not_true : (b : Bool) → not b ≡ true → b ≡ false
not_true true h = absurd (cc)
not_true false h = refl

pub not_false : (b : Bool) → b ≡ false → not b ≡ true
not_false true h = absurd (cc)
not_false false h = refl

-- ## Images

pub mapped : {X Y : Type 0} (f : X → Y) (xs : List X) (x : X) → Contains xs x → Contains (map f xs) (f x)
mapped f [] x has = absurd (none_in_empty x has)
mapped f (z ∷ xs) x has = elim (first_or_rest z x xs has) [
  | inl here ↦ subst (λ y. Contains (f z ∷ map f xs) y) (ap f here) (contains_first (f z) (map f xs))
  | inr there ↦ contains_rest (f z) (f x) (map f xs) (mapped f xs x there)
]

pub mapped_only : {X Y : Type 0} (f : X → Y) (xs : List X) (y : Y) → Contains (map f xs) y → (x : X) × Contains xs x × (f x ≡ y)
mapped_only f [] y has = absurd (none_in_empty y has)
mapped_only f (z ∷ xs) y has = elim (first_or_rest (f z) y (map f xs) has) [
  | inl here ↦ (z, contains_first z xs, here)
  | inr there ↦ (let m = mapped_only f xs y there in (m.0, contains_rest z m.0 xs m.1, m.2))
]
