-- The elements of lists that are cut, mapped and put together.
use Rattle.std.proofs.Common.{◌≡◌, ◌∙◌, ℕ, zero, suc, ◌<◌, ap, sym, subst, refl, inl, inr, Bool, true, false, cond, List, [], ◌∷◌, ◌++◌, map, length, get_or, Some, arith, zero-add}
use Rattle.std.specs.Prelude.{◌||◌, ◌⊎◌}
use Rattle.std.specs.List.{All, Contains, filter, find, flat_map, list_any, range_with_len}
use Rattle.std.proofs.lemmas.List.Elements.{Contains-get_or, Contains-append_left, Contains-append_right, Contains-append_cases}
use Rattle.std.proofs.lemmas.List.FromFn.{length-range_with_len, get_or-range_with_len}

pub contains_head : {X : Type 0} (x : X) (xs : List X) → Contains (x ∷ xs) x
contains_head x xs = (0, omega arith, refl)

pub contains_tail : {X : Type 0} (x : X) (xs : List X) (y : X) → Contains xs y → Contains (x ∷ xs) y
contains_tail x xs y h = let lt = h.1 in (suc h.0, omega arith, h.2)

pub contains_cases : {X : Type 0} (x : X) (xs : List X) (y : X) → Contains (x ∷ xs) y → (x ≡ y) ⊎ Contains xs y
contains_cases x xs y h = go h.0 h.1 h.2
  where
    go : (k : ℕ) → k < length (x ∷ xs) → get_or (x ∷ xs) k y ≡ y → (x ≡ y) ⊎ Contains xs y
    go zero lt e = inl e
    go (suc k) lt e = inr (k, omega arith, e)

pub none_in : {X : Type 0} (y : X) → Contains [] y → ⊥
none_in y h = let lt = h.1 in omega arith

-- what holds of each element
pub all_members : {X : Type 0} (P : X → Type 0) (xs : List X) → ((x : X) → Contains xs x → P x) → All P xs
all_members P xs h = λ k d lt. h (get_or xs k d) (Contains-get_or xs k d lt)

pub map_agree : {X Y : Type 0} (f g : X → Y) (xs : List X) → ((x : X) → Contains xs x → f x ≡ g x) → map f xs ≡ map g xs
map_agree f g [] h = refl
map_agree f g (x ∷ xs) h =
    ap (λ y. y ∷ map f xs) (h x (contains_head x xs)) ∙ ap (λ ys. g x ∷ ys) (map_agree f g xs (λ y e. h y (contains_tail x xs y e)))

-- ---- mapped
pub contains_map : {X Y : Type 0} (f : X → Y) (xs : List X) (x : X) → Contains xs x → Contains (map f xs) (f x)
contains_map f [] x h = absurd (none_in x h)
contains_map f (y ∷ xs) x h = go (contains_cases y xs x h) (λ e. contains_map f xs x e)
  where
    go : (y ≡ x) ⊎ Contains xs x → (Contains xs x → Contains (map f xs) (f x)) → Contains (f y ∷ map f xs) (f x)
    go (inl e) rest = subst (λ z. Contains (f y ∷ map f xs) (f z)) e (contains_head (f y) (map f xs))
    go (inr e) rest = contains_tail (f y) (map f xs) (f x) (rest e)

pub map_contains : {X Y : Type 0} (f : X → Y) (xs : List X) (y : Y) → Contains (map f xs) y → (x : X) × Contains xs x × (f x ≡ y)
map_contains f [] y h = absurd (none_in y h)
map_contains f (x ∷ xs) y h = go (contains_cases (f x) (map f xs) y h) (λ e. map_contains f xs y e)
  where
    go : (f x ≡ y) ⊎ Contains (map f xs) y → (Contains (map f xs) y → (z : _) × Contains xs z × (f z ≡ y)) → (z : _) × Contains (x ∷ xs) z × (f z ≡ y)
    go (inl e) rest = (x, contains_head x xs, e)
    go (inr e) rest = let m = rest e in (m.0, contains_tail x xs m.0 m.1, m.2)

-- ---- cut by a test
pub contains_filter : {X : Type 0} (p : X → Bool) (xs : List X) (x : X) → Contains xs x → p x ≡ true → Contains (filter p xs) x
contains_filter p [] x h passes = absurd (none_in x h)
contains_filter p (y ∷ xs) x h passes = go (p y) refl (contains_cases y xs x h) (λ e. contains_filter p xs x e passes)
  where
    go : (b : Bool) → p y ≡ b → (y ≡ x) ⊎ Contains xs x → (Contains xs x → Contains (filter p xs) x) → Contains (cond b (y ∷ filter p xs) (filter p xs)) x
    go true e (inl s) rest = subst (λ z. Contains (y ∷ filter p xs) z) s (contains_head y (filter p xs))
    go true e (inr s) rest = contains_tail y (filter p xs) x (rest s)
    go false e (inl s) rest = let same = ap p s in absurd (cc)
    go false e (inr s) rest = rest s

pub filter_contains : {X : Type 0} (p : X → Bool) (xs : List X) (x : X) → Contains (filter p xs) x → Contains xs x × (p x ≡ true)
filter_contains p [] x h = absurd (none_in x h)
filter_contains p (y ∷ xs) x h = go (p y) refl (λ e. filter_contains p xs x e) h
  where
    go : (b : Bool) → p y ≡ b → (Contains (filter p xs) x → Contains xs x × (p x ≡ true)) → Contains (cond b (y ∷ filter p xs) (filter p xs)) x → Contains (y ∷ xs) x × (p x ≡ true)
    go false e rest g = let m = rest g in (contains_tail y xs x m.0, m.1)
    go true e rest g = at (contains_cases y (filter p xs) x g)
      where
        at : (y ≡ x) ⊎ Contains (filter p xs) x → Contains (y ∷ xs) x × (p x ≡ true)
        at (inl s) = (subst (λ z. Contains (y ∷ xs) z) s (contains_head y xs), ap p (sym s) ∙ e)
        at (inr s) = let m = rest s in (contains_tail y xs x m.0, m.1)

pub contains_any : {X : Type 0} (p : X → Bool) (xs : List X) (x : X) → Contains xs x → p x ≡ true → list_any p xs ≡ true
contains_any p [] x h passes = absurd (none_in x h)
contains_any p (y ∷ xs) x h passes = go (p y) refl (contains_cases y xs x h) (λ e. contains_any p xs x e passes)
  where
    go : (b : Bool) → p y ≡ b → (y ≡ x) ⊎ Contains xs x → (Contains xs x → list_any p xs ≡ true) → (b || list_any p xs) ≡ true
    go true e s rest = refl
    go false e (inl s) rest = let same = ap p s in absurd (cc)
    go false e (inr s) rest = rest s

-- the first element that passes a test that some element passes
pub first_found : {X : Type 0} (p : X → Bool) (xs : List X) → list_any p xs ≡ true → (x : X) × (find p xs ≡ Some x) × Contains xs x × (p x ≡ true)
first_found p [] h = absurd (cc)
first_found p (y ∷ xs) h = go (p y) refl (λ e. first_found p xs e) h
  where
    go : (b : Bool) → p y ≡ b → (list_any p xs ≡ true → (x : _) × (find p xs ≡ Some x) × Contains xs x × (p x ≡ true)) → (b || list_any p xs) ≡ true → (x : _) × (cond b (Some y) (find p xs) ≡ Some x) × Contains (y ∷ xs) x × (p x ≡ true)
    go true e rest g = (y, refl, contains_head y xs, e)
    go false e rest g = let m = rest g in (m.0, m.1, contains_tail y xs m.0 m.2, m.3)

-- ---- put together
pub contains_flat : {X Y : Type 0} (f : X → List Y) (xs : List X) (x : X) (y : Y) → Contains xs x → Contains (f x) y → Contains (flat_map f xs) y
contains_flat f [] x y h g = absurd (none_in x h)
contains_flat f (z ∷ xs) x y h g = go (contains_cases z xs x h) (λ e. contains_flat f xs x y e g)
  where
    go : (z ≡ x) ⊎ Contains xs x → (Contains xs x → Contains (flat_map f xs) y) → Contains (f z ++ flat_map f xs) y
    go (inl e) rest = Contains-append_left (f z) (flat_map f xs) y (subst (λ w. Contains (f w) y) (sym e) g)
    go (inr e) rest = Contains-append_right (f z) (flat_map f xs) y (rest e)

pub flat_contains : {X Y : Type 0} (f : X → List Y) (xs : List X) (y : Y) → Contains (flat_map f xs) y → (x : X) × Contains xs x × Contains (f x) y
flat_contains f [] y h = absurd (none_in y h)
flat_contains f (x ∷ xs) y h = go (Contains-append_cases (f x) (flat_map f xs) y h) (λ e. flat_contains f xs y e)
  where
    go : Contains (f x) y ⊎ Contains (flat_map f xs) y → (Contains (flat_map f xs) y → (z : _) × Contains xs z × Contains (f z) y) → (z : _) × Contains (x ∷ xs) z × Contains (f z) y
    go (inl e) rest = (x, contains_head x xs, e)
    go (inr e) rest = let m = rest e in (m.0, contains_tail x xs m.0 m.1, m.2)

-- the numbers below a bound
pub contains_below : (n s : ℕ) → s < n → Contains (range_with_len 0 n) s
contains_below n s lt = let e = length-range_with_len 0 n in (s, omega arith, get_or-range_with_len 0 n s s lt ∙ zero-add s)
