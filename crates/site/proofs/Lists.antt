-- Lists with one place replaced, and lists with one thing more.
use Rattle.std.proofs.Common.{◌≡◌, ◌∙◌, ℕ, zero, suc, Bool, true, false, List, [], ◌∷◌, ◌++◌, slice_get, Option, Some, None, ◌⊎◌, inl, inr, refl, sym, ap, eq-eqb, eqb-true, arith}
use Rattle.std.specs.Prelude.{◌==◌, ◌&&◌, slice_set, filter_map, flat_map, option_to_list, Contains}
use Rattle.std.proofs.lemmas.List.{append-nil}
use Rattle.std.proofs.lemmas.List.Elements.{filter_map-append, Contains-append_cases}
use Rattle.std.proofs.lemmas.Grind.{flat_map-append}
use Rattle.std.specs.List.{list_all}
use Rattle.actors.specs.Journals.{IsBeginning}

get_set_same : {A : Type 0} (xs : List A) (i : ℕ) (y z : A) → slice_get xs i ≡ Some z → slice_get (slice_set xs i y) i ≡ Some y
get_set_same [] i y z at = absurd (cc)
get_set_same (x ∷ xs) zero y z at = refl
get_set_same (x ∷ xs) (suc i) y z at = get_set_same xs i y z at

get_set_other : {A : Type 0} (xs : List A) (i j : ℕ) (y : A) → (i ≡ j → ⊥) → slice_get (slice_set xs i y) j ≡ slice_get xs j
get_set_other [] i j y ne = refl
get_set_other (x ∷ xs) zero zero y ne = absurd (ne refl)
get_set_other (x ∷ xs) zero (suc j) y ne = refl
get_set_other (x ∷ xs) (suc i) zero y ne = refl
get_set_other (x ∷ xs) (suc i) (suc j) y ne = get_set_other xs i j y (λ e. ne (ap suc e))

pub get_set : {A : Type 0} (xs : List A) (i : ℕ) (y z : A) → slice_get xs i ≡ Some z → slice_get (slice_set xs i y) i ≡ Some y
get_set = get_set_same

pub get_elsewhere : {A : Type 0} (xs : List A) (i j : ℕ) (y : A) → (i ≡ j → ⊥) → slice_get (slice_set xs i y) j ≡ slice_get xs j
get_elsewhere = get_set_other

-- two numbers are the same, or they aren't
pub same_or_not : (i j : ℕ) → (i ≡ j) ⊎ (i ≡ j → ⊥)
same_or_not i j = by (i == j) refl
  where
    by : (b : Bool) → (i == j) ≡ b → (i ≡ j) ⊎ (i ≡ j → ⊥)
    by true q = inl (eqb-true i j q)
    by false q = inr (λ e. (let t = eq-eqb i j e in absurd (cc)))

-- ## One thing more

only_one : {X : Type 0} (x y : X) → Contains (x ∷ []) y → x ≡ y
only_one x y (zero, lt, is) = is
only_one x y (suc k, lt, is) = absurd (omega arith)

pub old_or_last : {X : Type 0} (xs : List X) (y x : X) → Contains (xs ++ y ∷ []) x → Contains xs x ⊎ (y ≡ x)
old_or_last xs y x has = elim (Contains-append_cases xs (y ∷ []) x has) [
  | inl old ↦ inl old
  | inr last ↦ inr (only_one y x last)
]

pub mapped_more : {X Y : Type 0} (f : X → Option Y) (xs : List X) (x : X) (o : Option Y) → f x ≡ o → filter_map f (xs ++ x ∷ []) ≡ filter_map f xs ++ option_to_list o
mapped_more f xs x o is = filter_map-append f xs (x ∷ []) ∙ ap (λ ys. filter_map f xs ++ ys) (last o is)
  where
    last : (p : Option _) → f x ≡ p → filter_map f (x ∷ []) ≡ option_to_list p
    last None e = rw e refl
    last (Some y) e = rw e refl

pub flat_more : {X Y : Type 0} (f : X → List Y) (xs : List X) (x : X) → flat_map f (xs ++ x ∷ []) ≡ flat_map f xs ++ f x
flat_more f xs x = flat_map-append f xs (x ∷ []) ∙ ap (λ ys. flat_map f xs ++ ys) (append-nil (f x))

-- a beginning of a list with one thing more is one of the list, or all of it
pub begins : {X : Type 0} (b s : List X) (h : X) (more : List X) → s ++ h ∷ [] ≡ b ++ more → IsBeginning b s ⊎ (b ≡ s ++ h ∷ [])
begins [] s h more e = inl (s, refl)
begins (x ∷ []) [] h more e = inr (let same : h ≡ x = cc in ap (λ y. y ∷ []) (sym same))
begins (x ∷ (y ∷ b)) [] h more e = absurd (cc)
begins {X} (x ∷ b) (y ∷ s) h more e =
    let same : y ≡ x = cc in
    let rest : s ++ h ∷ [] ≡ b ++ more = cc in
    elim (begins b s h more rest) [
      | inl p ↦ inl (p.0, ap (λ l. y ∷ l) p.1 ∙ ap (λ z. z ∷ (b ++ p.0)) same)
      | inr q ↦ inr (ap (λ z. z ∷ b) (sym same) ∙ ap (λ l. y ∷ l) q)
    ]

pub whole : {X : Type 0} (s : List X) → IsBeginning s s
whole s = ([], sym (append-nil s))

pub list_all_both : {X : Type 0} (p : X → Bool) (xs ys : List X) → list_all p xs ≡ true → list_all p ys ≡ true → list_all p (xs ++ ys) ≡ true
list_all_both p [] ys a b = b
list_all_both p (x ∷ xs) ys a b = go (p x) a (list_all_both p xs ys)
  where
    go : (c : Bool) → (c && list_all p xs) ≡ true → (list_all p xs ≡ true → list_all p ys ≡ true → list_all p (xs ++ ys) ≡ true) → (c && list_all p (xs ++ ys)) ≡ true
    go true is more = more is b
    go false is more = absurd (cc)
