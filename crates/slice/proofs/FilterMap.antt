-- The step of a loop that gathers what a function gives.
use Rattle.std.proofs.Common.{◌≡◌, ℕ, ◌+◌, ◌<◌, List, [], ◌∷◌, ◌++◌, Option, Some, None, length, take, get_or, filter_map, refl, ap, ◌∙◌, sym, append-nil, append_assoc}
use Rattle.std.specs.Option.{option_to_list}
use Rattle.std.specs.List.{cons_option}
use Rattle.std.proofs.lemmas.List.{take_more}
use Rattle.std.proofs.lemmas.List.Elements.{filter_map-append}

given_alone : {Y : Type 0} (o : Option Y) → cons_option o [] ≡ option_to_list o
given_alone None = refl
given_alone (Some y) = refl

filter_map_more : {X Y : Type 0} (h : X → Option Y) (xs : List X) (i : ℕ) (x : X) (o : Option Y) → i < length xs → x ≡ get_or xs i x → h x ≡ o
    → filter_map h (take (i + 1) xs) ≡ filter_map h (take i xs) ++ option_to_list o
filter_map_more h xs i x o lt e f =
    ap (filter_map h) (take_more xs i x lt) ∙ (filter_map-append h (take i xs) (get_or xs i x ∷ [])
    ∙ (ap (λ z. filter_map h (take i xs) ++ filter_map h (z ∷ [])) (sym e)
    ∙ (ap (λ p. filter_map h (take i xs) ++ cons_option p []) f ∙ ap (λ ys. filter_map h (take i xs) ++ ys) (given_alone o))))

pub filter_map_kept : {X Y : Type 0} (h : X → Option Y) (xs : List X) (start ys : List Y) (i : ℕ) (x : X) (y : Y) → i < length xs → x ≡ get_or xs i x → h x ≡ Some y
    → ys ≡ start ++ filter_map h (take i xs) → ys ++ y ∷ [] ≡ start ++ filter_map h (take (i + 1) xs)
filter_map_kept h xs start ys i x y lt e f g =
    ap (λ zs. zs ++ y ∷ []) g ∙ (append_assoc start (filter_map h (take i xs)) (y ∷ []) ∙ ap (λ zs. start ++ zs) (sym (filter_map_more h xs i x (Some y) lt e f)))

pub filter_map_left : {X Y : Type 0} (h : X → Option Y) (xs : List X) (start ys : List Y) (i : ℕ) (x : X) → i < length xs → x ≡ get_or xs i x → h x ≡ None
    → ys ≡ start ++ filter_map h (take i xs) → ys ≡ start ++ filter_map h (take (i + 1) xs)
filter_map_left h xs start ys i x lt e f g =
    g ∙ ap (λ zs. start ++ zs) (sym (filter_map_more h xs i x None lt e f ∙ append-nil (filter_map h (take i xs))))
