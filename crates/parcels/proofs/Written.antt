-- Lists that are written fit, or don't.
use Rattle.std.proofs.Common.{◌≡◌, ℕ, ◌<◌, ◌≤◌, Bool, true, List, ◌++◌, length, get_or, take, subst, sym, ap, ◌∙◌}
use Rattle.std.specs.List.{flat_map, list_all}
use Rattle.std.proofs.lemmas.List.Folds.{list_all_at}
use Rattle.std.proofs.lemmas.List.{take_all}
use Rattle.wire.specs.Answers.{Refuses}
use Rattle.wire.specs.declared.error.FrameError.{FrameError}
use Rattle.wire.specs.declared.error.FrameError.TheVariants as errors

-- an item that is refused
pub refuses_list : {A : Type 0} (e : FrameError) (fit : A → Bool) (xs : List A) (i : ℕ) (x : A) → i < length xs → x ≡ get_or xs i x → Refuses e (fit x) → Refuses e (list_all fit xs)
refuses_list errors.Memory fit xs i x lt is h = tt
refuses_list (errors.Frame f) fit xs i x lt is h = (h.0, list_all_at fit xs i x lt (ap fit (sym is) ∙ h.1))

-- all items are written
pub all_written : {A : Type 0} (f : A → List ℕ) (fit : A → Bool) (xs : List A) (i : ℕ) (start out : List ℕ) → length xs ≤ i → list_all fit (take i xs) ≡ true → out ≡ start ++ flat_map f (take i xs)
    → (list_all fit xs ≡ true) × (out ≡ start ++ flat_map f xs)
all_written {A = A} f fit xs i start out le fits text =
    let all : take i xs ≡ xs = take_all i xs le in
    (subst (λ (ys : List A). list_all fit ys ≡ true) all fits, text ∙ ap (λ (ys : List A). start ++ flat_map f ys) all)
