-- Lists by rising stamp, seen by falling stamp.
use Rattle.std.proofs.Common.{◌≡◌, refl, ◌∙◌, ap, sym, ℕ, zero, suc, ◌+◌, ◌<◌, List, [], ◌∷◌, ◌++◌, take, drop, length, get_or, arith}
use Rattle.std.specs.Prelude.{reverse, remove, slice_get, Some}
use Rattle.std.proofs.lemmas.List.{reverse-append, append_assoc, take-append-drop, take_more, drop_more, take-take}

module _ {X : Type 0} where
  pub reverse_split : (xs : List X) (x : X) (ys : List X) → reverse (xs ++ x ∷ ys) ≡ reverse ys ++ x ∷ reverse xs
  reverse_split xs x ys =
      reverse-append xs (x ∷ ys)
      ∙ ap (λ (zs : List X). zs ++ reverse xs) (reverse-append (x ∷ []) ys)
      ∙ append_assoc (reverse ys) (x ∷ []) (reverse xs)

  pub reverse_at : (xs : List X) (i : ℕ) (d : X) → i < length xs → reverse xs ≡ reverse (drop (i + 1) xs) ++ get_or xs i d ∷ reverse (take i xs)
  reverse_at xs i d lt =
      ap reverse (sym (take-append-drop i xs) ∙ ap (λ (ys : List X). take i xs ++ ys) (drop_more xs i d lt))
      ∙ reverse_split (take i xs) (get_or xs i d) (drop (i + 1) xs)

  pub reverse_take : (xs : List X) (i : ℕ) (d : X) → i < length xs → reverse (take (i + 1) xs) ≡ get_or xs i d ∷ reverse (take i xs)
  reverse_take xs i d lt = ap reverse (take_more xs i d lt) ∙ reverse-append (take i xs) (get_or xs i d ∷ [])

  pub reverse_drop : (xs : List X) (i : ℕ) (d : X) → i < length xs → reverse (drop i xs) ≡ reverse (drop (i + 1) xs) ++ get_or xs i d ∷ []
  reverse_drop xs i d lt = ap reverse (drop_more xs i d lt) ∙ reverse-append (get_or xs i d ∷ []) (drop (i + 1) xs)

  pub reverse_parts : (xs : List X) (i : ℕ) → reverse xs ≡ reverse (drop i xs) ++ reverse (take i xs)
  reverse_parts xs i = ap reverse (sym (take-append-drop i xs)) ∙ reverse-append (take i xs) (drop i xs)

  pub slice_get_at : (xs : List X) (x : X) (ys : List X) (n : ℕ) → length xs ≡ n → slice_get (xs ++ x ∷ ys) n ≡ Some x
  slice_get_at [] x ys zero e = refl
  slice_get_at [] x ys (suc n) e = absurd (omega (arith, e))
  slice_get_at (y ∷ xs) x ys zero e = absurd (omega (arith, e))
  slice_get_at (y ∷ xs) x ys (suc n) e = slice_get_at xs x ys n (omega (arith, e))

  pub remove_at : (xs : List X) (x : X) (ys : List X) (n : ℕ) → length xs ≡ n → remove (xs ++ x ∷ ys) n ≡ xs ++ ys
  remove_at [] x ys zero e = refl
  remove_at [] x ys (suc n) e = absurd (omega (arith, e))
  remove_at (y ∷ xs) x ys zero e = absurd (omega (arith, e))
  remove_at (y ∷ xs) x ys (suc n) e = ap (λ (zs : List X). y ∷ zs) (remove_at xs x ys n (omega (arith, e)))

  pub take_less : (i : ℕ) (xs ys : List X) → take (i + 1) xs ≡ take (i + 1) ys → take i xs ≡ take i ys
  take_less i xs ys e = sym (take-take i (i + 1) xs (omega arith)) ∙ ap (take i) e ∙ take-take i (i + 1) ys (omega arith)
