-- The rings from one actor, as they are laid one after the other, and those of all actors.
use Rattle.std.proofs.Common.{◌≡◌, ℕ, ◌+◌, ◌<◌, ◌==◌, Bool, true, false, cond, ◌&&◌, List, [], ◌∷◌, ◌++◌, map, refl, ap, sym, ◌∙◌, inl, inr, append_assoc, arith}
use Rattle.std.specs.Prelude.{◌≢◌, filter, nat_lt, if◌then◌else◌}
use Rattle.std.specs.List.{range_with_len}
use Rattle.std.proofs.lemmas.List.{append-nil}
use Rattle.std.proofs.lemmas.Bool.Decides.{eqb_tells, nat_tests}
use Rattle.links.specs.Links.{OutLinkValue, InLinkValue}
use Rattle.links.proofs.Ranges.{shown_more, not_shown, map_agree}

both : {X : Type 0} (b : Bool) (start now next xs ys : List X) (x : X) → now ≡ start ++ cond b xs [] → next ≡ now ++ cond b (x ∷ []) [] → ys ≡ xs ++ x ∷ []
    → next ≡ start ++ cond b ys []
both true start now next xs ys x so_far more is = rw (more, so_far, is) (append_assoc start xs (x ∷ []))
both false start now next xs ys x so_far more is = more ∙ (append-nil now ∙ so_far)

pub laid_out : (may : ℕ → Bool) (from to node : ℕ) (f g : ℕ → OutLinkValue) (start now next : List OutLinkValue) → may to ≡ true → ((k : ℕ) → k < to → g k ≡ f k)
    → now ≡ start ++ (if node == from then map f (filter may (range_with_len 0 to)) else [])
    → next ≡ now ++ (if node == from then g to ∷ [] else [])
    → next ≡ start ++ (if node == from then map g (filter may (range_with_len 0 (to + 1))) else [])
laid_out may from to node f g start now next allowed agree so_far more =
    both (node == from) start now next _ _ (g to) so_far more
    (shown_more g may to allowed ∙ ap (λ xs. xs ++ g to ∷ []) (map_agree f g may to agree))

pub passed_out : (may : ℕ → Bool) (from to node : ℕ) (f : ℕ → OutLinkValue) (start now : List OutLinkValue) → may to ≡ false
    → now ≡ start ++ (if node == from then map f (filter may (range_with_len 0 to)) else [])
    → now ≡ start ++ (if node == from then map f (filter may (range_with_len 0 (to + 1))) else [])
passed_out may from to node f start now never so_far =
    so_far ∙ ap (λ ys. start ++ cond (node == from) ys []) (sym (not_shown f may to never))

later : (node to : ℕ) → node ≢ to → nat_lt node (to + 1) ≡ nat_lt node to
later node to away = grind (arith, nat_tests)

now_below : (node to : ℕ) → node ≡ to → nat_lt node (to + 1) ≡ true
now_below node to is = grind (arith, nat_tests)

not_yet : (node to : ℕ) → node ≡ to → nat_lt node to ≡ false
not_yet node to is = grind (arith, nat_tests)

below : (node to : ℕ) → nat_lt node to ≡ true → node < to
below node to is = grind (arith, nat_tests)

pub laid_in : (may : ℕ → Bool) (to node : ℕ) (f g : ℕ → InLinkValue) (start now next : List InLinkValue) → may to ≡ true → (node < to → g node ≡ f node)
    → now ≡ start ++ (if (nat_lt node to && may node) then f node ∷ [] else [])
    → next ≡ now ++ (if node == to then g to ∷ [] else [])
    → next ≡ start ++ (if (nat_lt node (to + 1) && may node) then g node ∷ [] else [])
laid_in may to node f g start now next allowed agree so_far more = elim (eqb_tells node to) [
  | inl same ↦
      let none : now ≡ start = so_far ∙ (rw (not_yet node to same.1) (append-nil start)) in
      let one : next ≡ now ++ g to ∷ [] = more ∙ rw same.0 refl in
      let may_node : may node ≡ true = ap may same.1 ∙ allowed in
      one ∙ (ap (λ xs. xs ++ g to ∷ []) none ∙ (ap (λ (n : ℕ). start ++ g n ∷ []) (sym same.1) ∙ rw (now_below node to same.1, may_node) refl))
  | inr away ↦
      let none : next ≡ now = more ∙ (rw away.0 (append-nil now)) in
      none ∙ (so_far ∙ rw (later node to away.1) (kept_one (nat_lt node to) refl))
]
  where
    kept_one : (b : Bool) → nat_lt node to ≡ b → start ++ cond (b && may node) (f node ∷ []) [] ≡ start ++ cond (b && may node) (g node ∷ []) []
    kept_one true is = rw (agree (below node to is)) refl
    kept_one false is = refl

pub passed_in : (may : ℕ → Bool) (to node : ℕ) (f : ℕ → InLinkValue) (start now : List InLinkValue) → may to ≡ false
    → now ≡ start ++ (if (nat_lt node to && may node) then f node ∷ [] else [])
    → now ≡ start ++ (if (nat_lt node (to + 1) && may node) then f node ∷ [] else [])
passed_in may to node f start now never so_far = elim (eqb_tells node to) [
  | inl same ↦
      let may_not : may node ≡ false = ap may same.1 ∙ never in
      so_far ∙ (rw (not_yet node to same.1, now_below node to same.1, may_not) refl)
  | inr away ↦ so_far ∙ rw (later node to away.1) refl
]

-- all rows

pub rows_out : (reached : ℕ → List ℕ) (from node : ℕ) (f g : ℕ → ℕ → OutLinkValue) (now next : List OutLinkValue) → (node ≢ from → g node ≡ f node)
    → now ≡ (if nat_lt node from then map (f node) (reached node) else [])
    → next ≡ now ++ (if node == from then map (g from) (reached from) else [])
    → next ≡ (if nat_lt node (from + 1) then map (g node) (reached node) else [])
rows_out reached from node f g now next others so_far more = elim (eqb_tells node from) [
  | inl same ↦
      let none : now ≡ [] = so_far ∙ (rw (not_yet node from same.1) refl) in
      let one : next ≡ map (g from) (reached from) = more ∙ rw (same.0, none) refl in
      one ∙ (ap (λ (n : ℕ). map (g n) (reached n)) (sym same.1) ∙ rw (now_below node from same.1) refl)
  | inr away ↦
      let none : next ≡ now = more ∙ (rw away.0 (append-nil now)) in
      none ∙ (so_far ∙ rw (later node from away.1) (ap (λ h. cond (nat_lt node from) (map h (reached node)) []) (sym (others away.1))))
]

pub rows_in : (may : ℕ → Bool) (from : ℕ) (f g : ℕ → InLinkValue) (now next : List InLinkValue) → ((k : ℕ) → k < from → g k ≡ f k)
    → now ≡ map f (filter may (range_with_len 0 from))
    → next ≡ now ++ (if may from then g from ∷ [] else [])
    → next ≡ map g (filter may (range_with_len 0 (from + 1)))
rows_in may from f g now next agree so_far more = by (may from) refl
  where
    before : now ≡ map g (filter may (range_with_len 0 from))
    before = so_far ∙ sym (map_agree f g may from agree)

    by : (b : Bool) → may from ≡ b → next ≡ map g (filter may (range_with_len 0 (from + 1)))
    by true is = more ∙ (rw (is, before) (sym (shown_more g may from is)))
    by false is = more ∙ (rw is (append-nil now ∙ (before ∙ sym (not_shown g may from is))))
