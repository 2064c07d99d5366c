-- The actors of a site before their first events.
use Rattle.std.proofs.Common.{◌≡◌, ◌∙◌, ℕ, zero, suc, ◌+◌, List, [], ◌∷◌, ◌++◌, length, length-append, slice_get, Option, Some, ◌⊎◌, inl, inr, refl, sym, ap, subst}
use Rattle.messages.specs.declared.outcome.Outcome.{Outcome}
use Rattle.messages.specs.Topology.{TopologyValue}
use Rattle.actors.specs.CameFrom.{CameFrom}
use Rattle.actors.specs.declared.member.Member.{Member}
use Rattle.site.specs.Keeping.{IsNew, AreNew}

last_or_before : {X : Type 0} (xs : List X) (x y : X) (i : ℕ) → slice_get (xs ++ x ∷ []) i ≡ Some y → (slice_get xs i ≡ Some y) ⊎ ((i ≡ length xs) × (x ≡ y))
last_or_before [] x y zero at = let same : x ≡ y = cc in inr (refl, same)
last_or_before [] x y (suc i) at = absurd (cc)
last_or_before (z ∷ xs) x y zero at = inl at
last_or_before (z ∷ xs) x y (suc i) at = elim (last_or_before xs x y i at) [ inl old ↦ inl old | inr new ↦ inr (ap suc new.0, new.1) ]

pub one_more : {M : Type 0} (came_from : CameFrom M) (untaken : M → Option (ℕ × Outcome)) (top : TopologyValue) (dc n : ℕ) (xs : List (Option (Member M))) (x : Option (Member M))
    → AreNew came_from untaken top dc n xs → IsNew came_from untaken top dc n x → AreNew came_from untaken top dc (n + 1) (xs ++ x ∷ [])
one_more came_from untaken top dc n xs x are is = record {
  all = length-append xs (x ∷ []) ∙ ap (λ m. m + 1) are.all;
  each = λ i y at. elim (last_or_before xs x y i at) [
    | inl old ↦ are.each i y old
    | inr new ↦ subst (λ z. IsNew came_from untaken top dc i z) new.1 (subst (λ j. IsNew came_from untaken top dc j x) (sym (new.0 ∙ are.all)) is)
  ];
}
