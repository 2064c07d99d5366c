use Rattle.std.proofs.Common.{◌≡◌, ℕ, ◌-◌, ◌+◌, ◌<◌, ◌≤◌, List, ◌++◌, [], ◌∷◌, refl, subst, sym, inl, inr, arith}
use Rattle.std.specs.List.{Contains}
use Rattle.std.proofs.lemmas.Bool.{cases_eq}
use Rattle.std.proofs.lemmas.List.Elements.{Contains-push, Contains-append_left}
use Rattle.doors.proofs.hall.all_places.Goals as goal

-- one place more
one_more : (free new : List ℕ) (n i x k : ℕ) → new ≡ free ++ x ∷ [] → x ≡ n - 1 - i → i < n → k < n → n ≤ k + (i + 1) → ((j : ℕ) → j < n → n ≤ j + i → Contains free j) → Contains new k
one_more free new n i x k push is within lt le before =
    subst (λ (t : List ℕ). Contains t k) (sym push)
    (elim (cases_eq x k) [
      | inl e ↦ subst (λ (j : ℕ). Contains (free ++ x ∷ []) j) e (Contains-push free x)
      | inr ne ↦ Contains-append_left free (x ∷ []) k (before k lt (omega arith))
    ])

pub loop-place-preserved : goal.loop-place-preserved
loop-place-preserved c k lt le = one_more c.loop-place.free.items c.push.new.self.items c.args.places c.loop-place.place (c.args.places - 1 - c.loop-place.place) k c.in_ok-push.ensures.items refl c.loop-place-test.true lt le c.loop-place.invariant
