-- The ends that actors hold, where one actor's change.
use Rattle.std.proofs.Common.{◌≡◌, ℕ, zero, suc, ◌<◌, ◌==◌, List, [], ◌∷◌, ◌++◌, length, get_or, set, Some, refl, ap, sym, subst, ◌∙◌, inl, inr, arith}
use Rattle.std.specs.Prelude.{◌≢◌, if◌then◌else◌}
use Rattle.std.specs.List.{slice_get}
use Rattle.std.proofs.lemmas.Option.{slice_get-get_or}
use Rattle.std.proofs.lemmas.List.{append-nil}
use Rattle.std.proofs.lemmas.Bool.Decides.{eqb_tells}
use Rattle.links.specs.Links.{OutLinkValue, InLinkValue}
use Rattle.links.specs.Mesh.{outgoing_of, incoming_of, outgoing_at, incoming_at}
use Rattle.links.specs.declared.ends.Ends.{Ends}

set_at : {X : Type 0} (xs : List X) (k : ℕ) (x : X) → k < length xs → slice_get (set xs k x) k ≡ Some x
set_at [] k x lt = absurd (omega arith)
set_at (y ∷ xs) zero x lt = refl
set_at (y ∷ xs) (suc k) x lt = set_at xs k x (omega arith)

set_away : {X : Type 0} (xs : List X) (k j : ℕ) (x : X) → j ≢ k → slice_get (set xs k x) j ≡ slice_get xs j
set_away [] k j x ne = refl
set_away (y ∷ xs) zero zero x ne = absurd (ne refl)
set_away (y ∷ xs) zero (suc j) x ne = refl
set_away (y ∷ xs) (suc k) zero x ne = refl
set_away (y ∷ xs) (suc k) (suc j) x ne = set_away xs k j x (λ e. ne (ap suc e))

here : {X : Type 0} (xs : List X) (k : ℕ) (d : X) → k < length xs → d ≡ get_or xs k d → slice_get xs k ≡ Some d
here xs k d lt is = slice_get-get_or xs k d lt ∙ ap Some (sym is)

pub out_more : (ends : List Ends) (k : ℕ) (d e : Ends) (x : OutLinkValue) → k < length ends → d ≡ get_or ends k d → e.outgoing.items ≡ d.outgoing.items ++ x ∷ []
    → (node : ℕ) → outgoing_at (set ends k e) node ≡ outgoing_at ends node ++ (if node == k then x ∷ [] else [])
out_more ends k d e x lt is more node = elim (eqb_tells node k) [
  | inl same ↦
      let now : outgoing_at (set ends k e) k ≡ outgoing_at ends k ++ x ∷ [] =
      ap (λ o. outgoing_of o) (set_at ends k e lt) ∙ (more ∙ ap (λ o. outgoing_of o ++ x ∷ []) (sym (here ends k d lt is))) in
      rw same.0 (subst (λ (n : ℕ). outgoing_at (set ends k e) n ≡ outgoing_at ends n ++ x ∷ []) (sym same.1) now)
  | inr away ↦ rw away.0 (ap (λ o. outgoing_of o) (set_away ends k node e away.1) ∙ sym (append-nil (outgoing_at ends node)))
]

pub in_more : (ends : List Ends) (k : ℕ) (d e : Ends) (x : InLinkValue) → k < length ends → d ≡ get_or ends k d → e.incoming.items ≡ d.incoming.items ++ x ∷ []
    → (node : ℕ) → incoming_at (set ends k e) node ≡ incoming_at ends node ++ (if node == k then x ∷ [] else [])
in_more ends k d e x lt is more node = elim (eqb_tells node k) [
  | inl same ↦
      let now : incoming_at (set ends k e) k ≡ incoming_at ends k ++ x ∷ [] =
      ap (λ o. incoming_of o) (set_at ends k e lt) ∙ (more ∙ ap (λ o. incoming_of o ++ x ∷ []) (sym (here ends k d lt is))) in
      rw same.0 (subst (λ (n : ℕ). incoming_at (set ends k e) n ≡ incoming_at ends n ++ x ∷ []) (sym same.1) now)
  | inr away ↦ rw away.0 (ap (λ o. incoming_of o) (set_away ends k node e away.1) ∙ sym (append-nil (incoming_at ends node)))
]

pub out_same : (ends : List Ends) (k : ℕ) (d e : Ends) → k < length ends → d ≡ get_or ends k d → e.outgoing.items ≡ d.outgoing.items
    → (node : ℕ) → outgoing_at (set ends k e) node ≡ outgoing_at ends node
out_same ends k d e lt is stays node = elim (eqb_tells node k) [
  | inl same ↦
      let now : outgoing_at (set ends k e) k ≡ outgoing_at ends k =
      ap (λ o. outgoing_of o) (set_at ends k e lt) ∙ (stays ∙ ap (λ o. outgoing_of o) (sym (here ends k d lt is))) in
      subst (λ (n : ℕ). outgoing_at (set ends k e) n ≡ outgoing_at ends n) (sym same.1) now
  | inr away ↦ ap (λ o. outgoing_of o) (set_away ends k node e away.1)
]

pub in_same : (ends : List Ends) (k : ℕ) (d e : Ends) → k < length ends → d ≡ get_or ends k d → e.incoming.items ≡ d.incoming.items
    → (node : ℕ) → incoming_at (set ends k e) node ≡ incoming_at ends node
in_same ends k d e lt is stays node = elim (eqb_tells node k) [
  | inl same ↦
      let now : incoming_at (set ends k e) k ≡ incoming_at ends k =
      ap (λ o. incoming_of o) (set_at ends k e lt) ∙ (stays ∙ ap (λ o. incoming_of o) (sym (here ends k d lt is))) in
      subst (λ (n : ℕ). incoming_at (set ends k e) n ≡ incoming_at ends n) (sym same.1) now
  | inr away ↦ ap (λ o. incoming_of o) (set_away ends k node e away.1)
]
