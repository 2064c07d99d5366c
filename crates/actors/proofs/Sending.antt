-- Envelopes to a node among those of a list, where one is taken out.
use Rattle.std.proofs.Common.{◌≡◌, ℕ, zero, suc, ◌+◌, ◌<◌, ◌==◌, Bool, true, false, cond, List, [], ◌∷◌, ◌++◌, length, take, drop, refl, ap, sym, add-one, Some, inl, inr, arith}
use Rattle.std.specs.Prelude.{◌≢◌}
use Rattle.std.specs.List.{slice_get}
use Rattle.std.proofs.lemmas.Bool.Decides.{nat_tests, eqb_tells}
use Rattle.messages.specs.declared.envelope.Envelope.{Envelope}
use Rattle.actors.specs.Journals.{sends_to}

pub test_false : (a b : ℕ) → a ≢ b → (a == b) ≡ false
test_false a b h = grind (arith, nat_tests)

pub test_true : (a b : ℕ) → a ≡ b → (a == b) ≡ true
test_true a b h = grind (arith, nat_tests)

under : (b : Bool) (x : Envelope) (s t : List Envelope) → s ≡ t → cond b (x ∷ s) s ≡ cond b (x ∷ t) t
under b x s t e = ap (λ (u : List Envelope). cond b (x ∷ u) u) e

no_first : (b : Bool) (x : Envelope) (s : List Envelope) → cond b (x ∷ s) s ≡ [] → (b ≡ false) × (s ≡ [])
no_first true x s e = absurd cc
no_first false x s e = (refl, e)

to_of_some : (x e : Envelope) → Some x ≡ Some e → x ≡ e
to_of_some x e h = cc

pub taken_others : (n : ℕ) (es : List Envelope) (i : ℕ) (e : Envelope) → slice_get es i ≡ Some e → e.to ≢ n → sends_to n (take i es ++ drop (suc i) es) ≡ sends_to n es
taken_others n [] i e at ne = absurd cc
taken_others n (x ∷ es) zero e at ne = rw (ap (λ (y : Envelope). y.to) (to_of_some x e at), test_false e.to n ne) refl
taken_others n (x ∷ es) (suc i) e at ne = under (x.to == n) x _ _ (taken_others n es i e at ne)

pub taken_first : (n : ℕ) (es : List Envelope) (i : ℕ) (e : Envelope) → slice_get es i ≡ Some e → e.to ≡ n → sends_to n (take i es) ≡ []
    → sends_to n es ≡ e ∷ sends_to n (take i es ++ drop (suc i) es)
taken_first n [] i e at to none = absurd cc
taken_first n (x ∷ es) zero e at to none =
    let is = to_of_some x e at in
    rw (ap (λ (y : Envelope). y.to) is, test_true e.to n to, is) refl
taken_first n (x ∷ es) (suc i) e at to none =
    let p = no_first (x.to == n) x (sends_to n (take i es)) none in
    rw (p.0) (taken_first n es i e at to p.1)

pub none_next : (n : ℕ) (es : List Envelope) (i : ℕ) (e : Envelope) → slice_get es i ≡ Some e → e.to ≢ n → sends_to n (take i es) ≡ [] → sends_to n (take (suc i) es) ≡ []
none_next n [] i e at ne none = absurd cc
none_next n (x ∷ es) zero e at ne none = rw (ap (λ (y : Envelope). y.to) (to_of_some x e at), test_false e.to n ne) refl
none_next n (x ∷ es) (suc i) e at ne none =
    let p = no_first (x.to == n) x (sends_to n (take i es)) none in
    rw (p.0) (none_next n es i e at ne p.1)

pub none_kept : (n : ℕ) (es : List Envelope) (i : ℕ) → i < length es → sends_to n (take i es) ≡ [] → sends_to n (take i (take i es ++ drop (suc i) es)) ≡ []
none_kept n [] i lt none = absurd (omega arith)
none_kept n (x ∷ es) zero lt none = refl
none_kept n (x ∷ es) (suc i) lt none =
    let p = no_first (x.to == n) x (sends_to n (take i es)) none in
    rw (p.0) (none_kept n es i (omega arith) p.1)

-- what goes to a node is the one that is taken out, if it goes there, and the others
pub taken_out : (n : ℕ) (es : List Envelope) (i : ℕ) (e : Envelope) → slice_get es i ≡ Some e → (e.to ≡ n → sends_to n (take i es) ≡ [])
    → sends_to n (e ∷ []) ++ sends_to n (take i es ++ drop (i + 1) es) ≡ sends_to n es
taken_out n es i e at none = elim (eqb_tells e.to n) [
  | inl same ↦ rw (add-one, same.0) (sym (taken_first n es i e at same.1 (none same.1)))
  | inr away ↦ rw (add-one, away.0) (taken_others n es i e at away.1)
]
