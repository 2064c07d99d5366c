-- One more step of a file in memory.
use Rattle.std.proofs.Common.{◌≡◌, ◌⊎◌, inl, inr, ℕ, zero, suc, ◌+◌, ◌≤◌, List, [], ◌∷◌, ◌++◌, length, sym, subst, arith, length-append, append-nil}
use Rattle.std.proofs.lemmas.List.{take_all, take-append-le}
use Rattle.disk.specs.Disk.{IsBeginning, Cut, Follows, Elapses}
use Rattle.disk.specs.Memory.{after, left_by, left_of, LeftSince}
use Rattle.disk.specs.declared.memory.Step.{Step}

pub after_push : (left : List ℕ → Type 0) (steps : List Step) (s : Step) (c : List ℕ) → left_by left (steps ++ s ∷ []) c → after s (left_by left steps) c
after_push left [] s c h = h
after_push left (x ∷ steps) s c h = after_push (after x left) steps s c h

at_most : (k n : ℕ) → k ≤ suc n → (k ≤ n) ⊎ (k ≡ suc n)
at_most zero n le = inl (omega arith)
at_most (suc k) zero le = inr (omega arith)
at_most (suc k) (suc n) le = elim (at_most k n (omega arith)) [ inl h ↦ inl (omega arith) | inr h ↦ inr (omega arith) ]

pub elapses_same : (first : List ℕ) (steps : List Step) → Elapses (length steps) (length steps) (LeftSince first steps) (LeftSince first steps) (left_of first steps)
elapses_same first steps = record {
  later = omega arith;
  nothing_else = λ t c le since. inl since;
  keeps = λ t c le past. past;
}

module _ (first : List ℕ) (steps : List Step) (s : Step) where
  longer : length (steps ++ s ∷ []) ≡ length steps + 1
  longer = length-append steps (s ∷ [])

  pub elapses : Elapses (length steps) (length (steps ++ s ∷ [])) (LeftSince first steps) (LeftSince first (steps ++ s ∷ [])) (left_of first (steps ++ s ∷ []))
  elapses = record {
    later = omega (arith, longer);
    nothing_else = λ t c le since.
        let within = since.within in
        elim (at_most since.moment (length steps) (omega (arith, longer, within))) [
          | inl h ↦ inl (record {
            moment = since.moment;
            later = since.later;
            within = h;
            left = subst (λ (z : List Step). left_of first z c) (take-append-le since.moment steps (s ∷ []) h) since.left;
          })
          | inr h ↦ inr (subst (λ (z : List Step). left_of first z c) (take_all since.moment (steps ++ s ∷ []) (omega (arith, longer, h))) since.left)
        ];
    keeps = λ t c le past.
        let within = past.within in
        record {
          moment = past.moment;
          later = past.later;
          within = omega (arith, longer, within);
          left = subst (λ (z : List Step). left_of first z c) (sym (take-append-le past.moment steps (s ∷ []) within)) past.left;
        };
  }

-- where a list of steps is another and one more
pub elapses_to : (first : List ℕ) (steps more : List Step) (s : Step) → more ≡ steps ++ s ∷ [] → Elapses (length steps) (length more) (LeftSince first steps) (LeftSince first more) (left_of first more)
elapses_to first steps more s is = subst (λ (z : List Step). Elapses (length steps) (length z) (LeftSince first steps) (LeftSince first z) (left_of first z)) (sym is) (elapses first steps s)

pub left_to : (first : List ℕ) (steps more : List Step) (s : Step) → more ≡ steps ++ s ∷ [] → (c : List ℕ) → left_of first more c → after s (left_of first steps) c
left_to first steps more s is c h = after_push (λ d. d ≡ first) steps s c (subst (λ (z : List Step). left_of first z c) is h)

-- a step that wasn't made
pub none_added : (left : List ℕ → Type 0) → Follows IsBeginning left left
none_added left c h = (c, h, ([], sym (append-nil c)))

pub none_cut : (left : List ℕ → Type 0) (n : ℕ) → Follows (Cut n) left left
none_cut left n c h = (c, h, (n + length c, omega arith, sym (take_all (n + length c) c (omega arith))))
