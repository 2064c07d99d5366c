-- A search for the end of an operation, from the last entry of a transcript.
use Rattle.std.proofs.Common.{◌≡◌, ◌∙◌, ℕ, Bool, true, false, ◌&&◌, ◌==◌, List, [], ◌∷◌, ◌++◌, inl, inr, refl, ap, sym, subst, arith, append_assoc, append-nil}
use Rattle.std.specs.Prelude.{Contains}
use Rattle.std.proofs.lemmas.Bool.{false≢true, and_parts}
use Rattle.std.proofs.lemmas.Bool.Decides.{nat_tests}
use Rattle.world.specs.declared.completed.Completed.{Completed}
use Rattle.world.specs.Run.{Run}
use Rattle.world.proofs.lists.Members.{none_in_empty, contains_cases, Contains-push, Contains-append_left}
use Rattle.service.specs.Port.{EndedWith, IsOpen}

abbrev pub is_its : ℕ → ℕ → Completed → Bool
is_its session number c = (c.node == session) && (c.number == number)

-- nothing after the rest is the end that is looked for
pub record IsSearched (all rest : List Completed) (session number : ℕ) : Type 0 where
  pub after : List Completed
  pub is : all ≡ rest ++ after
  pub none : (c : Completed) → Contains after c → is_its session number c ≡ false

pub searched_none : (all rest : List Completed) (session number : ℕ) → rest ≡ all → IsSearched all rest session number
searched_none all rest session number same = record { after = []; is = sym same ∙ sym (append-nil rest); none = λ c m. absurd (none_in_empty c m) }

pub searched_more : (all rest before : List Completed) (last : Completed) (session number : ℕ) → IsSearched all rest session number → rest ≡ before ++ last ∷ [] → is_its session number last ≡ false
    → IsSearched all before session number
searched_more all rest before last session number s is no' = record {
  after = last ∷ s.after;
  is = s.is ∙ (ap (λ xs. xs ++ s.after) is ∙ append_assoc before (last ∷ []) s.after);
  none = λ c m. elim (contains_cases last c s.after m) [ inl e ↦ ap (is_its session number) e ∙ no' | inr k ↦ s.none c k ];
}

its : (c : Completed) (session number : ℕ) → is_its session number c ≡ true → (c.node ≡ session) × (c.number ≡ number)
its c session number is = let p = and_parts (c.node == session) (c.number == number) is in (grind (arith, nat_tests), grind (arith, nat_tests))

pub found : (w : Run) (rest before : List Completed) (last : Completed) (session number : ℕ) → IsSearched w.transcript rest session number → rest ≡ before ++ last ∷ []
    → is_its session number last ≡ true → EndedWith w session number last.outcome
found w rest before last session number s is yes' =
    let at : Contains rest last = subst (λ l. Contains l last) (sym is) (Contains-push before last) in
    let p = its last session number yes' in
    record {
      entry = last;
      is_end = record { listed = subst (λ l. Contains l last) (sym s.is) (Contains-append_left rest s.after last at); node = p.0; numbered = p.1 };
      outcome_is = refl;
    }

refuted : (c : Completed) (session number : ℕ) → c.node ≡ session → c.number ≡ number → is_its session number c ≡ true
refuted c session number p q = grind (arith, nat_tests)

pub not_found : (w : Run) (rest : List Completed) (session number : ℕ) → IsSearched w.transcript rest session number → rest ≡ [] → IsOpen w session number
not_found w rest session number s is = λ c e.
    let all : w.transcript ≡ s.after = s.is ∙ ap (λ xs. xs ++ s.after) is in
    let m : Contains s.after c = subst (λ xs. Contains xs c) all e.listed in
    absurd (false≢true (sym (s.none c m) ∙ refuted c session number e.node e.numbered))
