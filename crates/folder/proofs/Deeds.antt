-- One more deed.
use Rattle.std.proofs.Common.{◌≡◌, ◌⊎◌, inl, inr, ℕ, zero, suc, ◌+◌, ◌≤◌, List, [], ◌∷◌, ◌++◌, length, refl, sym, subst, arith, length-append}
use Rattle.std.proofs.lemmas.List.{take_all, take-append-le}
use Rattle.disk.specs.Disk.{Elapses}
use Rattle.folder.specs.Deeds.{Deed}
use Rattle.folder.specs.Left.{seen_once, seen_after, after, left_by, left_of, LeftSince}

seen_push : (file : List ℕ) (deeds : List Deed) (d : Deed) → seen_after file (deeds ++ d ∷ []) ≡ seen_once d (seen_after file deeds)
seen_push file [] d = refl
seen_push file (x ∷ deeds) d = seen_push (seen_once x file) deeds d

left_push : (file : List ℕ) (left : List ℕ → Type 0) (deeds : List Deed) (d : Deed) (c : List ℕ) → left_by file left (deeds ++ d ∷ []) c → after d (seen_after file deeds) (left_by file left deeds) c
left_push file left [] d c h = h
left_push file left (x ∷ deeds) d c h = left_push (seen_once x file) (after x file left) deeds d c h

at_most : (k n : ℕ) → k ≤ suc n → (k ≤ n) ⊎ (k ≡ suc n)
at_most zero n le = inl (omega arith)
at_most (suc k) zero le = inr (omega arith)
at_most (suc k) (suc n) le = elim (at_most k n (omega arith)) [ inl h ↦ inl (omega arith) | inr h ↦ inr (omega arith) ]

module _ (first : List ℕ) (deeds : List Deed) (d : Deed) where
  longer : length (deeds ++ d ∷ []) ≡ length deeds + 1
  longer = length-append deeds (d ∷ [])

  elapses : Elapses (length deeds) (length (deeds ++ d ∷ [])) (LeftSince first deeds) (LeftSince first (deeds ++ d ∷ [])) (left_of first (deeds ++ d ∷ []))
  elapses = record {
    later = omega (arith, longer);
    nothing_else = λ t c le since.
        let within = since.within in
        elim (at_most since.moment (length deeds) (omega (arith, longer, within))) [
          | inl h ↦ inl (record {
            moment = since.moment;
            later = since.later;
            within = h;
            left = subst (λ (z : List Deed). left_of first z c) (take-append-le since.moment deeds (d ∷ []) h) since.left;
          })
          | inr h ↦ inr (subst (λ (z : List Deed). left_of first z c) (take_all since.moment (deeds ++ d ∷ []) (omega (arith, longer, h))) since.left)
        ];
    keeps = λ t c le past.
        let within = past.within in
        record {
          moment = past.moment;
          later = past.later;
          within = omega (arith, longer, within);
          left = subst (λ (z : List Deed). left_of first z c) (sym (take-append-le past.moment deeds (d ∷ []) within)) past.left;
        };
  }

-- where a list of deeds is another and one more
module _ (first : List ℕ) (deeds more : List Deed) (d : Deed) (is : more ≡ deeds ++ d ∷ []) where
  pub seen_to : seen_after first more ≡ seen_once d (seen_after first deeds)
  seen_to = subst (λ (z : List Deed). seen_after first z ≡ seen_once d (seen_after first deeds)) (sym is) (seen_push first deeds d)

  pub left_to : (c : List ℕ) → left_of first more c → after d (seen_after first deeds) (left_of first deeds) c
  left_to c h = left_push first (λ x. x ≡ first) deeds d c (subst (λ (z : List Deed). left_of first z c) is h)

  pub elapses_to : Elapses (length deeds) (length more) (LeftSince first deeds) (LeftSince first more) (left_of first more)
  elapses_to = subst (λ (z : List Deed). Elapses (length deeds) (length z) (LeftSince first deeds) (LeftSince first z) (left_of first z)) (sym is) (elapses first deeds d)

pub elapses_same : (first : List ℕ) (deeds : List Deed) → Elapses (length deeds) (length deeds) (LeftSince first deeds) (LeftSince first deeds) (left_of first deeds)
elapses_same first deeds = record { later = omega arith; nothing_else = λ t c le since. inl since; keeps = λ t c le past. past }
