-- What is left of a head's text while it is read.
use Rattle.std.proofs.Common.{◌≡◌, ◌∙◌, ℕ, ◌-◌, ◌<◌, ◌≤◌, List, [], ◌∷◌, ◌++◌, All, length, take, drop, slice_index, min, refl, sym, ap, subst, append_assoc, append-nil, length-append, arith}
use Rattle.std.proofs.lemmas.List.{take_all}
use Rattle.std.proofs.lemmas.List.Elements.{All-head, All-tail}
use Rattle.std.proofs.Math.Seq.{take-append_seam, drop-append_seam}
use Rattle.std.proofs.Math.Nat.{min-eq_left}
use Rattle.byteorder.specs.Endian.{big_bytes}
use Rattle.ledger.specs.Heads.{homes_text, families_text}

-- ## Two bytes in front

-- what stands behind the first two bytes
abbrev pub behind_two : List ℕ → List ℕ
behind_two rest = take (length rest - 2) (drop 2 rest)

-- the number that these bytes spell is the one that they were spelled of
abbrev pub SpellsBack : List ℕ → ℕ → Type 0
SpellsBack rest value = (n : ℕ) → n < 65536 → slice_index rest 0 ∷ slice_index rest 1 ∷ [] ≡ big_bytes 2 n → value ≡ n

two_in_front : (n : ℕ) (text : List ℕ) → slice_index (big_bytes 2 n ++ text) 0 ∷ slice_index (big_bytes 2 n ++ text) 1 ∷ [] ≡ big_bytes 2 n
two_in_front n text = refl

two_behind : (n : ℕ) (text : List ℕ) → behind_two (big_bytes 2 n ++ text) ≡ text
two_behind n text = take_all (length (big_bytes 2 n ++ text) - 2) text (omega arith)

spelled_number : (rest text : List ℕ) (n value : ℕ) → rest ≡ big_bytes 2 n ++ text → n < 65536 → SpellsBack rest value → value ≡ n
spelled_number rest text n value is lt back = back n lt (subst (λ (r : List ℕ). slice_index r 0 ∷ slice_index r 1 ∷ [] ≡ big_bytes 2 n) (sym is) (two_in_front n text))

spelled_behind : (rest text : List ℕ) (n : ℕ) → rest ≡ big_bytes 2 n ++ text → behind_two rest ≡ text
spelled_behind rest text n is = subst (λ (r : List ℕ). behind_two r ≡ text) (sym is) (two_behind n text)

-- fewer bytes than two spell no number
too_few : {X : Type 0} (rest text : List ℕ) (n : ℕ) → rest ≡ big_bytes 2 n ++ text → length rest < 2 → X
too_few rest text n is lt = absurd (few (subst (λ (r : List ℕ). length r < 2) is lt))
  where
    few : length (big_bytes 2 n ++ text) < 2 → ⊥
    few h = omega arith

-- ## Homes

-- these homes were read, and bytes spell the others
pub record HomesLeft (done rest all : List ℕ) : Type 0 where
  pub others : List ℕ
  pub parts : all ≡ done ++ others
  pub fit : All (λ home. home < 65536) others
  pub text : rest ≡ homes_text others

pub homes_on : (done more rest all : List ℕ) (value : ℕ) → HomesLeft done rest all → 2 ≤ length rest → more ≡ done ++ value ∷ [] → SpellsBack rest value → HomesLeft more (behind_two rest) all
homes_on done more rest all value k long is back = by k.others k.parts k.fit k.text
  where
    by : (others : List ℕ) → all ≡ done ++ others → All (λ home. home < 65536) others → rest ≡ homes_text others → HomesLeft more (behind_two rest) all
    by [] parts fit text = absurd (none (subst (λ (r : List ℕ). 2 ≤ length r) text long))
      where
        none : 2 ≤ 0 → ⊥
        none h = omega arith
    by (h ∷ hs) parts fit text =
        let same : value ≡ h = spelled_number rest (homes_text hs) h value text (All-head (λ home. home < 65536) h hs fit) back in
        record {
          others = hs;
          parts = parts ∙ ap (λ (x : ℕ). done ++ x ∷ hs) (sym same) ∙ sym (append_assoc done (value ∷ []) hs) ∙ ap (λ (l : List ℕ). l ++ hs) (sym is);
          fit = All-tail (λ home. home < 65536) h hs fit;
          text = spelled_behind rest (homes_text hs) h text;
        }

pub homes_end : (done rest all : List ℕ) → HomesLeft done rest all → length rest < 2 → done ≡ all
homes_end done rest all k lt = by k.others k.parts k.text
  where
    by : (others : List ℕ) → all ≡ done ++ others → rest ≡ homes_text others → done ≡ all
    by [] parts text = sym (parts ∙ append-nil done)
    by (h ∷ hs) parts text = too_few rest (homes_text hs) h text lt

-- ## Families

-- these names were read, and bytes spell the others
pub record FamiliesLeft (done : List (List ℕ)) (rest : List ℕ) (all : List (List ℕ)) : Type 0 where
  pub others : List (List ℕ)
  pub parts : all ≡ done ++ others
  pub fit : All (λ name. length name < 65536) others
  pub text : rest ≡ families_text others

pub families_on : (done more all : List (List ℕ)) (rest name back : List ℕ) (value n : ℕ) → FamiliesLeft done rest all → 2 ≤ length rest → more ≡ done ++ name ∷ [] → SpellsBack rest value
    → n ≡ min value (length (behind_two rest)) → name ≡ take n (behind_two rest) → back ≡ drop n (behind_two rest) → FamiliesLeft more back all
families_on done more all rest name back value n k long is spells least front behind = by k.others k.parts k.fit k.text
  where
    by : (others : List (List ℕ)) → all ≡ done ++ others → All (λ name. length name < 65536) others → rest ≡ families_text others → FamiliesLeft more back all
    by [] parts fit text = absurd (none (subst (λ (r : List ℕ). 2 ≤ length r) text long))
      where
        none : 2 ≤ 0 → ⊥
        none h = omega arith
    by (f ∷ fs) parts fit text =
        let same : value ≡ length f = spelled_number rest (f ++ families_text fs) (length f) value text (All-head (λ name. length name < 65536) f fs fit) spells in
        let there : behind_two rest ≡ f ++ families_text fs = spelled_behind rest (f ++ families_text fs) (length f) text in
        let long' : length f ≤ length (f ++ families_text fs) = omega (arith, length-append f (families_text fs)) in
        let at : n ≡ length f = least ∙ ap (λ v. min v (length (behind_two rest))) same ∙ ap (λ (l : List ℕ). min (length f) (length l)) there ∙ min-eq_left long' in
        let name_is : name ≡ f = front ∙ ap (λ m. take m (behind_two rest)) at ∙ ap (λ (l : List ℕ). take (length f) l) there ∙ take-append_seam f (families_text fs) in
        record {
          others = fs;
          parts = parts ∙ ap (λ (x : List ℕ). done ++ x ∷ fs) (sym name_is) ∙ sym (append_assoc done (name ∷ []) fs) ∙ ap (λ (l : List (List ℕ)). l ++ fs) (sym is);
          fit = All-tail (λ name. length name < 65536) f fs fit;
          text = behind ∙ ap (λ m. drop m (behind_two rest)) at ∙ ap (λ (l : List ℕ). drop (length f) l) there ∙ drop-append_seam f (families_text fs);
        }

pub families_end : (done : List (List ℕ)) (rest : List ℕ) (all : List (List ℕ)) → FamiliesLeft done rest all → length rest < 2 → done ≡ all
families_end done rest all k lt = by k.others k.parts k.text
  where
    by : (others : List (List ℕ)) → all ≡ done ++ others → rest ≡ families_text others → done ≡ all
    by [] parts text = sym (parts ∙ append-nil done)
    by (f ∷ fs) parts text = too_few rest (f ++ families_text fs) (length f) text lt
