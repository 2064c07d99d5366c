-- Bytes that a line tells, piece after piece.
use Rattle.std.proofs.Common.{◌≡◌, ℕ, ◌+◌, ◌-◌, ◌<◌, ◌≤◌, List, [], ◌++◌, length, take, drop, false, Option, Some, None, refl, ap, sym, ◌∙◌, append_assoc, arith}
use Rattle.std.proofs.Math.Seq.{take-add}
use Rattle.std.proofs.lemmas.List.{append-nil, length-drop, take-append-drop, take-take, take_all}
use Rattle.front.specs.Lines.{LineValue, says, fails, with_more}
use Rattle.front.specs.Parts.{Wrote}

pub with_more-nil : {A : Type 0} (told : Option (List A)) → with_more [] told ≡ told
with_more-nil None = refl
with_more-nil {A = A} (Some known) = ap (λ (x : List A). Some x) (append-nil known)

pub with_more-then : {A : Type 0} (a b : List A) (told : Option (List A)) → with_more b (with_more a told) ≡ with_more (a ++ b) told
with_more-then a b None = refl
with_more-then {A = A} a b (Some known) = ap (λ (x : List A). Some x) (append_assoc known a b)

pub says-nil : (l : LineValue) → says [] l ≡ l
says-nil l = ap (λ (told : _). record l { said = told }) (with_more-nil l.said)

pub says-then : (a b : List ℕ) (l : LineValue) → says b (says a l) ≡ says (a ++ b) l
says-then a b l = ap (λ (told : _). record l { said = told }) (with_more-then a b l.said)

-- a piece is written up to here
abbrev pub IsWrittenTo : ℕ → List ℕ → LineValue → LineValue → Type 0
IsWrittenTo at piece l m = (at ≤ length piece) × (m ≡ says (take at piece) l)

pub written-none : (piece : List ℕ) (l : LineValue) → IsWrittenTo 0 piece l l
written-none piece l = (omega arith, sym (says-nil l))

pub written-more : (piece : List ℕ) (at n : ℕ) (l m k : LineValue) → IsWrittenTo at piece l m → n ≤ length piece - at → k ≡ says (take n (take (length piece - at) (drop at piece))) m → IsWrittenTo (at + n) piece l k
written-more piece at n l m k h le e =
    let more : take n (take (length piece - at) (drop at piece)) ≡ take n (drop at piece) = take-take n (length piece - at) (drop at piece) le in
    let known : k ≡ says (take n (drop at piece)) (says (take at piece) l) = e ∙ ap (λ (t : List ℕ). says t m) more ∙ ap (says (take n (drop at piece))) h.1 in
    (let g = h.0 in omega arith, known ∙ says-then (take at piece) (take n (drop at piece)) l ∙ ap (λ (t : List ℕ). says t l) (sym (take-add at n piece)))

pub written-cut : (piece : List ℕ) (at : ℕ) (l m k : LineValue) → IsWrittenTo at piece l m → at < length piece → k ≡ fails m → Wrote piece false l k
written-cut piece at l m k h lt e =
    let rest = length-drop at piece in
    (take at piece, (drop at piece, omega arith, sym (take-append-drop at piece)), e ∙ ap fails h.1)

pub written-all : (piece : List ℕ) (at : ℕ) (l m : LineValue) → IsWrittenTo at piece l m → length piece ≤ at → m ≡ says piece l
written-all piece at l m h le = h.1 ∙ ap (λ (t : List ℕ). says t l) (take_all at piece le)
