-- A whole frame in front of a stream.
use Rattle.std.proofs.Common.{◌≡◌, ℕ, ◌+◌, ◌-◌, ◌≤◌, true, ltb, List, [], ◌∷◌, ◌++◌, length, take, drop, Result, Ok, Err, refl, sym, ap, subst, ◌∙◌, append_assoc, arith, inl, inr}
use Rattle.std.specs.List.{flat_map, list_all}
use Rattle.std.proofs.lemmas.Grind.{flat_map-append}
use Rattle.std.proofs.lemmas.Bool.{ltb-false, le-leb, and_from}
use Rattle.std.proofs.lemmas.List.{append-nil, take-append-drop, length-take, length-drop, drop-drop, take-append-le, take_all}
use Rattle.std.proofs.lemmas.List.Folds.{list_all-append}
use Rattle.byteorder.specs.Endian.{big_number, big_bytes}
use Rattle.logical_time.specs.declared.fault.Fault.{Fault}
use Rattle.logical_time.specs.declared.fault.Fault.TheVariants.{Oversize}
use Rattle.messages.specs.declared.op.Op.{Op}
use Rattle.wire.specs.Fields.{longest, frame}
use Rattle.wire.specs.Requests.{request, is_spelled}
use Rattle.wire.specs.Reading.{body_at}
use Rattle.wire.specs.Frames.{waits, faulty, whole, front_with, front_of, frames}
use Rattle.wire.specs.Seen.{seen}
use Rattle.wire.specs.declared.front.Front as front
use Rattle.wire.specs.declared.front.Front.TheVariants as code
use Rattle.wire.proofs.Steps.{IsBytes, IsBytes-take, IsBytes-drop, IsBody, chosen}
use Rattle.wire.proofs.FieldsTaken.{wide4, number_front}
use Rattle.wire.proofs.RequestsTaken.{body_takes}

-- the frame of a request stands in front, so many bytes long
pub record IsWhole (bytes : List ℕ) (op : Op) (used : ℕ) : Type 0 where
  pub parts : bytes ≡ frame (request op) ++ drop used bytes
  pub some : 4 ≤ used
  pub within : used ≤ length bytes
  pub spelled : is_spelled op ≡ true

front_with_whole : (used : ℕ) (r : Result Op Fault) (op : Op) (n : ℕ) → front_with used r ≡ whole op n → (r ≡ Ok op) × (used ≡ n)
front_with_whole used (Ok x) op n e = (cc, cc)
front_with_whole used (Err f) op n e = absurd cc

pub front_whole : (bytes : List ℕ) (op : Op) (used : ℕ) → IsBytes bytes → front_of bytes ≡ whole op used → IsWhole bytes op used
unfolding front_of
front_whole bytes op used fits e =
    let n = big_number 4 bytes in
    elim (chosen (ltb (length bytes) 4) _ _ _ e) [
      | inl short ↦ let bad : waits ≡ whole op used = short.1 in absurd cc
      | inr long ↦ elim (chosen (ltb longest n) _ _ _ long.1) [
        | inl large ↦ let bad : faulty Oversize ≡ whole op used = large.1 in absurd cc
        | inr fine ↦ elim (chosen (ltb (length bytes) (4 + n)) _ _ _ fine.1) [
          | inl part ↦ let bad : waits ≡ whole op used = part.1 in absurd cc
          | inr all ↦
              let four : 4 ≤ length bytes = ltb-false _ _ long.0 in
              let most : n ≤ longest = ltb-false _ _ fine.0 in
              let enough : 4 + n ≤ length bytes = ltb-false _ _ all.0 in
              let got = front_with_whole (4 + n) (body_at (take n (drop 4 bytes))) op used all.1 in
              let tk = take n (drop 4 bytes) in
              let len : length tk ≡ n = omega (arith, length-take n (drop 4 bytes), length-drop 4 bytes) in
              let tail : IsBytes (drop 4 bytes) = IsBytes-drop 4 bytes fits in
              let inside : IsBody tk = record { small = IsBytes-take n (drop 4 bytes) tail; short = rw len most } in
              let is_body = body_takes tk op inside got.0 in
              let both : bytes ≡ (big_bytes 4 n ++ tk) ++ drop n (drop 4 bytes) =
              number_front 4 wide4 bytes fits four ∙ ap (λ (r : List ℕ). big_bytes 4 n ++ r) (sym (take-append-drop n (drop 4 bytes))) ∙ sym (append_assoc (big_bytes 4 n) tk (drop n (drop 4 bytes))) in
              let after : drop n (drop 4 bytes) ≡ drop used bytes = drop-drop n 4 bytes ∙ ap (λ (k : ℕ). drop k bytes) got.1 in
              let q : bytes ≡ (big_bytes 4 n ++ tk) ++ drop used bytes = both ∙ ap (λ (r : List ℕ). (big_bytes 4 n ++ tk) ++ r) after in
              let q' : bytes ≡ frame tk ++ drop used bytes = subst (λ (k : ℕ). bytes ≡ (big_bytes 4 k ++ tk) ++ drop used bytes) (sym len) q in
              let size : length (request op) ≤ longest = subst (λ (t : List ℕ). length t ≤ longest) is_body.0 (rw len most) in
              record {
                parts = subst (λ (t : List ℕ). bytes ≡ frame t ++ drop used bytes) is_body.0 q';
                some = omega (arith, got.1);
                within = omega (arith, got.1, enough);
                spelled = and_from _ _ is_body.1 (le-leb _ _ size);
              }
        ]
      ]
    ]

-- the text with one more request read off it
pub pushed : (held : List Op) (at used : ℕ) (bytes total : List ℕ) (op : Op) → IsWhole (drop at bytes) op used → frames held ++ drop at bytes ≡ total
    → frames (held ++ op ∷ []) ++ drop (at + used) bytes ≡ total
pushed held at used bytes total op w so_far =
    let spell : Op → List ℕ = λ o. frame (request o) in
    let one : flat_map spell (held ++ op ∷ []) ≡ flat_map spell held ++ spell op = flat_map-append spell held (op ∷ []) ∙ ap (λ (t : List ℕ). flat_map spell held ++ t) (append-nil (spell op)) in
    let rest : drop used (drop at bytes) ≡ drop (at + used) bytes = drop-drop used at bytes in
    rw one (append_assoc (flat_map spell held) (spell op) (drop (at + used) bytes) ∙ ap (λ (t : List ℕ). flat_map spell held ++ t) (ap (λ (r : List ℕ). spell op ++ r) (sym rest) ∙ sym w.parts) ∙ so_far)

pub spelled_more : (held : List Op) (op : Op) → list_all is_spelled held ≡ true → is_spelled op ≡ true → list_all is_spelled (held ++ op ∷ []) ≡ true
spelled_more held op all one = list_all-append is_spelled held (op ∷ []) ∙ and_from _ _ all (and_from _ _ one refl)

pub kept_more : {A : Type 0} (old held : List A) (x : A) → take (length old) held ≡ old → take (length old) (held ++ x ∷ []) ≡ old
kept_more old held x h =
    let same : length (take (length old) held) ≡ length old = ap length h in
    let le : length old ≤ length held = omega (arith, length-take (length old) held) in
    take-append-le (length old) held (x ∷ []) le ∙ h

-- what is found from a place on
pub whole_at : (bytes : List ℕ) (at used : ℕ) (op : Op) (f : front.Front) → IsBytes bytes → seen f ≡ front_of (take (length bytes - at) (drop at bytes)) → f ≡ code.Whole op used → IsWhole (drop at bytes) op used
whole_at bytes at used op f fits e is =
    let all : take (length bytes - at) (drop at bytes) ≡ drop at bytes = take_all _ _ (omega (arith, length-drop at bytes)) in
    let found : front_of (drop at bytes) ≡ whole op used = sym (rw (is, all) at e) in
    front_whole (drop at bytes) op used (IsBytes-drop at bytes fits) found
