-- Bytes are the records that they stand for, and a rest.
use Rattle.std.proofs.Common.{◌≡◌, ◌∙◌, ◌<◌, ◌≤◌, ◌&&◌, inl, inr, ℕ, zero, suc, ◌+◌, ◌-◌, Bool, true, false, ltb, leb, eqb, List, [], ◌∷◌, ◌++◌, length, take, drop, get_or, Some, None, refl, sym, ap, subst, append_assoc, arith}
use Rattle.std.specs.Prelude.{bytes_eq, slice_index}
use Rattle.std.proofs.lemmas.Bool.{ltb-false, and_parts, leb-true, cases_lt}
use Rattle.std.proofs.lemmas.Slice.Eq.{bytes_eq-Decides}
use Rattle.std.proofs.lemmas.List.{length-append, length-drop, length-take, take_at, drop_at, drop-drop, take-append-drop, append-nil, drop_more, get_or-drop, get_or-take, get_or_past}
use Rattle.std.proofs.lemmas.Nat.{be_bytes_4}
use Rattle.byteorder.specs.Endian.{big_bytes, big_number}
use Rattle.byteorder.specs.Numbers.{big_from-take, big_from-lt}
use Rattle.records.specs.Records.{Entry, flag, sum_of, stamp_of, sealed, spelling, size, spelled, Fits, AllFit, tested, unsealed, front_at, recovered}
use Rattle.records.proofs.Recovered.{length-spelling, front_again, recovered_none, recovered_some, recovered_spelled, found}
use Rattle.records.proofs.Found.{chosen, front_within}

-- numbers that are bytes
abbrev pub IsBytes : List ℕ → Type 0
IsBytes bytes = (i : ℕ) → get_or bytes i 0 < 256

pub IsBytes-drop : (n : ℕ) (bytes : List ℕ) → IsBytes bytes → IsBytes (drop n bytes)
IsBytes-drop n bytes h i = rw get_or-drop (h (n + i))

pub IsBytes-take : (n : ℕ) (bytes : List ℕ) → IsBytes bytes → IsBytes (take n bytes)
IsBytes-take n bytes h i =
    elim (cases_lt i n) [
      | inl lt ↦ rw (get_or-take n bytes i 0 lt) (h i)
      | inr le ↦ rw (get_or_past (take n bytes) i 0 (omega (arith, length-take n bytes))) (omega arith)
    ]

-- the first four bytes are those of the number that they are read as
number_front : (bytes : List ℕ) → IsBytes bytes → 4 ≤ length bytes → bytes ≡ big_bytes 4 (big_number 4 bytes) ++ drop 4 bytes
number_front bytes fits long =
    let same : big_number 4 bytes ≡ big_number 4 (take 4 bytes) = sym (big_from-take 0 4 4 bytes (omega arith)) in
    let front : big_bytes 4 (big_number 4 (take 4 bytes)) ≡ take 4 bytes = be_bytes_4 (take 4 bytes) (big_number 4 (take 4 bytes)) (omega (arith, length-take 4 bytes)) (IsBytes-take 4 bytes fits) (omega arith) in
    sym (ap (λ (n : ℕ). big_bytes 4 n ++ drop 4 bytes) same ∙ ap (λ (t : List ℕ). t ++ drop 4 bytes) front ∙ take-append-drop 4 bytes)

-- what a record that passes its test says of its sum and its mark
record Passes (secret place mark : ℕ) (sum body : List ℕ) (e : Entry) : Type 0 where
  sum_is : sum ≡ sum_of secret place mark body
  mark_is : mark ≡ flag e.first
  body_is : body ≡ e.body

flag_is : (mark : ℕ) → mark ≤ 1 → mark ≡ flag (eqb mark 1)
flag_is zero le = refl
flag_is (suc zero) le = refl
flag_is (suc (suc mark)) le = absurd (omega arith)

passes : (secret place mark : ℕ) (sum body : List ℕ) (e : Entry) → tested secret place mark sum body ≡ Some e → Passes secret place mark sum body e
unfolding tested
passes secret place mark sum body e h =
    elim (chosen (bytes_eq sum (sum_of secret place mark body) && leb mark 1) (Some (record { first = eqb mark 1; body = body })) None (Some e) h) [
      | inl right ↦
          let both = and_parts (bytes_eq sum (sum_of secret place mark body)) (leb mark 1) right.0 in
          let made : Entry = record { first = eqb mark 1; body = body } in
          let same : Some made ≡ Some e = right.1 in
          let is : made ≡ e = cc in
          record {
            sum_is = (bytes_eq-Decides sum (sum_of secret place mark body)).0 both.0;
            mark_is = flag_is mark (leb-true _ _ both.1) ∙ ap (λ (x : Entry). flag x.first) is;
            body_is = ap (λ (x : Entry). x.body) is;
          }
      | inr wrong ↦ let bad : None ≡ Some e = wrong.1 in absurd cc
    ]

-- a text that stands first, sealed
record IsSealed (secret place : ℕ) (bytes : List ℕ) (e : Entry) : Type 0 where
  whole : bytes ≡ sealed secret place e ++ drop (13 + length e.body) bytes
  mark_is : slice_index bytes 8 ≡ flag e.first
  fits : Fits e

unsealed_spells : (secret place : ℕ) (bytes : List ℕ) (e : Entry) → IsBytes bytes → unsealed secret place bytes ≡ Some e → IsSealed secret place bytes e
unfolding unsealed
unsealed_spells secret place bytes e small h =
    let n = big_number 4 (drop 9 bytes) in
    elim (chosen (ltb (length bytes) 13) None _ (Some e) h) [
      | inl short ↦ let bad : None ≡ Some e = short.1 in absurd cc
      | inr long ↦ elim (chosen (ltb (length bytes) (13 + n)) None _ (Some e) long.1) [
        | inl part ↦ let bad : None ≡ Some e = part.1 in absurd cc
        | inr all ↦
            let enough : 13 + n ≤ length bytes = ltb-false _ _ all.0 in
            let mark = slice_index bytes 8 in
            let text = take n (drop 13 bytes) in
            let p = passes secret place mark (take 8 bytes) text e all.1 in
            let len : length text ≡ n = omega (arith, enough, length-take n (drop 13 bytes), length-drop 13 bytes) in
            let tail : IsBytes (drop 9 bytes) = IsBytes-drop 9 bytes small in
            let four : 4 ≤ length (drop 9 bytes) = omega (arith, enough, length-drop 9 bytes) in
            let number = number_front (drop 9 bytes) tail four in
            let rest : drop 4 (drop 9 bytes) ≡ text ++ drop (13 + n) bytes =
            drop-drop 4 9 bytes ∙ sym (take-append-drop n (drop 13 bytes)) ∙ ap (λ (t : List ℕ). text ++ t) (drop-drop n 13 bytes) in
            let behind : drop 9 bytes ≡ big_bytes 4 (length text) ++ (text ++ drop (13 + n) bytes) =
            number ∙ ap (λ (t : List ℕ). big_bytes 4 n ++ t) rest ∙ ap (λ (k : ℕ). big_bytes 4 k ++ (text ++ drop (13 + n) bytes)) (sym len) in
            let marked : drop 8 bytes ≡ mark ∷ drop 9 bytes = drop_more bytes 8 0 (omega (arith, enough)) in
            let parts : bytes ≡ take 8 bytes ++ (mark ∷ (big_bytes 4 (length text) ++ (text ++ drop (13 + n) bytes))) =
            sym (take-append-drop 8 bytes) ∙ ap (λ (t : List ℕ). take 8 bytes ++ t) marked ∙ ap (λ (t : List ℕ). take 8 bytes ++ (mark ∷ t)) behind in
            let summed : bytes ≡ sum_of secret place mark text ++ (mark ∷ (big_bytes 4 (length text) ++ (text ++ drop (13 + n) bytes))) =
            parts ∙ ap (λ (t : List ℕ). t ++ (mark ∷ (big_bytes 4 (length text) ++ (text ++ drop (13 + n) bytes)))) p.sum_is in
            let flagged : bytes ≡ sum_of secret place (flag e.first) text ++ (flag e.first ∷ (big_bytes 4 (length text) ++ (text ++ drop (13 + n) bytes))) =
            subst (λ (m : ℕ). bytes ≡ sum_of secret place m text ++ (m ∷ (big_bytes 4 (length text) ++ (text ++ drop (13 + n) bytes)))) p.mark_is summed in
            let texted : bytes ≡ sum_of secret place (flag e.first) e.body ++ (flag e.first ∷ (big_bytes 4 (length e.body) ++ (e.body ++ drop (13 + n) bytes))) =
            subst (λ (t : List ℕ). bytes ≡ sum_of secret place (flag e.first) t ++ (flag e.first ∷ (big_bytes 4 (length t) ++ (t ++ drop (13 + n) bytes)))) p.body_is flagged in
            let as_long : 13 + n ≡ 13 + length e.body = omega (arith, ap length p.body_is, len) in
            let grouped : sum_of secret place (flag e.first) e.body ++ (flag e.first ∷ (big_bytes 4 (length e.body) ++ (e.body ++ drop (13 + n) bytes))) ≡ sealed secret place e ++ drop (13 + n) bytes =
            ap (λ (t : List ℕ). sum_of secret place (flag e.first) e.body ++ (flag e.first ∷ t)) (sym (append_assoc (big_bytes 4 (length e.body)) e.body (drop (13 + n) bytes)))
            ∙ sym (append_assoc (sum_of secret place (flag e.first) e.body) (flag e.first ∷ (big_bytes 4 (length e.body) ++ e.body)) (drop (13 + n) bytes)) in
            record {
              whole = texted ∙ grouped ∙ ap (λ (k : ℕ). sealed secret place e ++ drop k bytes) as_long;
              mark_is = p.mark_is;
              fits = let lt = big_from-lt 0 4 (drop 9 bytes) tail in omega (arith, lt, ap length p.body_is, len);
            }
      ]
    ]

-- a record that stands first
pub record IsFront (secret place : ℕ) (bytes : List ℕ) (e : Entry) : Type 0 where
  pub whole : bytes ≡ spelling secret place e ++ drop (size e) bytes
  pub fits : Fits e

first_of : (first : Bool) → eqb (flag first) 1 ≡ first
first_of true = refl
first_of false = refl

pub front_spells : (secret place : ℕ) (bytes : List ℕ) (e : Entry) → IsBytes bytes → front_at secret place bytes ≡ Some e → IsFront secret place bytes e
unfolding front_at
front_spells secret place bytes e small h =
    let mark = slice_index bytes 16 in
    elim (chosen (ltb (length bytes) 21) None _ (Some e) h) [
      | inl short ↦ let bad : None ≡ Some e = short.1 in absurd cc
      | inr long ↦ elim (chosen (bytes_eq (take 8 bytes) (stamp_of secret place (eqb mark 1))) _ None (Some e) long.1) [
        | inl stamped ↦
            let s = unsealed_spells secret place (drop 8 bytes) e (IsBytes-drop 8 bytes small) stamped.1 in
            let mark_is : mark ≡ flag e.first = sym (get_or-drop 8 bytes 8 0) ∙ s.mark_is in
            let first : eqb mark 1 ≡ e.first = ap (λ (m : ℕ). eqb m 1) mark_is ∙ first_of e.first in
            let stamp : take 8 bytes ≡ stamp_of secret place e.first =
            (bytes_eq-Decides (take 8 bytes) (stamp_of secret place (eqb mark 1))).0 stamped.0 ∙ ap (stamp_of secret place) first in
            let long_is : 8 + (13 + length e.body) ≡ size e = omega arith in
            record {
              whole =
                  sym (take-append-drop 8 bytes)
                  ∙ ap (λ (t : List ℕ). t ++ drop 8 bytes) stamp
                  ∙ ap (λ (t : List ℕ). stamp_of secret place e.first ++ t) s.whole
                  ∙ sym (append_assoc (stamp_of secret place e.first) (sealed secret place e) (drop (13 + length e.body) (drop 8 bytes)))
                  ∙ ap (λ (t : List ℕ). spelling secret place e ++ t) (drop-drop (13 + length e.body) 8 bytes)
                  ∙ ap (λ (n : ℕ). spelling secret place e ++ drop n bytes) long_is;
              fits = s.fits;
            }
        | inr other ↦ let bad : None ≡ Some e = other.1 in absurd cc
      ]
    ]

-- ## Many

-- bytes are these records, and a rest where none stands first
pub record AreParts (secret place : ℕ) (bytes : List ℕ) (es : List Entry) : Type 0 where
  pub rest : List ℕ
  pub split : bytes ≡ spelled secret place es ++ rest
  pub none : front_at secret (place + length (spelled secret place es)) rest ≡ None
  pub fit : AllFit es

parts_none : (secret place : ℕ) (bytes : List ℕ) → front_at secret place bytes ≡ None → AreParts secret place bytes []
parts_none secret place bytes none = record {
  rest = bytes;
  split = refl;
  none = ap (λ (p : ℕ). front_at secret p bytes) (omega arith) ∙ none;
  fit = tt;
}

parts_some : (secret place : ℕ) (bytes : List ℕ) (e : Entry) (es : List Entry) → IsFront secret place bytes e → AreParts secret (place + size e) (drop (size e) bytes) es → AreParts secret place bytes (e ∷ es)
parts_some secret place bytes e es f p =
    let long = length-spelling secret place e in
    let behind = spelled secret (place + size e) es in
    let total : place + size e + length behind ≡ place + length (spelling secret place e ++ behind) = omega (arith, long, length-append (spelling secret place e) behind) in
    record {
      rest = p.rest;
      split = f.whole ∙ ap (λ (t : List ℕ). spelling secret place e ++ t) p.split ∙ sym (append_assoc (spelling secret place e) behind p.rest);
      none = ap (λ (q : ℕ). front_at secret q p.rest) (sym total) ∙ p.none;
      fit = (f.fits, p.fit);
    }

parts_by : (secret n place : ℕ) (bytes : List ℕ) → length bytes ≤ n → IsBytes bytes → AreParts secret place bytes (recovered secret place 0 bytes)
parts_by secret zero place bytes le small =
    elim (found (front_at secret place bytes)) [
      | inl none ↦ subst (AreParts secret place bytes) (sym (recovered_none secret place bytes none)) (parts_none secret place bytes none)
      | inr some ↦ absurd (omega (arith, front_within secret place bytes some.0 some.1))
    ]
parts_by secret (suc n) place bytes le small =
    elim (found (front_at secret place bytes)) [
      | inl none ↦ subst (AreParts secret place bytes) (sym (recovered_none secret place bytes none)) (parts_none secret place bytes none)
      | inr some ↦
          let e = some.0 in
          let within = front_within secret place bytes e some.1 in
          let more = parts_by secret n (place + size e) (drop (size e) bytes) (omega (arith, within, length-drop (size e) bytes)) (IsBytes-drop (size e) bytes small) in
          subst (AreParts secret place bytes) (sym (recovered_some secret place bytes e some.1)) (parts_some secret place bytes e (recovered secret (place + size e) 0 (drop (size e) bytes)) (front_spells secret place bytes e small some.1) more)
    ]

-- a file is the records that it stands for, and a rest
pub parts : (secret place : ℕ) (bytes : List ℕ) → IsBytes bytes → AreParts secret place bytes (recovered secret place 0 bytes)
parts secret place bytes small = parts_by secret (length bytes) place bytes (omega arith) small

-- ## Cuts

-- where none stands first, none stands first in a part
shorter_none : (secret place j : ℕ) (rest : List ℕ) → IsBytes rest → front_at secret place rest ≡ None → front_at secret place (take j rest) ≡ None
shorter_none secret place j rest small none =
    elim (found (front_at secret place (take j rest))) [
      | inl still ↦ still
      | inr some ↦
          let e = some.0 in
          let f = front_spells secret place (take j rest) e (IsBytes-take j rest small) some.1 in
          let back = drop (size e) (take j rest) ++ drop j rest in
          let whole : rest ≡ spelling secret place e ++ back =
          sym (take-append-drop j rest) ∙ ap (λ (t : List ℕ). t ++ drop j rest) f.whole ∙ append_assoc (spelling secret place e) (drop (size e) (take j rest)) (drop j rest) in
          let bad : Some e ≡ None = sym (ap (front_at secret place) whole ∙ front_again secret place e back f.fits) ∙ none in
          absurd cc
    ]

take_past : (xs ys : List ℕ) (m n : ℕ) → m ≡ length xs + n → take m (xs ++ ys) ≡ xs ++ take n ys
take_past [] ys m n is = let same : m ≡ n = omega arith in ap (λ (k : ℕ). take k ys) same
take_past (x ∷ xs) ys zero n is = absurd (omega arith)
take_past (x ∷ xs) ys (suc m) n is = ap (λ (l : List ℕ). x ∷ l) (take_past xs ys m n (omega arith))

-- a file that is cut behind its records stands for the same
pub cut_same : (secret k : ℕ) (bytes : List ℕ) → IsBytes bytes → length (spelled secret 0 (recovered secret 0 0 bytes)) ≤ k → recovered secret 0 0 (take k bytes) ≡ recovered secret 0 0 bytes
cut_same secret k bytes small le =
    let es = recovered secret 0 0 bytes in
    let p = parts secret 0 bytes small in
    let file = spelled secret 0 es in
    let j = k - length file in
    let rest_small : IsBytes p.rest =
    let is : p.rest ≡ drop (length file) bytes = sym (ap (drop (length file)) p.split ∙ drop_at file p.rest (length file) refl) in
    subst IsBytes (sym is) (IsBytes-drop (length file) bytes small) in
    let cut : take k bytes ≡ file ++ take j p.rest = ap (take k) p.split ∙ take_past file p.rest k j (omega (arith, le)) in
    ap (recovered secret 0 0) cut
    ∙ recovered_spelled secret 0 es (take j p.rest) p.fit
    ∙ ap (λ (l : List Entry). es ++ l) (recovered_none secret (0 + length file) (take j p.rest) (shorter_none secret (0 + length file) j p.rest rest_small p.none))
    ∙ append-nil es

pub cut_is : (secret : ℕ) (bytes : List ℕ) → IsBytes bytes → take (length (spelled secret 0 (recovered secret 0 0 bytes))) bytes ≡ spelled secret 0 (recovered secret 0 0 bytes)
cut_is secret bytes small =
    let p = parts secret 0 bytes small in
    let file = spelled secret 0 (recovered secret 0 0 bytes) in
    ap (take (length file)) p.split ∙ take_at file p.rest (length file) refl
