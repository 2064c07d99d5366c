-- What is found at a place of a file.
use Rattle.std.proofs.Common.{◌≡◌, ◌∙◌, ◌<◌, ◌≤◌, ◌⊎◌, ◌||◌, ◌&&◌, leb, inl, inr, ℕ, suc, ◌+◌, Bool, true, false, cond, ltb, eqb, List, [], ◌∷◌, ◌++◌, length, take, drop, get_or, Some, None, refl, sym, ap, append_assoc, arith}
use Rattle.std.specs.Prelude.{bytes_eq, slice_index}
use Rattle.std.proofs.lemmas.Bool.{ltb-false}
use Rattle.std.proofs.lemmas.List.{length-append, length-drop, length-take, drop-drop, drop_all, drop_more, map-append, append-nil}
use Rattle.byteorder.specs.Endian.{big_number}
use Rattle.records.specs.Records.{Entry, sum_of, spelling, size, spelled, view, views, stamp_of, tested, unsealed, front_at, is_first, recovered, has_first}
use Rattle.records.specs.declared.record.Record.{Record}
use Rattle.records.proofs.Recovered.{recovered_some, recovered_none, spelled_append, length-spelling}

-- which way a test went
pub chosen : {A : Type 0} (b : Bool) (x y z : A) → cond b x y ≡ z → ((b ≡ true) × (x ≡ z)) ⊎ ((b ≡ false) × (y ≡ z))
chosen true x y z e = inl (refl, e)
chosen false x y z e = inr (refl, e)

tested_is : (secret place mark : ℕ) (sum body : List ℕ) (e : Entry) → tested secret place mark sum body ≡ Some e → e.body ≡ body
unfolding tested
tested_is secret place mark sum body e h =
    elim (chosen (bytes_eq sum (sum_of secret place mark body) && leb mark 1) (Some (record { first = eqb mark 1; body = body })) None (Some e) h) [
      | inl right ↦ let made : Entry = record { first = eqb mark 1; body = body } in let same : Some made ≡ Some e = right.1 in let is : made ≡ e = cc in sym (ap (λ (x : Entry). x.body) is)
      | inr wrong ↦ let bad : None ≡ Some e = wrong.1 in absurd cc
    ]

-- a text that is found lies within the bytes
unsealed_within : (secret place : ℕ) (bytes : List ℕ) (e : Entry) → unsealed secret place bytes ≡ Some e → 13 + length e.body ≤ length bytes
unfolding unsealed
unsealed_within secret place bytes e h =
    let n = big_number 4 (drop 9 bytes) in
    elim (chosen (ltb (length bytes) 13) None _ (Some e) h) [
      | inl short ↦ let bad : None ≡ Some e = short.1 in absurd cc
      | inr long ↦ elim (chosen (ltb (length bytes) (13 + n)) None _ (Some e) long.1) [
        | inl part ↦ let bad : None ≡ Some e = part.1 in absurd cc
        | inr all ↦
            let is = tested_is secret place (slice_index bytes 8) (take 8 bytes) (take n (drop 13 bytes)) e all.1 in
            let enough : 13 + n ≤ length bytes = ltb-false _ _ all.0 in
            omega (arith, enough, ap length is, length-take n (drop 13 bytes), length-drop 13 bytes)
      ]
    ]

-- a record that is found lies within the bytes
pub front_within : (secret place : ℕ) (bytes : List ℕ) (e : Entry) → front_at secret place bytes ≡ Some e → size e ≤ length bytes
unfolding front_at
front_within secret place bytes e h =
    elim (chosen (ltb (length bytes) 21) None _ (Some e) h) [
      | inl short ↦ let bad : None ≡ Some e = short.1 in absurd cc
      | inr long ↦ elim (chosen (bytes_eq (take 8 bytes) (stamp_of secret place (eqb (slice_index bytes 16) 1))) _ None (Some e) long.1) [
        | inl stamped ↦ omega (arith, unsealed_within secret place (drop 8 bytes) e stamped.1, ltb-false _ _ long.0, length-drop 8 bytes)
        | inr other ↦ let bad : None ≡ Some e = other.1 in absurd cc
      ]
    ]

-- ## Steps of loops

pub has_more : (secret at : ℕ) (bytes : List ℕ) → at < length bytes → has_first secret at (drop at bytes) ≡ (is_first secret at (drop at bytes) || has_first secret (at + 1) (drop (at + 1) bytes))
unfolding has_first
has_more secret at bytes lt =
    let is = drop_more bytes at 0 lt in
    let b = get_or bytes at 0 in
    let rest = drop (at + 1) bytes in
    let next : suc at ≡ at + 1 = omega arith in
    ap (has_first secret at) is
    ∙ ap (λ (p : ℕ). is_first secret at (b ∷ rest) || has_first secret p rest) next
    ∙ ap (λ (t : List ℕ). is_first secret at t || has_first secret (at + 1) rest) (sym is)

pub has_none : (secret at : ℕ) (bytes : List ℕ) → length bytes ≤ at → has_first secret at (drop at bytes) ≡ false
unfolding has_first
has_none secret at bytes le = ap (has_first secret at) (drop_all at bytes le)

-- one more record is read
pub record Reads (secret : ℕ) (bytes : List ℕ) (records : List Record) (at : ℕ) : Type 0 where
  pub found : views records ++ recovered secret at 0 (drop at bytes) ≡ recovered secret 0 0 bytes
  pub end : at ≡ length (spelled secret 0 (views records))
  pub within : at ≤ length bytes

pub reads_on : (secret : ℕ) (bytes : List ℕ) (records : List Record) (at : ℕ) (r : Record) (n : ℕ) → Reads secret bytes records at → front_at secret at (drop at bytes) ≡ Some (view r) → n ≡ size (view r)
    → Reads secret bytes (records ++ r ∷ []) (at + n)
reads_on secret bytes records at r n so_far h is =
    let within = front_within secret at (drop at bytes) (view r) h in
    let so = so_far.within in
    let moved : at + size (view r) ≡ at + n = omega (arith, is) in
    let all : views (records ++ r ∷ []) ≡ views records ++ view r ∷ [] = map-append view records (r ∷ []) in
    let step : recovered secret at 0 (drop at bytes) ≡ view r ∷ recovered secret (at + n) 0 (drop (at + n) bytes) =
    recovered_some secret at (drop at bytes) (view r) h
    ∙ ap (λ (t : List ℕ). view r ∷ recovered secret (at + size (view r)) 0 t) (drop-drop (size (view r)) at bytes)
    ∙ ap (λ (p : ℕ). view r ∷ recovered secret p 0 (drop p bytes)) moved in
    let one = length-spelling secret (0 + length (spelled secret 0 (views records))) (view r) in
    let text = spelled_append secret 0 (views records) (view r ∷ []) in
    record {
      found = ap (λ (l : List Entry). l ++ recovered secret (at + n) 0 (drop (at + n) bytes)) all ∙ append_assoc (views records) (view r ∷ []) (recovered secret (at + n) 0 (drop (at + n) bytes)) ∙ ap (λ (l : List Entry). views records ++ l) (sym step) ∙ so_far.found;
      end =
          let end = so_far.end in
          let whole : length (spelled secret 0 (views (records ++ r ∷ []))) ≡ length (spelled secret 0 (views records)) + size (view r) =
          ap (λ (l : List Entry). length (spelled secret 0 l)) all ∙ ap length text ∙ omega (arith, one, length-append (spelled secret 0 (views records)) (spelling secret (0 + length (spelled secret 0 (views records))) (view r) ++ []), length-append (spelling secret (0 + length (spelled secret 0 (views records))) (view r)) []) in
          omega (arith, end, whole, is);
      within = omega (arith, within, so, is, length-drop at bytes);
    }

pub reads_end : (secret : ℕ) (bytes : List ℕ) (records : List Record) (at : ℕ) → Reads secret bytes records at → front_at secret at (drop at bytes) ≡ None → views records ≡ recovered secret 0 0 bytes
reads_end secret bytes records at so_far h =
    sym (append-nil (views records)) ∙ ap (λ (l : List Entry). views records ++ l) (sym (recovered_none secret at (drop at bytes) h)) ∙ so_far.found
