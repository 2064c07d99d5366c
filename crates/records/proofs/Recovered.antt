-- Which records bytes stand for, and what of them a crash leaves.
use Rattle.std.proofs.Common.{◌≡◌, ◌∙◌, ◌<◌, ◌^◌, ◌⊎◌, inl, inr, ℕ, zero, suc, ◌+◌, Bool, true, false, ltb, leb, eqb, List, [], ◌∷◌, ◌++◌, length, take, drop, get_or, Option, Some, None, refl, sym, ap, append_assoc, arith}
use Rattle.std.specs.Prelude.{bytes_eq, slice_index}
use Rattle.std.proofs.lemmas.Bool.{le-ltb}
use Rattle.std.proofs.lemmas.Slice.Eq.{bytes_eq-Decides}
use Rattle.std.proofs.lemmas.List.{length-append, take_at, drop_at, drop-drop, append-nil}
use Rattle.byteorder.specs.Endian.{big_bytes, big_number}
use Rattle.byteorder.specs.Numbers.{length-bytes_high_first, big_number-reads_back}
use Rattle.disk.specs.Disk.{IsBeginning}
use Rattle.records.specs.Records.{Entry, flag, hash_of, sum_of, stamp_of, sealed, spelling, size, spelled, Fits, AllFit, tested, unsealed, front_at, with_front, recovered, IsHonest}

-- ## One record

pub length-sum : (secret place mark : ℕ) (body : List ℕ) → length (sum_of secret place mark body) ≡ 8
unfolding sum_of
length-sum secret place mark body = length-bytes_high_first 8 (hash_of secret place mark body)

pub length-stamp : (secret place : ℕ) (first : Bool) → length (stamp_of secret place first) ≡ 8
unfolding stamp_of
length-stamp secret place first = length-sum secret place (2 + flag first) []

pub length-sealed : (secret place : ℕ) (e : Entry) → length (sealed secret place e) ≡ 13 + length e.body
length-sealed secret place e =
    let s = length-sum secret place (flag e.first) e.body in
    let n = length-bytes_high_first 4 (length e.body) in
    omega (arith, s, n, length-append (sum_of secret place (flag e.first) e.body) (flag e.first ∷ (big_bytes 4 (length e.body) ++ e.body)), length-append (big_bytes 4 (length e.body)) e.body)

pub length-spelling : (secret place : ℕ) (e : Entry) → length (spelling secret place e) ≡ size e
length-spelling secret place e =
    omega (arith, length-stamp secret place e.first, length-sealed secret place e, length-append (stamp_of secret place e.first) (sealed secret place e))

mark_again : (first : Bool) → (leb (flag first) 1 ≡ true) × (eqb (flag first) 1 ≡ first)
mark_again true = (refl, refl)
mark_again false = (refl, refl)

tested_again : (secret place : ℕ) (e : Entry) → tested secret place (flag e.first) (sum_of secret place (flag e.first) e.body) e.body ≡ Some e
unfolding tested
tested_again secret place e =
    let m = mark_again e.first in
    rw ((bytes_eq-Decides (sum_of secret place (flag e.first) e.body) (sum_of secret place (flag e.first) e.body)).1 refl, m.0) (ap (λ (b : Bool). Some (record { first = b; body = e.body })) m.1)

-- the bytes behind the sum and the mark
abbrev behind : Entry → List ℕ → List ℕ
behind e rest = big_bytes 4 (length e.body) ++ (e.body ++ rest)

regrouped : (secret place : ℕ) (e : Entry) (rest : List ℕ) → sealed secret place e ++ rest ≡ sum_of secret place (flag e.first) e.body ++ (flag e.first ∷ behind e rest)
regrouped secret place e rest =
    append_assoc (sum_of secret place (flag e.first) e.body) (flag e.first ∷ (big_bytes 4 (length e.body) ++ e.body)) rest
    ∙ ap (λ (t : List ℕ). sum_of secret place (flag e.first) e.body ++ (flag e.first ∷ t)) (append_assoc (big_bytes 4 (length e.body)) e.body rest)

at_end : (xs : List ℕ) (m : ℕ) (ys : List ℕ) (n : ℕ) → length xs ≡ n → get_or (xs ++ (m ∷ ys)) n 0 ≡ m
at_end [] m ys zero len = refl
at_end [] m ys (suc n) len = absurd (omega arith)
at_end (x ∷ xs) m ys zero len = absurd (omega arith)
at_end (x ∷ xs) m ys (suc n) len = at_end xs m ys n (omega arith)

-- a sum, a mark, a length and a text
fronts : (secret place mark : ℕ) (sum body rest : List ℕ) → length sum ≡ 8 → length body < 256 ^ 4
    → unsealed secret place (sum ++ (mark ∷ (big_bytes 4 (length body) ++ (body ++ rest)))) ≡ tested secret place mark sum body
unfolding unsealed
fronts secret place mark sum body rest eight fits =
    let four : length (big_bytes 4 (length body)) ≡ 4 = length-bytes_high_first 4 (length body) in
    let tail = big_bytes 4 (length body) ++ (body ++ rest) in
    let all = sum ++ (mark ∷ tail) in
    let size : length all ≡ 13 + (length body + length rest) =
    omega (arith, eight, four, length-append sum (mark ∷ tail), length-append (big_bytes 4 (length body)) (body ++ rest), length-append body rest) in
    let ninth : drop 9 all ≡ tail = ap (λ (t : List ℕ). drop 9 t) (sym (append_assoc sum (mark ∷ []) tail)) ∙ drop_at (sum ++ mark ∷ []) tail 9 (omega (arith, eight, length-append sum (mark ∷ []))) in
    let number : big_number 4 (drop 9 all) ≡ length body = ap (big_number 4) ninth ∙ big_number-reads_back 4 (length body) (body ++ rest) fits in
    let thirteenth : drop 13 all ≡ body ++ rest = sym (drop-drop 4 9 all) ∙ ap (drop 4) ninth ∙ drop_at (big_bytes 4 (length body)) (body ++ rest) 4 four in
    let eighth : slice_index all 8 ≡ mark = at_end sum mark tail 8 eight in
    let front : take 8 all ≡ sum = take_at sum (mark ∷ tail) 8 eight in
    let text : take (length body) (drop 13 all) ≡ body = ap (take (length body)) thirteenth ∙ take_at body rest (length body) refl in
    let one : ltb (length all) 13 ≡ false = le-ltb (length all) 13 (omega (arith, size)) in
    let two : ltb (length all) (13 + length body) ≡ false = le-ltb (length all) (13 + length body) (omega (arith, size)) in
    rw (one, number, two, eighth, front, text) refl

-- a text that is sealed is read again
unsealed_again : (secret place : ℕ) (e : Entry) (rest : List ℕ) → Fits e → unsealed secret place (sealed secret place e ++ rest) ≡ Some e
unsealed_again secret place e rest fits =
    ap (unsealed secret place) (regrouped secret place e rest)
    ∙ fronts secret place (flag e.first) (sum_of secret place (flag e.first) e.body) e.body rest (length-sum secret place (flag e.first) e.body) fits
    ∙ tested_again secret place e

-- the mark behind a stamp
mark_behind : (secret place : ℕ) (e : Entry) (rest : List ℕ) → slice_index (stamp_of secret place e.first ++ (sealed secret place e ++ rest)) 16 ≡ flag e.first
mark_behind secret place e rest =
    let stamp = stamp_of secret place e.first in
    let sum = sum_of secret place (flag e.first) e.body in
    ap (λ (t : List ℕ). slice_index (stamp ++ t) 16) (regrouped secret place e rest)
    ∙ ap (λ (t : List ℕ). slice_index t 16) (sym (append_assoc stamp sum (flag e.first ∷ behind e rest)))
    ∙ at_end (stamp ++ sum) (flag e.first) (behind e rest) 16 (omega (arith, length-append stamp sum, length-stamp secret place e.first, length-sum secret place (flag e.first) e.body))

-- a record that is spelled is read again
pub front_again : (secret place : ℕ) (e : Entry) (rest : List ℕ) → Fits e → front_at secret place (spelling secret place e ++ rest) ≡ Some e
unfolding front_at
front_again secret place e rest fits =
    let stamp = stamp_of secret place e.first in
    let text = sealed secret place e ++ rest in
    let all = stamp ++ text in
    let eight : length stamp ≡ 8 = length-stamp secret place e.first in
    let grouped : spelling secret place e ++ rest ≡ all = append_assoc stamp (sealed secret place e) rest in
    let long : ltb (length all) 21 ≡ false = le-ltb (length all) 21 (omega (arith, eight, length-append stamp text, length-append (sealed secret place e) rest, length-sealed secret place e)) in
    let first : take 8 all ≡ stamp = take_at stamp text 8 eight in
    let mark : slice_index all 16 ≡ flag e.first = mark_behind secret place e rest in
    let rest_is : drop 8 all ≡ text = drop_at stamp text 8 eight in
    let same : bytes_eq stamp stamp ≡ true = (bytes_eq-Decides stamp stamp).1 refl in
    rw grouped (rw (long, first, mark, (mark_again e.first).1, same, rest_is) (unsealed_again secret place e rest fits))

-- ## Many

pub skipped : (secret place k : ℕ) (bytes : List ℕ) → recovered secret place k bytes ≡ recovered secret (place + k) 0 (drop k bytes)
unfolding recovered
skipped secret place zero bytes = ap (λ (p : ℕ). recovered secret p 0 bytes) (omega arith)
skipped secret place (suc k) [] = refl
skipped secret place (suc k) (b ∷ bytes) = skipped secret (suc place) k bytes ∙ ap (λ (p : ℕ). recovered secret p 0 (drop k bytes)) (omega arith)

none_in_nothing : (secret place : ℕ) → front_at secret place [] ≡ None
unfolding front_at
none_in_nothing secret place = refl

pub recovered_none : (secret place : ℕ) (bytes : List ℕ) → front_at secret place bytes ≡ None → recovered secret place 0 bytes ≡ []
unfolding recovered with_front
recovered_none secret place [] e = refl
recovered_none secret place (b ∷ bytes) e = rw e refl

pub recovered_some : (secret place : ℕ) (bytes : List ℕ) (e : Entry) → front_at secret place bytes ≡ Some e → recovered secret place 0 bytes ≡ e ∷ recovered secret (place + size e) 0 (drop (size e) bytes)
unfolding recovered with_front
recovered_some secret place [] e h = let bad : None ≡ Some e = sym (none_in_nothing secret place) ∙ h in absurd cc
recovered_some secret place (b ∷ bytes) e h =
    let n = 20 + length e.body in
    let on : recovered secret (suc place) n bytes ≡ recovered secret (place + suc n) 0 (drop (suc n) (b ∷ bytes)) =
    skipped secret (suc place) n bytes ∙ ap (λ (p : ℕ). recovered secret p 0 (drop n bytes)) (omega arith) in
    let whole : suc n ≡ size e = omega arith in
    rw h (ap (λ (l : List Entry). e ∷ l) (on ∙ ap (λ (k : ℕ). recovered secret (place + k) 0 (drop k (b ∷ bytes))) whole))

-- records that are spelled are found, and then whatever stands behind them
pub recovered_spelled : (secret place : ℕ) (es : List Entry) (rest : List ℕ) → AllFit es → recovered secret place 0 (spelled secret place es ++ rest) ≡ es ++ recovered secret (place + length (spelled secret place es)) 0 rest
recovered_spelled secret place [] rest fit = ap (λ (p : ℕ). recovered secret p 0 rest) (omega arith)
recovered_spelled secret place (e ∷ es) rest fit =
    let behind = spelled secret (place + size e) es in
    let long = length-spelling secret place e in
    let regroup = append_assoc (spelling secret place e) behind rest in
    let first = recovered_some secret place (spelling secret place e ++ (behind ++ rest)) e (front_again secret place e (behind ++ rest) fit.0) in
    let cut : drop (size e) (spelling secret place e ++ (behind ++ rest)) ≡ behind ++ rest = drop_at (spelling secret place e) (behind ++ rest) (size e) long in
    let total : place + size e + length behind ≡ place + length (spelling secret place e ++ behind) = omega (arith, long, length-append (spelling secret place e) behind) in
    ap (λ (t : List ℕ). recovered secret place 0 t) regroup
    ∙ first
    ∙ ap (λ (t : List ℕ). e ∷ recovered secret (place + size e) 0 t) cut
    ∙ ap (λ (l : List Entry). e ∷ l) (recovered_spelled secret (place + size e) es rest fit.1)
    ∙ ap (λ (p : ℕ). e ∷ (es ++ recovered secret p 0 rest)) total

pub spelled_append : (secret place : ℕ) (es fs : List Entry) → spelled secret place (es ++ fs) ≡ spelled secret place es ++ spelled secret (place + length (spelled secret place es)) fs
spelled_append secret place [] fs = ap (λ (p : ℕ). spelled secret p fs) (omega arith)
spelled_append secret place (e ∷ es) fs =
    let long = length-spelling secret place e in
    let behind = spelled secret (place + size e) es in
    let total : place + size e + length behind ≡ place + length (spelling secret place e ++ behind) = omega (arith, long, length-append (spelling secret place e) behind) in
    ap (λ (t : List ℕ). spelling secret place e ++ t) (spelled_append secret (place + size e) es fs)
    ∙ ap (λ (p : ℕ). spelling secret place e ++ (behind ++ spelled secret p fs)) total
    ∙ sym (append_assoc (spelling secret place e) behind (spelled secret (place + length (spelling secret place e ++ behind)) fs))

-- ## What a crash leaves

-- which it is
pub found : (o : Option Entry) → (o ≡ None) ⊎ ((e : Entry) × (o ≡ Some e))
found None = inl refl
found (Some e) = inr (e, refl)

-- where no record passes its test that wasn't written there, what is found are the first of those that were written
pub honest_from : (secret : ℕ) (all : List Entry) (left : List ℕ) → IsHonest secret all left → (place : ℕ) (noted : List Entry) → AllFit noted → drop place (spelled secret 0 all) ≡ spelled secret place noted
    → IsBeginning (recovered secret place 0 (drop place left)) noted
honest_from secret all left honest place [] fit is =
    elim (found (front_at secret place (drop place left))) [
      | inl none ↦ ([], sym (append-nil (recovered secret place 0 (drop place left)) ∙ recovered_none secret place (drop place left) none))
      | inr some ↦
          let there = honest.records place some.0 some.1 in
          let bad : None ≡ Some some.0 = sym (none_in_nothing secret place) ∙ ap (front_at secret place) (sym is) ∙ there in
          absurd cc
    ]
honest_from secret all left honest place (n ∷ noted) fit is =
    elim (found (front_at secret place (drop place left))) [
      | inl none ↦ (n ∷ noted, rw (recovered_none secret place (drop place left) none) refl)
      | inr some ↦
          let e = some.0 in
          let there = honest.records place e some.1 in
          let again = front_again secret place n (spelled secret (place + size n) noted) fit.0 in
          let same : Some n ≡ Some e = sym again ∙ ap (front_at secret place) (sym is) ∙ there in
          let is_n : n ≡ e = cc in
          let here : front_at secret place (drop place left) ≡ Some n = some.1 ∙ ap Some (sym is_n) in
          let further : drop (place + size n) (spelled secret 0 all) ≡ spelled secret (place + size n) noted =
          sym (drop-drop (size n) place (spelled secret 0 all)) ∙ ap (drop (size n)) is ∙ drop_at (spelling secret place n) (spelled secret (place + size n) noted) (size n) (length-spelling secret place n) in
          let more = honest_from secret all left honest (place + size n) noted fit.1 further in
          let step : recovered secret place 0 (drop place left) ≡ n ∷ recovered secret (place + size n) 0 (drop (place + size n) left) =
          recovered_some secret place (drop place left) n here ∙ ap (λ (t : List ℕ). n ∷ recovered secret (place + size n) 0 t) (drop-drop (size n) place left) in
          (more.0, rw step (ap (λ (l : List Entry). n ∷ l) more.1))
    ]
