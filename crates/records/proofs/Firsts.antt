-- Where first records begin, and that a torn tail isn't taken for damage.
use Rattle.std.proofs.Common.{◌≡◌, ◌∙◌, ◌≤◌, ◌||◌, inl, inr, ℕ, zero, suc, ◌+◌, ◌-◌, Bool, true, false, ltb, List, [], ◌∷◌, ◌++◌, length, take, drop, refl, sym, ap, subst, arith}
use Rattle.std.proofs.lemmas.Bool.{ltb-false, le-ltb}
use Rattle.std.proofs.lemmas.List.{length-append, length-drop, length-take, drop-drop, take-append-drop, take-append-le, drop-take}
use Rattle.records.specs.Records.{Entry, size, spelling, spelled, recovered, is_first, has_first, IsUndamaged, IsFirstAt, NoneFirst, OnlyFrontIsFirst, IsHonest}
use Rattle.records.proofs.Found.{chosen}
use Rattle.records.proofs.Recovered.{length-spelling, spelled_append}

-- ## None, and each

none_in_nothing : (secret place : ℕ) → is_first secret place [] ≡ false
unfolding is_first
none_in_nothing secret place = refl

or_false : (a b : Bool) → a ≡ false → b ≡ false → (a || b) ≡ false
or_false false b h k = k
or_false true b h k = absurd cc

or_parts : (a b : Bool) → (a || b) ≡ false → (a ≡ false) × (b ≡ false)
or_parts false b h = (refl, h)
or_parts true b h = absurd cc

-- where none begins at any place, none begins
none_begins : (secret place : ℕ) (bytes : List ℕ) → ((k : ℕ) → is_first secret (place + k) (drop k bytes) ≡ false) → has_first secret place bytes ≡ false
unfolding has_first
none_begins secret place [] each = refl
none_begins secret place (b ∷ bytes) each =
    or_false (is_first secret place (b ∷ bytes)) (has_first secret (suc place) bytes)
    (ap (λ (p : ℕ). is_first secret p (b ∷ bytes)) (omega arith) ∙ each 0)
    (none_begins secret (suc place) bytes (λ k. ap (λ (p : ℕ). is_first secret p (drop k bytes)) (omega arith) ∙ each (suc k)))

each_begins_none : (secret place : ℕ) (bytes : List ℕ) → has_first secret place bytes ≡ false → (k : ℕ) → is_first secret (place + k) (drop k bytes) ≡ false
unfolding has_first
each_begins_none secret place [] none zero = none_in_nothing secret (place + 0)
each_begins_none secret place [] none (suc k) = none_in_nothing secret (place + suc k)
each_begins_none secret place (b ∷ bytes) none zero = ap (λ (p : ℕ). is_first secret p (b ∷ bytes)) (omega arith) ∙ (or_parts (is_first secret place (b ∷ bytes)) (has_first secret (suc place) bytes) none).0
each_begins_none secret place (b ∷ bytes) none (suc k) =
    ap (λ (p : ℕ). is_first secret p (drop k bytes)) (omega arith) ∙ each_begins_none secret (suc place) bytes (or_parts (is_first secret place (b ∷ bytes)) (has_first secret (suc place) bytes) none).1 k

-- ## Cuts

-- what is a stamp in a part is one in the whole
stamp_in_part : (secret place j : ℕ) (bytes : List ℕ) → is_first secret place (take j bytes) ≡ true → is_first secret place bytes ≡ true
unfolding is_first
stamp_in_part secret place j bytes h =
    elim (chosen (ltb (length (take j bytes)) 8) false _ true h) [
      | inl short ↦ let bad : false ≡ true = short.1 in absurd cc
      | inr long ↦
          let eight : 8 ≤ length (take j bytes) = ltb-false _ _ long.0 in
          let whole : ltb (length bytes) 8 ≡ false = le-ltb (length bytes) 8 (omega (arith, eight, length-take j bytes)) in
          let same : take 8 bytes ≡ take 8 (take j bytes) =
          ap (take 8) (sym (take-append-drop j bytes)) ∙ take-append-le 8 (take j bytes) (drop j bytes) eight in
          rw (whole, same) long.1
    ]

no_stamp : (b : Bool) → (b ≡ true → ⊥) → b ≡ false
no_stamp true h = absurd (h refl)
no_stamp false h = refl

not_both : (b : Bool) → b ≡ true → b ≡ false → ⊥
not_both true h k = cc
not_both false h k = cc

long_enough : (secret place : ℕ) (bytes : List ℕ) → is_first secret place bytes ≡ true → 8 ≤ length bytes
unfolding is_first
long_enough secret place bytes h =
    elim (chosen (ltb (length bytes) 8) false _ true h) [
      | inl short ↦ let bad : false ≡ true = short.1 in absurd cc
      | inr long ↦ ltb-false _ _ long.0
    ]

-- where none begins in a file, none begins in a part of it
none_in_part : (secret place k : ℕ) (file : List ℕ) → has_first secret place (drop place file) ≡ false → has_first secret place (drop place (take k file)) ≡ false
none_in_part secret place k file none =
    none_begins secret place (drop place (take k file)) (λ i. no_stamp (is_first secret (place + i) (drop i (drop place (take k file)))) (λ stamp.
    let long = long_enough secret (place + i) (drop i (drop place (take k file))) stamp in
    let at = place + i in
    let j = k - at in
    let within : at ≤ k = omega (arith, long, length-drop i (drop place (take k file)), length-drop place (take k file), length-take k file) in
    let whole : k ≡ at + j = omega (arith, within) in
    let part : drop i (drop place (take k file)) ≡ take j (drop at file) =
    drop-drop i place (take k file) ∙ ap (λ (n : ℕ). drop at (take n file)) whole ∙ drop-take at j file in
    let there : is_first secret at (drop at file) ≡ true = stamp_in_part secret at j (drop at file) (ap (is_first secret at) (sym part) ∙ stamp) in
    let not_there : is_first secret at (drop at file) ≡ false = ap (is_first secret at) (sym (drop-drop i place file)) ∙ each_begins_none secret place (drop place file) none i in
    not_both (is_first secret at (drop at file)) there not_there))

pub undamaged_cut : (secret k : ℕ) (file : List ℕ) → recovered secret 0 0 (take k file) ≡ recovered secret 0 0 file → IsUndamaged secret file → IsUndamaged secret (take k file)
undamaged_cut secret k file same none =
    let end = length (spelled secret 0 (recovered secret 0 0 file)) in
    subst (λ (n : ℕ). has_first secret (n + 1) (drop (n + 1) (take k file)) ≡ false) (sym (ap (λ (l : List Entry). length (spelled secret 0 l)) same)) (none_in_part secret (end + 1) k file none)

-- ## A torn tail

not_among : (place at : ℕ) (es : List Entry) → NoneFirst es → IsFirstAt place es at → ⊥
not_among place at [] none h = h
not_among place at (e ∷ es) none (inl h) = not_both e.first h.0 none.0
not_among place at (e ∷ es) none (inr h) = not_among (place + size e) at es none.1 h

-- the last first one begins no later than what was noted
first_before : (secret place at : ℕ) (kept noted : List Entry) → OnlyFrontIsFirst noted → IsFirstAt place (kept ++ noted) at → at ≤ place + length (spelled secret place kept)
first_before secret place at [] [] front h = absurd h
first_before secret place at [] (n ∷ noted) front (inl h) = omega (arith, h.1)
first_before secret place at [] (n ∷ noted) front (inr h) = absurd (not_among (place + size n) at noted front h)
first_before secret place at (e ∷ kept) noted front (inl h) = omega (arith, h.1)
first_before secret place at (e ∷ kept) noted front (inr h) =
    let more = first_before secret (place + size e) at kept noted front h in
    omega (arith, more, length-spelling secret place e, length-append (spelling secret place e) (spelled secret (place + size e) kept))

-- what a crash leaves of records that were under way behind those that were kept isn't taken for damage
pub torn_is_undamaged : (secret : ℕ) (kept noted more : List Entry) (left : List ℕ) → IsHonest secret (kept ++ noted) left → OnlyFrontIsFirst noted → recovered secret 0 0 left ≡ kept ++ more → IsUndamaged secret left
torn_is_undamaged secret kept noted more left honest front all =
    let end = length (spelled secret 0 (recovered secret 0 0 left)) in
    let behind = spelled secret (0 + length (spelled secret 0 kept)) more in
    let long : end ≡ length (spelled secret 0 kept ++ behind) = ap (λ (l : List Entry). length (spelled secret 0 l)) all ∙ ap length (spelled_append secret 0 kept more) in
    none_begins secret (end + 1) (drop (end + 1) left) (λ k. no_stamp (is_first secret (end + 1 + k) (drop k (drop (end + 1) left))) (λ stamp.
    let at = end + 1 + k in
    let here : is_first secret at (drop at left) ≡ true = ap (is_first secret at) (sym (drop-drop k (end + 1) left)) ∙ stamp in
    let before = first_before secret 0 at kept noted front (honest.stamps at here) in
    absurd (omega (arith, before, long, length-append (spelled secret 0 kept) behind))))
