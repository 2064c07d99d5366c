-- Fields that are spelled are read again.
use Rattle.std.proofs.Common.{◌≡◌, ℕ, suc, ◌^◌, ◌<◌, ◌≤◌, Bool, true, false, ltb, List, [], ◌∷◌, ◌++◌, length, Result, Ok, refl, ap, ◌∙◌, append_assoc, arith}
use Rattle.std.specs.List.{flat_map, list_all}
use Rattle.std.proofs.lemmas.Bool.{ltb-true, le-ltb, and_parts}
use Rattle.std.proofs.lemmas.List.{length-append, take_at, drop_at}
use Rattle.std.proofs.lemmas.List.Concat.{flat_map-cons}
use Rattle.byteorder.specs.Endian.{big_bytes}
use Rattle.byteorder.specs.Numbers.{length-bytes_high_first, big_number-reads_back}
use Rattle.logical_time.specs.declared.fault.Fault.{Fault}
use Rattle.wire.specs.Fields.{sized, is_sized, counted, is_counted}
use Rattle.wire.specs.Reading.{number_at, cut_at, sized_at, list_at, counted_at}
use Rattle.wire.proofs.Steps.{AllAgain}

pub number_again : (w n : ℕ) (rest : List ℕ) → n < 256 ^ w → number_at w (big_bytes w n ++ rest) ≡ Ok (n, rest)
number_again w n rest lt =
    let len : length (big_bytes w n) ≡ w = length-bytes_high_first w n in
    let long : ltb (length (big_bytes w n ++ rest)) w ≡ false = le-ltb _ _ (omega (arith, len, length-append (big_bytes w n) rest)) in
    rw (long, drop_at (big_bytes w n) rest w len, big_number-reads_back w n rest lt) refl

pub cut_again : (bytes rest : List ℕ) → cut_at (length bytes) (bytes ++ rest) ≡ Ok (bytes, rest)
cut_again bytes rest =
    let long : ltb (length (bytes ++ rest)) (length bytes) ≡ false = le-ltb _ _ (omega (arith, length-append bytes rest)) in
    rw (long, take_at bytes rest (length bytes) refl, drop_at bytes rest (length bytes) refl) refl

pub sized_again : (w : ℕ) → AllAgain (sized_at w) (sized w) (is_sized w)
unfolding sized_at
sized_again w bytes rest fits =
    let lt : length bytes < 256 ^ w = ltb-true _ _ fits in
    rw (append_assoc (big_bytes w (length bytes)) bytes rest, number_again w (length bytes) (bytes ++ rest) lt) (cut_again bytes rest)

-- a list of items that each take a byte at least
pub items_take : {A : Type 0} (spell : A → List ℕ) → ((x : A) → 1 ≤ length (spell x)) → (xs : List A) → length xs ≤ length (flat_map spell xs)
items_take spell one [] = omega arith
items_take spell one (x ∷ xs) = rw flat_map-cons (omega (arith, one x, items_take spell one xs, length-append (spell x) (flat_map spell xs)))

pub list_again : {A : Type 0} (item_at : List ℕ → Result (A × List ℕ) Fault) (spell : A → List ℕ) (fit : A → Bool) → AllAgain item_at spell fit → (xs : List A) (rest : List ℕ) → list_all fit xs ≡ true → list_at item_at (length xs) (flat_map spell xs ++ rest) ≡ Ok (xs, rest)
unfolding list_at
list_again item_at spell fit one [] rest fits = refl
list_again item_at spell fit one (x ∷ xs) rest fits =
    let both = and_parts (fit x) (list_all fit xs) fits in
    let regrouped : flat_map spell (x ∷ xs) ++ rest ≡ spell x ++ (flat_map spell xs ++ rest) = ap (λ (t : List ℕ). t ++ rest) (flat_map-cons spell x xs) ∙ append_assoc (spell x) (flat_map spell xs) rest in
    ap (list_at item_at (suc (length xs))) regrouped ∙ rw (one x (flat_map spell xs ++ rest) both.0, list_again item_at spell fit one xs rest both.1) refl

pub listed_again : {A : Type 0} (item_at : List ℕ → Result (A × List ℕ) Fault) (spell : A → List ℕ) (fit : A → Bool) → ((x : A) → 1 ≤ length (spell x)) → AllAgain item_at spell fit → (xs : List A) (rest : List ℕ) → ltb (length xs) (256 ^ 4) ≡ true → list_all fit xs ≡ true → counted_at item_at (counted spell xs ++ rest) ≡ Ok (xs, rest)
unfolding counted_at
listed_again item_at spell fit some one xs rest few each =
    let after = flat_map spell xs ++ rest in
    let enough : ltb (length after) (length xs) ≡ false = le-ltb _ _ (omega (arith, items_take spell some xs, length-append (flat_map spell xs) rest)) in
    rw (append_assoc (big_bytes 4 (length xs)) (flat_map spell xs) rest, number_again 4 (length xs) after (ltb-true _ _ few), enough) (list_again item_at spell fit one xs rest each)

pub counted_again : {A : Type 0} (item_at : List ℕ → Result (A × List ℕ) Fault) (spell : A → List ℕ) (fit : A → Bool) → ((x : A) → 1 ≤ length (spell x)) → AllAgain item_at spell fit → AllAgain (counted_at item_at) (counted spell) (is_counted fit spell)
counted_again item_at spell fit some one xs rest fits =
    let both = and_parts (ltb (length xs) (256 ^ 4)) _ fits in
    let each = and_parts (list_all fit xs) _ both.1 in
    listed_again item_at spell fit some one xs rest both.0 each.0
