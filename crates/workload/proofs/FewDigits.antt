-- Decimal digits, read one after the other.
use Rattle.std.proofs.Common.{◌≡◌, ◌∙◌, ℕ, ◌+◌, ◌-◌, ◌*◌, ◌^◌, ◌<◌, ◌≤◌, true, false, ◌&&◌, List, [], ◌∷◌, ◌++◌, drop, length, get_or, Some, refl, sym, ap, subst, arith, append-nil, lt-ltb, ne_eqb}
use Rattle.std.specs.Str.{all_ascii_digits}
use Rattle.std.specs.Str.Parse.{AllDigits, digits_value, digits_value_after}
use Rattle.std.specs.Char.{is_ascii_digit, digit_value}
use Rattle.std.proofs.lemmas.Bool.Decides.{nat_tests}
use Rattle.std.proofs.lemmas.List.{drop_more, drop_all}
use Rattle.std.proofs.lemmas.Str.Parse.{numerals_by_value, tells_all_ascii_digits, IsNumeralModel}
use Rattle.std.specs.Float.Numeral.{Parts, numeral_digits, text_of, IsWellFormed}
use Rattle.std.proofs.lemmas.Float.Parse.{scan_numeral-text_of}
use Rattle.serde_json.specs.Data.{unsigned}
use Rattle.serde_json.specs.Read.{number_of, number_from, is_integer}

-- a number was read, and the rest comes
pub record IsRead (text : List ℕ) (number : ℕ) (rest : List ℕ) : Type 0 where
  pub value : digits_value_after 10 number rest ≡ digits_value 10 text
  pub digits : all_ascii_digits rest ≡ all_ascii_digits text

digit_is : (c : ℕ) → is_ascii_digit c ≡ true → digit_value c ≡ c - 48
digit_is c e = grind (arith, nat_tests)

pub nothing_read : (text : List ℕ) → IsRead text 0 (drop 0 text)
nothing_read text = record { value = refl; digits = refl }

next : (text : List ℕ) (number b : ℕ) (rest : List ℕ) → is_ascii_digit b ≡ true → IsRead text number (b ∷ rest) → IsRead text (10 * number + (b - 48)) rest
next text number b rest e r = record {
  value = ap (λ n. digits_value_after 10 n rest) (omega (arith, digit_is b e)) ∙ r.value;
  digits = ap (λ t. t && all_ascii_digits rest) (sym e) ∙ r.digits;
}

pub one_more_read : (text : List ℕ) (number i b : ℕ) → i < length text → b ≡ get_or text i b → is_ascii_digit b ≡ true → IsRead text number (drop i text)
    → IsRead text (10 * number + (b - 48)) (drop (i + 1) text)
one_more_read text number i b lt is e r =
    next text number b (drop (i + 1) text) e (subst (IsRead text number) (drop_more text i b lt ∙ ap (λ x. x ∷ drop (i + 1) text) (sym is)) r)

own : IsNumeralModel (λ ds. all_ascii_digits ds ≡ true) (digits_value 10)
own = numerals_by_value _ tells_all_ascii_digits

abbrev spelled : List ℕ → Parts
spelled ds = record { whole = ds; point = false; fraction = []; exponent_negative = false; exponent = []; len = length (ds ++ []) }

no_minus : (ds rest : List ℕ) → AllDigits 10 ds → 0 < length ds → get_or (ds ++ rest) 0 0 ≡ 45 → ⊥
no_minus [] rest h some e = omega arith
no_minus (d ∷ ds) rest h some e = let digit : digit_value d < 10 = h.0 in let is : d ≡ 45 = e in grind arith

-- digits are the number that they spell
number_is : (ds : List ℕ) → 0 < length ds → AllDigits 10 ds → number_of (text_of (spelled ds)) ≡ number_from false (spelled ds)
unfolding number_of
number_is ds some h =
    let formed : IsWellFormed (spelled ds) = record { whole_digits = h; fraction_digits = tt; exponent_digits = tt; no_point = λ _. refl; no_exponent = λ _. refl; len_is = refl } in
    rw (ne_eqb (get_or (text_of (spelled ds)) 0 0) 45 (no_minus ds _ h some)) (ap (number_from false) (scan_numeral-text_of (spelled ds) formed))

told : (text : List ℕ) (number : ℕ) → 0 < length text → number < 2 ^ 64 → all_ascii_digits text ≡ true → digits_value 10 text ≡ number → number_of text ≡ Some (unsigned number)
told text number some fits digits v =
    let value : numeral_digits (spelled text) ≡ number = rw append-nil v in
    let whole : is_integer (spelled text) ≡ true = rw (lt-ltb _ _ some) refl in
    ap number_of (sym (append-nil text)) ∙ number_is text some (own.to text digits) ∙ rw (whole, value) (rw (lt-ltb _ _ fits) refl)

pub all_read : (text : List ℕ) (number i : ℕ) → 0 < length text → length text ≤ i → number < 2 ^ 64 → IsRead text number (drop i text) → number_of text ≡ Some (unsigned number)
all_read text number i some end fits r =
    let over : IsRead text number [] = subst (IsRead text number) (drop_all i text end) r in
    told text number some fits (sym over.digits) (sym over.value)
