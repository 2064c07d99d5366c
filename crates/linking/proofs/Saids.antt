-- The bytes of what is said.
use Rattle.std.proofs.Common.{◌≡◌, ◌∙◌, inl, inr, ◌<◌, ◌≤◌, ◌^◌, ℕ, ◌+◌, List, length, take, drop, get_or, sym, ap, arith}
use Rattle.std.specs.Int.{w64, to_be_bytes, from_be_bytes}
use Rattle.std.proofs.lemmas.Bool.{cases_lt}
use Rattle.std.proofs.lemmas.List.{length-drop, length-take-le, get_or-take, get_or-drop, get_or_past}
use Rattle.std.proofs.lemmas.Nat.{be_bytes_8, from_be_bytes-to_be_bytes_8}
use Rattle.linking.specs.declared.said.Said.{Said}
use Rattle.linking.specs.declared.said.Said.TheVariants.{Parcel, Taken, Here}
use Rattle.linking.specs.Said.{spelling, IsSaid, IsSame}

length-eight : (bytes : List ℕ) → 9 ≤ length bytes → length (take 8 (drop 1 bytes)) ≡ 8
length-eight bytes within = length-take-le 8 (drop 1 bytes) (omega (arith, length-drop 1 bytes))

eight_fit : (bytes : List ℕ) (i : ℕ) → ((i : ℕ) → get_or bytes i 0 < 256) → 9 ≤ length bytes → get_or (take 8 (drop 1 bytes)) i 0 < 256
eight_fit bytes i fits within =
    elim (cases_lt i 8) [
      | inl lt ↦ rw (get_or-take 8 (drop 1 bytes) i 0 lt, get_or-drop 1 bytes i 0) (fits (1 + i))
      | inr le ↦ rw (get_or_past (take 8 (drop 1 bytes)) i 0 (omega (arith, length-eight bytes within))) (omega arith)
    ]

-- the eight bytes behind the first are those of the number that they are
pub number_bytes : (bytes : List ℕ) (n : ℕ) → ((i : ℕ) → get_or bytes i 0 < 256) → 9 ≤ length bytes → n ≡ from_be_bytes w64 (take 8 (drop 1 bytes)) → to_be_bytes w64 n ≡ take 8 (drop 1 bytes)
number_bytes bytes n fits within e = be_bytes_8 (take 8 (drop 1 bytes)) n (length-eight bytes within) (λ i. eight_fit bytes i fits within) e

number_again : (n m : ℕ) → n < 2 ^ 64 → m < 2 ^ 64 → to_be_bytes w64 n ≡ to_be_bytes w64 m → n ≡ m
number_again n m fits fits' e = sym (from_be_bytes-to_be_bytes_8 n fits) ∙ ap (λ (l : List ℕ). from_be_bytes w64 l) e ∙ from_be_bytes-to_be_bytes_8 m fits'

pub one_said : (s t : Said) → IsSaid s → IsSaid t → spelling s ≡ spelling t → IsSame s t
one_said (Parcel n v) (Parcel m w) is it e = (number_again n m is it (ap (λ (l : List ℕ). take 8 (drop 1 l)) e), ap (λ (l : List ℕ). drop 9 l) e)
one_said (Parcel n v) (Taken m) is it e = absurd (omega (arith, ap (λ (l : List ℕ). get_or l 0 0) e))
one_said (Parcel n v) Here is it e = absurd (omega (arith, ap (λ (l : List ℕ). get_or l 0 0) e))
one_said (Taken n) (Parcel m w) is it e = absurd (omega (arith, ap (λ (l : List ℕ). get_or l 0 0) e))
one_said (Taken n) (Taken m) is it e = number_again n m is it (ap (λ (l : List ℕ). drop 1 l) e)
one_said (Taken n) Here is it e = absurd (omega (arith, ap (λ (l : List ℕ). get_or l 0 0) e))
one_said Here (Parcel m w) is it e = absurd (omega (arith, ap (λ (l : List ℕ). get_or l 0 0) e))
one_said Here (Taken m) is it e = absurd (omega (arith, ap (λ (l : List ℕ). get_or l 0 0) e))
one_said Here Here is it e = tt
