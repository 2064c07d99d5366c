-- What is done to the byte of cohorts, and what that does to the shards: tried with all 256 bytes.
use Rattle.std.proofs.Common.{◌≡◌, ℕ, ◌-◌, ◌*◌, ◌^◌, ◌%◌, ◌<◌, Bool, true, false, true≢false, not, ◌||◌, ◌==◌, nat_eq, nat_lt, List, [], ◌∷◌, ◌++◌, length, refl, ap, sym, ◌∙◌, arith, bit_and, bit_or, eqb-true, eq-eqb, ltb-true, lt-ltb, cond, inl, inr, ◌⊎◌, All}
use Rattle.std.specs.List.{list_all}
use Rattle.std.specs.Bool.{Decides}
use Rattle.std.specs.Int.Count.{count_trailing_zeros}
use Rattle.std.specs.Cmp.Lexicographic.{pointwise}
use Rattle.std.proofs.lemmas.List.Sums.{list_all-from_AllPass}
use Rattle.std.proofs.lemmas.Slice.Eq.{slice_eq-Decides}
use Rattle.messages.specs.CohortBits.{shards_in, bits_of}
use Rattle.messages.specs.CohortLaws.{all_below, all_below-at, bits_back}

decides : (xs ys : List ℕ) → Decides (pointwise nat_eq xs ys) (xs ≡ ys)
decides xs ys = slice_eq-Decides (λ x y. (eqb-true x y, eq-eqb x y)) xs ys _ refl

same : (xs ys : List ℕ) → pointwise nat_eq xs ys ≡ true → xs ≡ ys
same xs ys e = (decides xs ys).0 e

-- a test, where another passes
if_true : (a b : Bool) → (not a || b) ≡ true → a ≡ true → b ≡ true
if_true true b h e = h
if_true false b h e = absurd (true≢false (sym e))

some_or_not : (b : Bool) → (b ≡ true) ⊎ (b ≡ false)
some_or_not true = inl refl
some_or_not false = inr refl

-- two tests that agree
agree : (a b : Bool) → cond a b (not b) ≡ true → a ≡ b
agree true b e = sym e
agree false true e = absurd (true≢false (sym e))
agree false false e = refl

both_ways : (a b : Bool) → (a ≡ true → b ≡ true) → (b ≡ true → a ≡ true) → a ≡ b
both_ways true b f g = sym (f refl)
both_ways false true f g = g refl
both_ways false false f g = refl

-- the lowest bit that is set is the first shard, and without it the others are left
has_first : ℕ → Bool
has_first n = not (nat_lt 0 n) || pointwise nat_eq (shards_in n) (count_trailing_zeros 8 n ∷ shards_in (bit_and n (n - 1)))

pub first_and_rest : (n : ℕ) → n < 256 → 0 < n → shards_in n ≡ count_trailing_zeros 8 n ∷ shards_in (bit_and n (n - 1))
unfolding all_below shards_in count_trailing_zeros has_first
first_and_rest n lt some = same _ _ (if_true _ _ (all_below-at has_first 256 n refl lt) (lt-ltb _ _ some))

-- a byte has a bit that is set unless it is zero
has_some : ℕ → Bool
has_some n = not (nat_lt (count_trailing_zeros 8 n) 8) || nat_lt 0 n

pub some_left : (n : ℕ) → n < 256 → count_trailing_zeros 8 n < 8 → 0 < n
unfolding all_below count_trailing_zeros has_some
some_left n lt below = ltb-true _ _ (if_true _ _ (all_below-at has_some 256 n refl lt) (lt-ltb _ _ below))

has_none : ℕ → Bool
has_none n = nat_lt (count_trailing_zeros 8 n) 8 || pointwise nat_eq (shards_in n) []

-- a bit above all that are set
adds : ℕ → ℕ → Bool
adds shard n = not (list_all (λ s. nat_lt s shard) (shards_in n)) || pointwise nat_eq (shards_in (bit_or n (1 * 2 ^ shard % 256))) (shards_in n ++ shard ∷ [])

pub none_left : (n : ℕ) → n < 256 → (count_trailing_zeros 8 n < 8 → ⊥) → shards_in n ≡ []
unfolding all_below shards_in count_trailing_zeros has_none
none_left n lt never = elim (some_or_not (nat_lt (count_trailing_zeros 8 n) 8)) [
  | inl below ↦ absurd (never (ltb-true _ _ below))
  | inr not_below ↦ same _ _ (ap (λ b. b || pointwise nat_eq (shards_in n) []) (sym not_below) ∙ all_below-at has_none 256 n refl lt)
]

pub with_last : (n shard : ℕ) → n < 256 → shard < 8 → All (λ s. s < shard) (shards_in n) → shards_in (bit_or n (1 * 2 ^ shard % 256)) ≡ shards_in n ++ shard ∷ []
unfolding all_below shards_in adds
with_last n shard lt below all =
    same _ _ (if_true _ _ (all_below-at (adds shard) 256 n (all_below-at (λ s. all_below (adds s) 256) 8 shard refl below) lt)
    (list_all-from_AllPass (λ s. nat_lt s shard) (shards_in n) (λ k d l. lt-ltb _ _ (all k d l))))

is_none : ℕ → Bool
is_none n = cond (nat_eq n 0) (length (shards_in n) == 0) (not (length (shards_in n) == 0))

-- there is no shard where no bit is set
pub empty_is : (n : ℕ) → n < 256 → nat_eq n 0 ≡ (length (shards_in n) == 0)
unfolding all_below shards_in is_none
empty_is n lt = agree _ _ (all_below-at is_none 256 n refl lt)

-- two bytes are the same where their shards are
pub same_bytes : (m n : ℕ) → m < 256 → n < 256 → nat_eq m n ≡ pointwise nat_eq (shards_in m) (shards_in n)
same_bytes m n lt lt' = both_ways _ _
    (λ e. (decides (shards_in m) (shards_in n)).1 (ap shards_in (eqb-true _ _ e)))
    (λ e. eq-eqb _ _ (sym (bits_back m lt) ∙ ap bits_of (same _ _ e) ∙ bits_back n lt'))

pub fewer_left : (all others : List ℕ) (first : ℕ) → all ≡ first ∷ others → length others < length all
fewer_left all others first e = let longer : length all ≡ length (first ∷ others) = ap length e in omega (arith, longer)
