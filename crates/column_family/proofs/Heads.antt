-- Of two texts the one with the smaller head comes first.
use Rattle.std.proofs.Common.{◌≡◌, ◌∙◌, ℕ, zero, suc, ◌+◌, ◌*◌, ◌^◌, ◌<◌, ◌≤◌, ap, sym, refl, List, [], ◌∷◌, ◌++◌, get_or, length, take, drop, subst, arith, inl, inr}
use Rattle.std.specs.Prelude.{◌⊎◌, ◌%◌, slice_index_or}
use Rattle.std.specs.declared.cmp.Ordering.{Ordering}
use Rattle.std.specs.declared.cmp.Ordering.TheVariants.{Less, Equal, Greater}
use Rattle.std.specs.Ordering.{MatchOrdering, nat_cmp, ordering_then, ordering_reverse}
use Rattle.std.specs.Cmp.Lexicographic.{slice_cmp}
use Rattle.std.proofs.lemmas.Cmp.{nat_list_cmp_total, nat_cmp_total, tied_itself, ranked}
use Rattle.std.proofs.lemmas.Nat.{mul-add-lt, mul-le}
use Rattle.std.proofs.lemmas.Bool.Decides.{nat_tests}
use Rattle.std.proofs.Math.Nat.{pow-suc, mul_assoc}
use Rattle.column_family.specs.declared.shared_bytes.Text.{Text}
use Rattle.column_family.specs.declared.shared_bytes.Text.TheVariants.{Few, Many}
use Rattle.column_family.specs.Texts.{bytes_of, IsText}
use Rattle.column_family.specs.Heads.{head_of, first_of, second_of, IsPadded, StartsWithBytes}

wider : (n : ℕ) → 256 ^ suc n ≡ 256 ^ n * 256
wider n = omega (arith, pow-suc 256 n)

weighed : (b n : ℕ) → b * 256 ^ suc n ≡ b * 256 ^ n * 256
weighed b n = ap (λ k. b * k) (wider n) ∙ sym (mul_assoc b (256 ^ n) 256)

positive : (n : ℕ) → 0 < 256 ^ n
positive zero = omega arith
positive (suc n) = omega (arith, positive n, wider n)

below : (n : ℕ) (bytes : List ℕ) → StartsWithBytes n bytes → head_of n bytes < 256 ^ n
unfolding head_of StartsWithBytes
below zero bytes h = omega arith
below (suc n) [] h = positive (suc n)
below (suc n) (b ∷ bytes) h = omega (arith, wider n, mul-add-lt b (256 ^ n) (head_of n bytes) 256 h.0 (below n bytes h.1))

pub next : (n : ℕ) → n + 1 ≡ suc n
next n = omega arith

-- one byte more
pub head_more : (n : ℕ) (bytes : List ℕ) → head_of (suc n) bytes ≡ head_of n bytes * 256 + get_or bytes n 0
unfolding head_of
head_more zero [] = refl
head_more zero (b ∷ bytes) = omega arith
head_more (suc n) [] = refl
head_more (suc n) (b ∷ bytes) = omega (arith, head_more n bytes, weighed b n)

pub bytes_more : (n : ℕ) (bytes : List ℕ) → StartsWithBytes n bytes → get_or bytes n 0 < 256 → StartsWithBytes (suc n) bytes
unfolding StartsWithBytes
bytes_more zero [] h lt = tt
bytes_more zero (b ∷ bytes) h lt = (lt, tt)
bytes_more (suc n) [] h lt = tt
bytes_more (suc n) (b ∷ bytes) h lt = (h.0, bytes_more n bytes h.1 lt)

-- the text with the smaller head comes first
smaller : (n : ℕ) (x y : List ℕ) → StartsWithBytes n x → StartsWithBytes n y → head_of n x < head_of n y → slice_cmp nat_cmp x y ≡ Less
unfolding head_of StartsWithBytes
smaller zero x y hx hy lt = absurd (omega (arith, lt))
smaller (suc n) [] [] hx hy lt = absurd (omega (arith, lt))
smaller (suc n) [] (b ∷ y) hx hy lt = refl
smaller (suc n) (a ∷ x) [] hx hy lt = absurd (omega (arith, lt))
smaller (suc n) (a ∷ x) (b ∷ y) hx hy lt =
    go (nat_cmp a b) refl (ranked a b (nat_cmp a b) refl) (smaller n x y hx.1 hy.1)
  where
    same : a ≡ b → head_of n x < head_of n y
    same e = let w : a * 256 ^ n ≡ b * 256 ^ n = ap (λ k. k * 256 ^ n) e in omega (arith, w, lt)

    go : (o : Ordering) → nat_cmp a b ≡ o → MatchOrdering o (a < b) (a ≡ b) (b < a) → (head_of n x < head_of n y → slice_cmp nat_cmp x y ≡ Less) → ordering_then (nat_cmp a b) (slice_cmp nat_cmp x y) ≡ Less
    go Less e m next = ap (λ (t : Ordering). ordering_then t (slice_cmp nat_cmp x y)) e
    go Equal e m next = ap (λ (t : Ordering). ordering_then t (slice_cmp nat_cmp x y)) e ∙ next (same m)
    go Greater e m next =
        let most : (b + 1) * 256 ^ n ≤ a * 256 ^ n = mul-le (b + 1) (256 ^ n) a (256 ^ n) (omega (arith, m)) (omega arith) in
        absurd (omega (arith, most, below n y hy.1, lt))

-- two heads are the same where the first bytes are and what follows them
apart : (n s t h k : ℕ) → s < t → h < 256 ^ n → s * 256 ^ n + h ≡ t * 256 ^ n + k → ⊥
apart n s t h k lt small same =
    let most : (s + 1) * 256 ^ n ≤ t * 256 ^ n = mul-le (s + 1) (256 ^ n) t (256 ^ n) (omega (arith, lt)) (omega arith) in
    omega (arith, most, small, same)

same_first : (n a b h k : ℕ) → h < 256 ^ n → k < 256 ^ n → a * 256 ^ n + h ≡ b * 256 ^ n + k → (a ≡ b) × (h ≡ k)
same_first n a b h k lh lk e = go (nat_cmp a b) (ranked a b (nat_cmp a b) refl)
  where
    rest : a ≡ b → h ≡ k
    rest w = let v : a * 256 ^ n ≡ b * 256 ^ n = ap (λ i. i * 256 ^ n) w in omega (arith, v, e)

    go : (o : Ordering) → MatchOrdering o (a < b) (a ≡ b) (b < a) → (a ≡ b) × (h ≡ k)
    go Less m = absurd (apart n a b h k m lh e)
    go Equal m = (m, rest m)
    go Greater m = absurd (apart n b a k h m lk (sym e))

-- of bytes with the same head, of which some are all in it, the shorter come first
lengths_first : (m : ℕ) → nat_cmp 0 (suc m) ≡ Less
lengths_first m = grind (arith, nat_tests)

lengths_last : (m : ℕ) → nat_cmp (suc m) 0 ≡ Greater
lengths_last m = grind (arith, nat_tests)

lengths_next : (m n : ℕ) → nat_cmp (suc m) (suc n) ≡ nat_cmp m n
lengths_next m n = grind (arith, nat_tests)

alike : (n : ℕ) (x y : List ℕ) → StartsWithBytes n x → StartsWithBytes n y → head_of n x ≡ head_of n y → (length x ≤ n) ⊎ (length y ≤ n) → nat_cmp (length x) (length y) ≡ slice_cmp nat_cmp x y
unfolding head_of StartsWithBytes
alike n [] [] hx hy e l = refl
alike n [] (b ∷ y) hx hy e l = lengths_first (length y)
alike n (a ∷ x) [] hx hy e l = lengths_last (length x)
alike zero (a ∷ x) (b ∷ y) hx hy e (inl l) = absurd (omega (arith, l))
alike zero (a ∷ x) (b ∷ y) hx hy e (inr l) = absurd (omega (arith, l))
alike (suc n) (a ∷ x) (b ∷ y) hx hy e l =
    let w = same_first n a b (head_of n x) (head_of n y) (below n x hx.1) (below n y hy.1) e in
    lengths_next (length x) (length y)
    ∙ alike n x y hx.1 hy.1 w.1 (shorter l)
    ∙ sym (ap (λ (t : Ordering). ordering_then t (slice_cmp nat_cmp x y)) (ap (nat_cmp a) (sym w.0) ∙ tied_itself nat_cmp_total a))
  where
    shorter : (suc (length x) ≤ suc n) ⊎ (suc (length y) ≤ suc n) → (length x ≤ n) ⊎ (length y ≤ n)
    shorter (inl h) = inl (omega (arith, h))
    shorter (inr h) = inr (omega (arith, h))

-- where heads differ, they decide
pub by_heads : (n : ℕ) (x y : List ℕ) (o : Ordering) → StartsWithBytes n x → StartsWithBytes n y → o ≡ nat_cmp (head_of n x) (head_of n y) → (o ≡ Equal → ⊥) → o ≡ slice_cmp nat_cmp x y
by_heads n x y Less hx hy e differ = sym (smaller n x y hx hy (ranked (head_of n x) (head_of n y) Less e))
by_heads n x y Equal hx hy e differ = absurd (differ refl)
by_heads n x y Greater hx hy e differ =
    sym (nat_list_cmp_total.antisymm x y ∙ ap ordering_reverse (smaller n y x hy hx (ranked (head_of n x) (head_of n y) Greater e)))

-- bytes that are all there
pub byte_of : (n i : ℕ) (bytes : List ℕ) → StartsWithBytes n bytes → i < n → get_or bytes i 0 < 256
unfolding StartsWithBytes
byte_of zero i bytes h lt = absurd (omega (arith, lt))
byte_of (suc n) zero [] h lt = omega arith
byte_of (suc n) zero (b ∷ bytes) h lt = h.0
byte_of (suc n) (suc i) [] h lt = omega arith
byte_of (suc n) (suc i) (b ∷ bytes) h lt = byte_of n i bytes h.1 (omega (arith, lt))

pub all_bytes : (n : ℕ) (bytes : List ℕ) → ((i : ℕ) → get_or bytes i 0 < 256) → StartsWithBytes n bytes
unfolding StartsWithBytes
all_bytes zero bytes each = tt
all_bytes (suc n) [] each = tt
all_bytes (suc n) (b ∷ bytes) each = (each 0, all_bytes n bytes (λ i. each (suc i)))

begun : (m n : ℕ) (l : List ℕ) → StartsWithBytes n l → m ≤ n → StartsWithBytes m l
unfolding StartsWithBytes
begun zero n l h le = tt
begun (suc m) zero l h le = absurd (omega (arith, le))
begun (suc m) (suc n) [] h le = tt
begun (suc m) (suc n) (b ∷ l) h le = (h.0, begun m n l h.1 (omega (arith, le)))

pub first_eight : (bytes : List ℕ) → StartsWithBytes 14 bytes → StartsWithBytes 8 bytes
first_eight bytes h = begun 8 14 bytes h (omega arith)

-- so many places that hold 0
abbrev pub none_of : ℕ → List ℕ
none_of zero = []
none_of (suc n) = 0 ∷ none_of n

holds_none : (n i : ℕ) → get_or (none_of n) i 0 ≡ 0
holds_none zero i = refl
holds_none (suc n) zero = refl
holds_none (suc n) (suc i) = holds_none n i

drop_nothing : (n : ℕ) → drop {A = ℕ} n [] ≡ []
drop_nothing zero = refl
drop_nothing (suc n) = refl

-- bytes that are put over the first of these places
over_none : (n : ℕ) (bytes : List ℕ) (i : ℕ) → get_or (bytes ++ drop (length bytes) (none_of n)) i 0 ≡ get_or bytes i 0
over_none n [] i = holds_none n i
over_none zero (b ∷ bytes) zero = refl
over_none zero (b ∷ bytes) (suc i) = ap (λ l. get_or (bytes ++ l) i 0) (sym (drop_nothing (length bytes))) ∙ over_none zero bytes i
over_none (suc n) (b ∷ bytes) zero = refl
over_none (suc n) (b ∷ bytes) (suc i) = over_none n bytes i

front : (bytes rest : List ℕ) → take (length bytes) (bytes ++ rest) ≡ bytes
front [] rest = refl
front (b ∷ bytes) rest = ap (λ l. b ∷ l) (front bytes rest)

pub padded_few : (bytes : List ℕ) → IsPadded (bytes ++ drop (length bytes) (none_of 14)) (take (length bytes) (bytes ++ drop (length bytes) (none_of 14)))
padded_few bytes i lt = over_none 14 bytes i ∙ ap (λ l. get_or l i 0) (sym (front bytes (drop (length bytes) (none_of 14))))

pub bytes_few : (bytes : List ℕ) → ((i : ℕ) → get_or bytes i 0 < 256) → StartsWithBytes 14 (take (length bytes) (bytes ++ drop (length bytes) (none_of 14)))
bytes_few bytes each = subst (λ l. StartsWithBytes 14 l) (sym (front bytes (drop (length bytes) (none_of 14)))) (all_bytes 14 bytes each)

pub text_bytes : (text : Text) → IsText text → StartsWithBytes 7 (bytes_of text)
text_bytes (Few few) is = begun 7 14 few is.1 (omega arith)
text_bytes (Many high middle low bytes) is = is.2

head_none : (bytes : List ℕ) → head_of 0 bytes ≡ 0
unfolding head_of
head_none bytes = refl

-- eight places as one number
pub head_eight : (places bytes : List ℕ) → IsPadded places bytes
    → slice_index_or places 0 0 * 256 ^ 7 + slice_index_or places 1 0 * 256 ^ 6 + slice_index_or places 2 0 * 256 ^ 5 + slice_index_or places 3 0 * 256 ^ 4 + slice_index_or places 4 0 * 256 ^ 3 + slice_index_or places 5 0 * 256 ^ 2 + slice_index_or places 6 0 * 256 + slice_index_or places 7 0 ≡ head_of 8 bytes
head_eight places bytes padded =
    let none = head_none bytes in
    let one : head_of 1 bytes ≡ head_of 0 bytes * 256 + get_or bytes 0 0 = head_more 0 bytes in
    let two : head_of 2 bytes ≡ head_of 1 bytes * 256 + get_or bytes 1 0 = head_more 1 bytes in
    let three : head_of 3 bytes ≡ head_of 2 bytes * 256 + get_or bytes 2 0 = head_more 2 bytes in
    let four : head_of 4 bytes ≡ head_of 3 bytes * 256 + get_or bytes 3 0 = head_more 3 bytes in
    let five : head_of 5 bytes ≡ head_of 4 bytes * 256 + get_or bytes 4 0 = head_more 4 bytes in
    let six : head_of 6 bytes ≡ head_of 5 bytes * 256 + get_or bytes 5 0 = head_more 5 bytes in
    let seven : head_of 7 bytes ≡ head_of 6 bytes * 256 + get_or bytes 6 0 = head_more 6 bytes in
    let eight : head_of 8 bytes ≡ head_of 7 bytes * 256 + get_or bytes 7 0 = head_more 7 bytes in
    omega (arith, none, one, two, three, four, five, six, seven, eight, padded 0 (omega arith), padded 1 (omega arith), padded 2 (omega arith), padded 3 (omega arith), padded 4 (omega arith), padded 5 (omega arith), padded 6 (omega arith), padded 7 (omega arith))

-- the first seven bytes as one number in three parts
pub head_seven : (bytes : List ℕ)
    → get_or bytes 0 0 * 256 ^ 6 + (get_or bytes 1 0 * 256 + get_or bytes 2 0) * 256 ^ 4 + (get_or bytes 3 0 * 256 ^ 3 + get_or bytes 4 0 * 256 ^ 2 + get_or bytes 5 0 * 256 + get_or bytes 6 0) ≡ head_of 7 bytes
head_seven bytes =
    let none = head_none bytes in
    let one : head_of 1 bytes ≡ head_of 0 bytes * 256 + get_or bytes 0 0 = head_more 0 bytes in
    let two : head_of 2 bytes ≡ head_of 1 bytes * 256 + get_or bytes 1 0 = head_more 1 bytes in
    let three : head_of 3 bytes ≡ head_of 2 bytes * 256 + get_or bytes 2 0 = head_more 2 bytes in
    let four : head_of 4 bytes ≡ head_of 3 bytes * 256 + get_or bytes 3 0 = head_more 3 bytes in
    let five : head_of 5 bytes ≡ head_of 4 bytes * 256 + get_or bytes 4 0 = head_more 4 bytes in
    let six : head_of 6 bytes ≡ head_of 5 bytes * 256 + get_or bytes 5 0 = head_more 5 bytes in
    let seven : head_of 7 bytes ≡ head_of 6 bytes * 256 + get_or bytes 6 0 = head_more 6 bytes in
    omega (arith, none, one, two, three, four, five, six, seven)

-- the six places behind them
behind_eight : (bytes : List ℕ) → StartsWithBytes 14 bytes → (q : ℕ) × (head_of 14 bytes ≡ head_of 8 bytes * 256 ^ 6 + q) × (q < 256 ^ 6)
    × (q ≡ get_or bytes 8 0 * 256 ^ 5 + get_or bytes 9 0 * 256 ^ 4 + get_or bytes 10 0 * 256 ^ 3 + get_or bytes 11 0 * 256 ^ 2 + get_or bytes 12 0 * 256 + get_or bytes 13 0)
behind_eight bytes h =
    let nine : head_of 9 bytes ≡ head_of 8 bytes * 256 + get_or bytes 8 0 = head_more 8 bytes in
    let ten : head_of 10 bytes ≡ head_of 9 bytes * 256 + get_or bytes 9 0 = head_more 9 bytes in
    let eleven : head_of 11 bytes ≡ head_of 10 bytes * 256 + get_or bytes 10 0 = head_more 10 bytes in
    let twelve : head_of 12 bytes ≡ head_of 11 bytes * 256 + get_or bytes 11 0 = head_more 11 bytes in
    let thirteen : head_of 13 bytes ≡ head_of 12 bytes * 256 + get_or bytes 12 0 = head_more 12 bytes in
    let fourteen : head_of 14 bytes ≡ head_of 13 bytes * 256 + get_or bytes 13 0 = head_more 13 bytes in
    (get_or bytes 8 0 * 256 ^ 5 + get_or bytes 9 0 * 256 ^ 4 + get_or bytes 10 0 * 256 ^ 3 + get_or bytes 11 0 * 256 ^ 2 + get_or bytes 12 0 * 256 + get_or bytes 13 0, omega (arith, nine, ten, eleven, twelve, thirteen, fourteen), omega (arith, byte_of 14 8 bytes h (omega arith), byte_of 14 9 bytes h (omega arith), byte_of 14 10 bytes h (omega arith), byte_of 14 11 bytes h (omega arith), byte_of 14 12 bytes h (omega arith), byte_of 14 13 bytes h (omega arith)), refl)

-- what follows the first eight places, with the eighth and the count
pub rest_seven : (bytes : List ℕ) → StartsWithBytes 14 bytes
    → get_or bytes 7 0 * 256 ^ 7 + get_or bytes 8 0 * 256 ^ 6 + get_or bytes 9 0 * 256 ^ 5 + get_or bytes 10 0 * 256 ^ 4 + get_or bytes 11 0 * 256 ^ 3 + get_or bytes 12 0 * 256 ^ 2 + get_or bytes 13 0 * 256 + length bytes ≡ second_of bytes
rest_seven bytes h =
    let more = behind_eight bytes h in
    let eight : head_of 8 bytes ≡ head_of 7 bytes * 256 + get_or bytes 7 0 = head_more 7 bytes in
    omega (arith, more.1, more.2, more.3, eight, byte_of 14 7 bytes h (omega arith))

fewer : (m n : ℕ) → m < n → nat_cmp m n ≡ Less
fewer m n lt = grind (arith, nat_tests)

-- of short texts the one of the smaller first number comes first
pub by_first : (x y : List ℕ) (o : Ordering) → StartsWithBytes 14 x → StartsWithBytes 14 y → o ≡ nat_cmp (first_of x) (first_of y) → (o ≡ Equal → ⊥) → o ≡ slice_cmp nat_cmp x y
by_first x y o hx hy e differ = by_heads 8 x y o (first_eight x hx) (first_eight y hy) e differ

-- where the first numbers are the same, the second ones decide
pub by_second : (x y : List ℕ) → StartsWithBytes 14 x → StartsWithBytes 14 y → length x ≤ 14 → length y ≤ 14 → first_of x ≡ first_of y → nat_cmp (second_of x) (second_of y) ≡ slice_cmp nat_cmp x y
by_second x y hx hy lx ly e = go (nat_cmp (head_of 14 x) (head_of 14 y)) refl (ranked (head_of 14 x) (head_of 14 y) (nat_cmp (head_of 14 x) (head_of 14 y)) refl)
  where
    first : head_of 8 x ≡ head_of 8 y
    first = e

    smaller_second : (a b : List ℕ) → StartsWithBytes 14 a → StartsWithBytes 14 b → length a ≤ 14 → head_of 8 a ≡ head_of 8 b → head_of 14 a < head_of 14 b → second_of a < second_of b
    smaller_second a b ha hb la same lt =
        let own = behind_eight a ha in
        let others = behind_eight b hb in
        omega (arith, own.1, own.2, others.1, others.2, same, lt, la)

    same_front : (a b m n : ℕ) → a ≡ b → nat_cmp (a + m) (b + n) ≡ nat_cmp m n
    same_front a b m n e = grind (arith, nat_tests)

    counts : head_of 14 x ≡ head_of 14 y → nat_cmp (second_of x) (second_of y) ≡ nat_cmp (length x) (length y)
    counts m = same_front (head_of 14 x % 256 ^ 7 * 256) (head_of 14 y % 256 ^ 7 * 256) (length x) (length y) (omega (arith, m))

    go : (o : Ordering) → nat_cmp (head_of 14 x) (head_of 14 y) ≡ o → MatchOrdering o (head_of 14 x < head_of 14 y) (head_of 14 x ≡ head_of 14 y) (head_of 14 y < head_of 14 x) → nat_cmp (second_of x) (second_of y) ≡ slice_cmp nat_cmp x y
    go Less w m = fewer (second_of x) (second_of y) (smaller_second x y hx hy lx first m) ∙ sym (smaller 14 x y hx hy m)
    go Equal w m = counts m ∙ alike 14 x y hx hy m (inl lx)
    go Greater w m = nat_cmp_total.antisymm (second_of x) (second_of y) ∙ ap ordering_reverse (fewer (second_of y) (second_of x) (smaller_second y x hy hx ly (sym first) m) ∙ sym (smaller 14 y x hy hx m)) ∙ sym (nat_list_cmp_total.antisymm x y)
