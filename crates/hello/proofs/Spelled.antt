-- Bytes of one length are one hello's, and each hello has its own.
use Rattle.std.proofs.Common.{◌≡◌, ◌∙◌, ◌<◌, ◌≤◌, ◌^◌, ℕ, ◌+◌, List, ◌++◌, length, take, drop, get_or, refl, sym, ap, arith}
use Rattle.std.specs.Int.{w16, to_be_bytes, from_be_bytes}
use Rattle.std.proofs.lemmas.List.{length-append, length-drop, length-take-le, take_at, drop_at, take_all, take-append-drop, take-take, drop-take, get_or-take, get_or-drop, get_or_past}
use Rattle.std.proofs.lemmas.Nat.{be_bytes_2, from_be_bytes-to_be_bytes_2}
use Rattle.std.proofs.lemmas.Bool.{cases_lt}
use Rattle.std.proofs.Common.{inl, inr}
use Rattle.hello.specs.declared.hello.Hello.{Hello}
use Rattle.hello.specs.Hello.{spelled, IsHello}

-- texts with fronts of one length are the same where their fronts and their backs are
pub split_front : (x y u v : List ℕ) → length x ≡ length u → x ++ y ≡ u ++ v → (x ≡ u) × (y ≡ v)
split_front x y u v front e = (
  sym (take_at x y (length u) front) ∙ ap (λ (l : List ℕ). take (length u) l) e ∙ take_at u v (length u) refl,
  sym (drop_at x y (length u) front) ∙ ap (λ (l : List ℕ). drop (length u) l) e ∙ drop_at u v (length u) refl,
)

-- and so are those with backs of one length
pub split_back : (x y u v : List ℕ) → length y ≡ length v → x ++ y ≡ u ++ v → (x ≡ u) × (y ≡ v)
split_back x y u v long e =
    split_front x y u v (omega (arith, length-append x y, length-append u v, ap length e, long)) e

-- a hello by its fields
abbrev pub hello_of : ℕ → ℕ → ℕ → List ℕ → List ℕ → List ℕ → List ℕ → Hello
hello_of v f t i k d n = record { version = v; «from» = f; to = t; incarnation = i; known = k; digest = d; nonce = n }

-- numbers with the same two bytes are the same
number_again : (m n : ℕ) → m < 2 ^ 16 → n < 2 ^ 16 → to_be_bytes w16 m ≡ to_be_bytes w16 n → m ≡ n
number_again m n fits fits' e = sym (from_be_bytes-to_be_bytes_2 m fits) ∙ ap (λ (l : List ℕ). from_be_bytes w16 l) e ∙ from_be_bytes-to_be_bytes_2 n fits'

pub length-spelled : (h : Hello) → IsHello h → length (spelled h) ≡ 102
unfolding spelled
length-spelled h is =
    let v = to_be_bytes w16 h.version in
    let f = to_be_bytes w16 h.from in
    let t = to_be_bytes w16 h.to in
    let two : length (v ++ f ++ t) ≡ 6 = refl in
    omega (arith, two, length-append (v ++ f ++ t) h.incarnation, length-append (v ++ f ++ t ++ h.incarnation) h.known, length-append (v ++ f ++ t ++ h.incarnation ++ h.known) h.digest, length-append (v ++ f ++ t ++ h.incarnation ++ h.known ++ h.digest) h.nonce, is.incarnation, is.known, is.digest, is.nonce)

pub spelled_again : (g h : Hello) → IsHello g → IsHello h → spelled g ≡ spelled h → g ≡ h
unfolding spelled
spelled_again g h is is' e =
    let nonce = split_back _ g.nonce _ h.nonce (is.nonce ∙ sym is'.nonce) e in
    let digest = split_back _ g.digest _ h.digest (is.digest ∙ sym is'.digest) nonce.0 in
    let known = split_back _ g.known _ h.known (is.known ∙ sym is'.known) digest.0 in
    let incarnation = split_back _ g.incarnation _ h.incarnation (is.incarnation ∙ sym is'.incarnation) known.0 in
    let to = split_back (to_be_bytes w16 g.version ++ to_be_bytes w16 g.from) (to_be_bytes w16 g.to) (to_be_bytes w16 h.version ++ to_be_bytes w16 h.from) (to_be_bytes w16 h.to) refl incarnation.0 in
    let start = split_back (to_be_bytes w16 g.version) (to_be_bytes w16 g.from) (to_be_bytes w16 h.version) (to_be_bytes w16 h.from) refl to.0 in
    let v : g.version ≡ h.version = number_again _ _ is.version is'.version start.0 in
    let f : g.from ≡ h.from = number_again _ _ is.«from» is'.«from» start.1 in
    let t : g.to ≡ h.to = number_again _ _ is.to is'.to to.1 in
    let i : g.incarnation ≡ h.incarnation = incarnation.1 in
    let k : g.known ≡ h.known = known.1 in
    let d : g.digest ≡ h.digest = digest.1 in
    let n : g.nonce ≡ h.nonce = nonce.1 in
    let all : hello_of g.version g.from g.to g.incarnation g.known g.digest g.nonce ≡ hello_of h.version h.from h.to h.incarnation h.known h.digest h.nonce = cc in
    all

-- so many bytes from a place on, put behind those before it, are the front up to there
front_more : (xs : List ℕ) (n m : ℕ) → take n xs ++ take m (drop n xs) ≡ take (n + m) xs
front_more xs n m =
    sym (sym (take-append-drop n (take (n + m) xs)) ∙ ap (λ (l : List ℕ). l ++ drop n (take (n + m) xs)) (take-take n (n + m) xs (omega arith)) ∙ ap (λ (l : List ℕ). take n xs ++ l) (drop-take n m xs))

-- the hello that stands in these bytes
abbrev pub hello_at : List ℕ → Hello
hello_at bytes = hello_of (from_be_bytes w16 (take 2 (drop 0 bytes))) (from_be_bytes w16 (take 2 (drop 2 bytes))) (from_be_bytes w16 (take 2 (drop 4 bytes))) (take 16 (drop 6 bytes)) (take 16 (drop 22 bytes)) (take 32 (drop 38 bytes)) (take 32 (drop 70 bytes))

length-part : (bytes : List ℕ) (at n : ℕ) → at + n ≤ length bytes → length (take n (drop at bytes)) ≡ n
length-part bytes at n within = length-take-le n (drop at bytes) (omega (arith, length-drop at bytes))

-- bytes, taken two at a time, are bytes
part_fits : (bytes : List ℕ) (at i : ℕ) → ((i : ℕ) → get_or bytes i 0 < 256) → at + 2 ≤ length bytes → get_or (take 2 (drop at bytes)) i 0 < 256
part_fits bytes at i fits within =
    elim (cases_lt i 2) [
      | inl lt ↦ rw (get_or-take 2 (drop at bytes) i 0 lt, get_or-drop at bytes i 0) (fits (at + i))
      | inr le ↦ rw (get_or_past (take 2 (drop at bytes)) i 0 (omega (arith, length-part bytes at 2 within))) (omega arith)
    ]

-- two bytes are those of the number that they are
number_bytes : (bytes : List ℕ) (at : ℕ) → ((i : ℕ) → get_or bytes i 0 < 256) → at + 2 ≤ length bytes → to_be_bytes w16 (from_be_bytes w16 (take 2 (drop at bytes))) ≡ take 2 (drop at bytes)
number_bytes bytes at fits within =
    be_bytes_2 (take 2 (drop at bytes)) (from_be_bytes w16 (take 2 (drop at bytes))) (length-part bytes at 2 within) (λ i. part_fits bytes at i fits within) refl

number_fits : (bytes : List ℕ) (at : ℕ) → ((i : ℕ) → get_or bytes i 0 < 256) → at + 2 ≤ length bytes → from_be_bytes w16 (take 2 (drop at bytes)) < 2 ^ 16
number_fits bytes at fits within = omega (arith, part_fits bytes at 0 fits within, part_fits bytes at 1 fits within)

-- seven parts, each so long and behind the one before it, are the whole
parts_are : (xs : List ℕ) (a b c d e f g : ℕ) → length xs ≤ a + b + c + d + e + f + g → take a xs ++ take b (drop a xs) ++ take c (drop (a + b) xs) ++ take d (drop (a + b + c) xs) ++ take e (drop (a + b + c + d) xs) ++ take f (drop (a + b + c + d + e) xs) ++ take g (drop (a + b + c + d + e + f) xs) ≡ xs
parts_are xs a b c d e f g long =
    rw (front_more xs a b, front_more xs (a + b) c, front_more xs (a + b + c) d, front_more xs (a + b + c + d) e, front_more xs (a + b + c + d + e) f, front_more xs (a + b + c + d + e + f) g)
    (take_all (a + b + c + d + e + f + g) xs long)

-- three parts in front may be read for what they are
front_same : (u v w x y z rest others more last : List ℕ) → u ≡ x → v ≡ y → w ≡ z → u ++ v ++ w ++ rest ++ others ++ more ++ last ≡ x ++ y ++ z ++ rest ++ others ++ more ++ last
front_same u v w x y z rest others more last p q r = cc

pub read_again : (bytes : List ℕ) → ((i : ℕ) → get_or bytes i 0 < 256) → length bytes ≡ 102 → spelled (hello_at bytes) ≡ bytes
unfolding spelled
read_again bytes fits long =
    front_same (to_be_bytes w16 (hello_at bytes).version) (to_be_bytes w16 (hello_at bytes).from) (to_be_bytes w16 (hello_at bytes).to) (take 2 bytes) (take 2 (drop 2 bytes)) (take 2 (drop 4 bytes)) (take 16 (drop 6 bytes)) (take 16 (drop 22 bytes)) (take 32 (drop 38 bytes)) (take 32 (drop 70 bytes))
    (number_bytes bytes 0 fits (omega arith)) (number_bytes bytes 2 fits (omega arith)) (number_bytes bytes 4 fits (omega arith))
    ∙ parts_are bytes 2 2 2 16 16 32 32 (omega arith)

-- the hello that stands there is one
pub read_is : (bytes : List ℕ) → ((i : ℕ) → get_or bytes i 0 < 256) → length bytes ≡ 102 → IsHello (hello_at bytes)
read_is bytes fits long = record {
  version = number_fits bytes 0 fits (omega arith);
  «from» = number_fits bytes 2 fits (omega arith);
  to = number_fits bytes 4 fits (omega arith);
  incarnation = length-part bytes 6 16 (omega arith);
  known = length-part bytes 22 16 (omega arith);
  digest = length-part bytes 38 32 (omega arith);
  nonce = length-part bytes 70 32 (omega arith);
}
