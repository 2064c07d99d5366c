-- Frames in bytes.
use Rattle.std.proofs.Common.{◌≡◌, ◌∙◌, ◌⊎◌, inl, inr, ℕ, ◌+◌, ◌≤◌, ◌<◌, ◌^◌, ltb, Bool, true, false, cond, List, [], ◌∷◌, ◌++◌, length, take, drop, get_or, Option, Some, None, Result, Ok, Err, refl, sym, ap, append_assoc, arith}
use Rattle.std.proofs.lemmas.Bool.{le-ltb, lt-ltb, ltb-false, cases_lt}
use Rattle.std.proofs.lemmas.List.{length-append, length-take, length-drop, drop-drop, take_at, drop_at, take-append-drop, append_cancel_left, get_or-take, get_or_past}
use Rattle.std.proofs.lemmas.Nat.{be_bytes_4}
use Rattle.byteorder.specs.Endian.{big_number, big_bytes}
use Rattle.byteorder.specs.Numbers.{big_from-take, big_number-reads_back, length-bytes_high_first}
use Rattle.logical_time.specs.declared.fault.Fault.{Fault}
use Rattle.logical_time.specs.declared.fault.Fault.TheVariants.{Oversize}
use Rattle.peers.specs.Frames.{frame, frames, AllFit, first_length}
use Rattle.peers.specs.Links.{IsBeginning}

-- numbers that are bytes
abbrev pub IsBytes : List ℕ → Type 0
IsBytes bytes = (i : ℕ) → get_or bytes i 0 < 256

IsBytes-take : (n : ℕ) (bytes : List ℕ) → IsBytes bytes → IsBytes (take n bytes)
IsBytes-take n bytes h i =
    elim (cases_lt i n) [
      | inl lt ↦ rw (get_or-take n bytes i 0 lt) (h i)
      | inr le ↦ rw (get_or_past (take n bytes) i 0 (omega (arith, length-take n bytes))) (omega arith)
    ]

-- which way a test went
chosen : {A : Type 0} (b : Bool) (x y z : A) → cond b x y ≡ z → ((b ≡ true) × (x ≡ z)) ⊎ ((b ≡ false) × (y ≡ z))
chosen true x y z e = inl (refl, e)
chosen false x y z e = inr (refl, e)

abbrev Answer : Type 0
Answer = Result (Option ℕ) Fault

abbrev some : ℕ → Answer
some n = Ok (Some n)

abbrev none : Answer
none = Ok None

pub some_of : (o : Option ℕ) (n : ℕ) → o ≡ Some n → ◌≡◌ {A = Answer} (Ok o) (some n)
some_of o n is = ap (λ (p : Option ℕ). Ok p) is

-- where a length is told, the whole frame is there
pub record IsFirst (most : ℕ) (bytes : List ℕ) (n : ℕ) : Type 0 where
  pub number : big_number 4 bytes ≡ n
  pub within : 4 + n ≤ length bytes
  pub fits : n ≤ most

pub is_first : (most : ℕ) (bytes : List ℕ) (n : ℕ) → first_length most bytes ≡ Ok (Some n) → IsFirst most bytes n
unfolding first_length
is_first most bytes n e =
    let k = big_number 4 bytes in
    elim (chosen (ltb (length bytes) 4) none _ (some n) e) [
      | inl a ↦ (let bad : none ≡ some n = a.1 in absurd cc)
      | inr a ↦ elim (chosen (ltb most k) (Err Oversize) _ (some n) a.1) [
        | inl b ↦ (let bad : ◌≡◌ {A = Answer} (Err Oversize) (some n) = b.1 in absurd cc)
        | inr b ↦ elim (chosen (ltb (length bytes) (4 + k)) none _ (some n) b.1) [
          | inl d ↦ (let bad : none ≡ some n = d.1 in absurd cc)
          | inr d ↦ (let same : some k ≡ some n = d.1 in let is : k ≡ n = cc in record {
            number = is;
            within = (let le = ltb-false _ _ d.0 in omega (arith, le, is));
            fits = (let le = ltb-false _ _ b.0 in omega (arith, le, is));
          })
        ]
      ]
    ]

-- bytes begin with the frame of what is cut out there
pub cut_first : (bytes : List ℕ) (n : ℕ) → IsBytes bytes → big_number 4 bytes ≡ n → 4 + n ≤ length bytes → bytes ≡ frame (take n (drop 4 bytes)) ++ drop (4 + n) bytes
cut_first bytes n are number within =
    let rest = drop 4 bytes in
    let same : big_number 4 (take 4 bytes) ≡ n = big_from-take 0 4 4 bytes (omega arith) ∙ number in
    let front : big_bytes 4 n ≡ take 4 bytes = rw (← same) (be_bytes_4 (take 4 bytes) (big_number 4 (take 4 bytes)) (omega (arith, within, length-take 4 bytes)) (IsBytes-take 4 bytes are) (omega arith)) in
    let long : length (take n rest) ≡ n = omega (arith, within, length-take n rest, length-drop 4 bytes) in
    let parts : frame (take n rest) ≡ take 4 bytes ++ take n rest = ap (λ k. big_bytes 4 k ++ take n rest) long ∙ ap (λ (xs : List ℕ). xs ++ take n rest) front in
    let behind : drop n rest ≡ drop (4 + n) bytes = drop-drop n 4 bytes in
    let tail : take n rest ++ drop (4 + n) bytes ≡ rest = ap (λ (xs : List ℕ). take n rest ++ xs) (sym behind) ∙ take-append-drop n rest in
    sym (ap (λ (xs : List ℕ). xs ++ drop (4 + n) bytes) parts ∙ append_assoc (take 4 bytes) (take n rest) (drop (4 + n) bytes)
    ∙ ap (λ (xs : List ℕ). take 4 bytes ++ xs) tail ∙ take-append-drop 4 bytes)

-- the whole frame is there
pub first_within : (most : ℕ) (bytes : List ℕ) (n : ℕ) → first_length most bytes ≡ Ok (Some n) → 4 + n ≤ length bytes
first_within most bytes n e = (is_first most bytes n e).within

-- and its body is what is read there
pub first_body : (most : ℕ) (bytes : List ℕ) (n : ℕ) (body : List ℕ) → IsBytes bytes → first_length most bytes ≡ Ok (Some n) → body ≡ take n (drop 4 bytes) → bytes ≡ frame body ++ drop (4 + n) bytes
first_body most bytes n body are e is =
    let f = is_first most bytes n e in
    cut_first bytes n are f.number f.within ∙ ap (λ (b : List ℕ). frame b ++ drop (4 + n) bytes) (sym is)

-- the body that is cut out there
pub cut_some : (most : ℕ) (bytes : List ℕ) (n : ℕ) (body : List ℕ) → IsBytes bytes → first_length most bytes ≡ Ok (Some n) → body ≡ take n (drop 4 bytes)
    → (first_length most bytes ≡ Ok (Some (length body))) × (bytes ≡ frame body ++ drop (4 + length body) bytes)
cut_some most bytes n body are e is =
    let f = is_first most bytes n e in
    let long : n ≡ length body = let h = ap length is in omega (arith, h, f.within, length-take n (drop 4 bytes), length-drop 4 bytes) in
    let parts : bytes ≡ frame (take n (drop 4 bytes)) ++ drop (4 + n) bytes = cut_first bytes n are f.number f.within in
    (e ∙ ap (λ (k : ℕ). some k) long, parts ∙ ap (λ (b : List ℕ). frame b ++ drop (4 + n) bytes) (sym is) ∙ ap (λ k. frame body ++ drop (4 + k) bytes) long)

-- ## Frames that are spelled

number_of_frame : (body rest : List ℕ) → length body < 256 ^ 4 → big_number 4 (frame body ++ rest) ≡ length body
number_of_frame body rest fits = ap (big_number 4) (append_assoc (big_bytes 4 (length body)) body rest) ∙ big_number-reads_back 4 (length body) (body ++ rest) fits

length-frame : (body : List ℕ) → length (frame body) ≡ 4 + length body
length-frame body = length-append (big_bytes 4 (length body)) body ∙ ap (λ n. n + length body) (length-bytes_high_first 4 (length body))

-- what is told of bytes that are long enough, by the number that stands first
told : (most : ℕ) (bytes : List ℕ) (n : ℕ) → 4 ≤ length bytes → n ≤ most → big_number 4 bytes ≡ n → 4 + n ≤ length bytes → first_length most bytes ≡ Ok (Some n)
unfolding first_length
told most bytes n long fits is within = rw (le-ltb (length bytes) 4 long, is, le-ltb most n fits, le-ltb (length bytes) (4 + n) within) refl

told_part : (most : ℕ) (bytes : List ℕ) (n : ℕ) → 4 ≤ length bytes → n ≤ most → big_number 4 bytes ≡ n → length bytes < 4 + n → first_length most bytes ≡ Ok None
unfolding first_length
told_part most bytes n long fits is part = rw (le-ltb (length bytes) 4 long, is, le-ltb most n fits, lt-ltb (length bytes) (4 + n) part) refl

told_short : (most : ℕ) (bytes : List ℕ) → length bytes < 4 → first_length most bytes ≡ Ok None
unfolding first_length
told_short most bytes short = rw (lt-ltb (length bytes) 4 short) refl

told_long : (most : ℕ) (bytes : List ℕ) (n : ℕ) → 4 ≤ length bytes → big_number 4 bytes ≡ n → most < n → first_length most bytes ≡ Err Oversize
unfolding first_length
told_long most bytes n long is above = rw (le-ltb (length bytes) 4 long, is, lt-ltb most n above) refl

pub frame_read : (most : ℕ) (body rest : List ℕ) → length body ≤ most → length body < 256 ^ 4 → first_length most (frame body ++ rest) ≡ Ok (Some (length body))
frame_read most body rest most_of fits =
    let long = length-append (frame body) rest in
    told most (frame body ++ rest) (length body) (omega (arith, long, length-frame body)) most_of (number_of_frame body rest fits) (omega (arith, long, length-frame body))

number_of_part : (body rest : List ℕ) (k : ℕ) → length body < 256 ^ 4 → 4 ≤ k → big_number 4 (take k (frame body ++ rest)) ≡ length body
number_of_part body rest k fits le = big_from-take 0 4 k (frame body ++ rest) le ∙ number_of_frame body rest fits

pub part_waits : (most : ℕ) (body : List ℕ) (k : ℕ) → length body ≤ most → length body < 256 ^ 4 → k < length (frame body) → first_length most (take k (frame body)) ≡ Ok None
part_waits most body k most_of fits lt =
    let long = length-take k (frame body) in
    elim (cases_lt k 4) [
      | inl short ↦ told_short most (take k (frame body)) (omega (arith, long, short))
      | inr le ↦ (
          let number : big_number 4 (take k (frame body)) ≡ length body = big_from-take 0 4 k (frame body) le ∙ big_number-reads_back 4 (length body) body fits in
          told_part most (take k (frame body)) (length body) (omega (arith, long, le, lt)) most_of number (omega (arith, long, lt, length-frame body)))
    ]

pub long_is_seen : (most : ℕ) (body rest : List ℕ) (k : ℕ) → most < length body → length body < 256 ^ 4 → 4 ≤ k → first_length most (take k (frame body ++ rest)) ≡ Err Oversize
long_is_seen most body rest k above fits le =
    let long = length-take k (frame body ++ rest) in
    told_long most (take k (frame body ++ rest)) (length body) (omega (arith, long, le, length-append (frame body) rest, length-frame body)) (number_of_part body rest k fits le) above

-- ## One list

same_first : (a b rest more : List ℕ) → length a < 256 ^ 4 → length b < 256 ^ 4 → frame a ++ rest ≡ frame b ++ more → (a ≡ b) × (rest ≡ more)
same_first a b rest more fa fb e =
    let long : length a ≡ length b = sym (number_of_frame a rest fa) ∙ ap (big_number 4) e ∙ number_of_frame b more fb in
    let sizes : length (frame b) ≡ length (frame a) = omega (arith, long, length-frame a, length-frame b) in
    let fronts : frame a ≡ frame b = sym (take_at (frame a) rest (length (frame a)) refl) ∙ ap (take (length (frame a))) e ∙ take_at (frame b) more (length (frame a)) sizes in
    let rests : rest ≡ more = sym (drop_at (frame a) rest (length (frame a)) refl) ∙ ap (drop (length (frame a))) e ∙ drop_at (frame b) more (length (frame a)) sizes in
    let bodies : a ≡ b = append_cancel_left (big_bytes 4 (length a)) a b (fronts ∙ ap (λ n. big_bytes 4 n ++ b) (sym long)) in
    (bodies, rests)

pub one_list : (xs ys : List (List ℕ)) (rest more : List ℕ) → AllFit xs → AllFit ys → frames xs ++ rest ≡ frames ys ++ more → IsBeginning xs ys ⊎ IsBeginning ys xs
one_list [] ys rest more fa fb e = inl (ys, refl)
one_list (a ∷ xs) [] rest more fa fb e = inr (a ∷ xs, refl)
one_list (a ∷ xs) (b ∷ ys) rest more fa fb e =
    let split : frame a ++ (frames xs ++ rest) ≡ frame b ++ (frames ys ++ more) = sym (append_assoc (frame a) (frames xs) rest) ∙ e ∙ append_assoc (frame b) (frames ys) more in
    let first = same_first a b (frames xs ++ rest) (frames ys ++ more) fa.0 fb.0 split in
    let same : a ∷ xs ≡ b ∷ xs = ap (λ (x : List ℕ). x ∷ xs) first.0 in
    elim (one_list xs ys rest more fa.1 fb.1 first.1) [
      | inl p ↦ inl (p.0, ap (λ (zs : List (List ℕ)). b ∷ zs) p.1 ∙ ap (λ (x : List ℕ). x ∷ (xs ++ p.0)) (sym first.0))
      | inr p ↦ inr (p.0, same ∙ ap (λ (zs : List (List ℕ)). b ∷ zs) p.1)
    ]
