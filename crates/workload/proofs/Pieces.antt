-- The pieces of a text that is written.
use Rattle.std.proofs.Common.{◌≡◌, ◌∙◌, ℕ, ◌+◌, ◌-◌, ◌≤◌, arith, slice_set, append_assoc, length-take, length-drop, length-set, length-append, codes, ◌<◌, ◌/◌, ◌%◌, suc, List, [], ◌∷◌, ◌++◌, slice_index, get_or, length, take, drop, Option, Result, Ok, Err, refl, ap, sym, subst, drop-cons, take-append-drop, append-nil}
use Rattle.std.specs.Prelude.{IsErrAnd}
use Rattle.std.specs.List.{flat_map}
use Rattle.std.proofs.lemmas.List.{drop_all, length-take-le, take_more, take_more_set}
use Rattle.std.proofs.lemmas.Slice.{take-put_mid}
use lib.Seq.{take_at}
use borrow.Rule.Slice.PartMut.{put_mid, same_len_mid}
use Rattle.std.proofs.lemmas.List.Concat.{flat_map-append}
use Rattle.hex.specs.Hex.{encode_with, encode_lower, lower_digits}
use Rattle.logical_time.specs.declared.fault.Fault.{Fault}
use Rattle.program.specs.declared.output.Output.{Output}
use Rattle.program.specs.Outputs.{Adds}
use Rattle.program.proofs.Written.{fails_first, then_adds}

-- the digits of a beginning and of the rest
pub encode_append : (t xs ys : List ℕ) → encode_with t (xs ++ ys) ≡ encode_with t xs ++ encode_with t ys
unfolding encode_with
encode_append t [] ys = refl
encode_append t (x ∷ xs) ys = ap (λ l. slice_index t (x / 16) ∷ slice_index t (x % 16) ∷ l) (encode_append t xs ys)

-- a piece and then what is left of the text
pub joined : {W T U : Type 0} (contents : W → Option (List ℕ)) (old mid new : Output W) (done : T) (result : Result U Fault) (whole a b : List ℕ) → whole ≡ a ++ b
    → Adds contents old mid (Ok done) a → Adds contents mid new result b → Adds contents old new result whole
joined contents old mid new done result whole a b is first step =
    subst (λ text. Adds contents old new result text) (sym is) (then_adds contents old mid new done result a b first step)

-- the text ends at a piece that failed
pub ended : {W T U : Type 0} (contents : W → Option (List ℕ)) (old new : Output W) (e : Fault) (result : Result U Fault) (whole a b : List ℕ) → whole ≡ a ++ b
    → IsErrAnd result (λ f. f ≡ e) → Adds {T = T} contents old new (Err e) a → Adds {T = U} contents old new result whole
ended contents old new e (Ok x) whole a b is failed step = absurd failed
ended {U} contents old new e (Err f) whole a b is failed step =
    subst (λ text. Adds {T = U} contents old new (Err f) text) (sym is)
    (subst (λ g. Adds {T = U} contents old new (Err g) (a ++ b)) (sym failed) (fails_first contents old new e a b step))

-- each item's text: those before this one, this one, and those after it
pub each_left : {X : Type 0} (f : X → List ℕ) (xs : List X) (i : ℕ) (x : X) → i < length xs → x ≡ get_or xs i x
    → flat_map f xs ≡ flat_map f (take i xs) ++ (f x ++ flat_map f (drop (suc i) xs))
each_left f xs i x lt is =
    ap (flat_map f) (sym (take-append-drop i xs)) ∙ flat_map-append f (take i xs) (drop i xs)
    ∙ ap (λ l. flat_map f (take i xs) ++ flat_map f l) (drop-cons xs i x lt)
    ∙ ap (λ y. flat_map f (take i xs) ++ (f y ++ flat_map f (drop (suc i) xs))) (sym is)

pub each_next : {X : Type 0} (f : X → List ℕ) (xs : List X) (i : ℕ) (x : X) → i < length xs → x ≡ get_or xs i x
    → flat_map f (take (i + 1) xs) ≡ flat_map f (take i xs) ++ f x
each_next f xs i x lt is =
    ap (flat_map f) (take_more xs i x lt) ∙ flat_map-append f (take i xs) (get_or xs i x ∷ [])
    ∙ ap (λ y. flat_map f (take i xs) ++ (f y ++ [])) (sym is) ∙ ap (λ l. flat_map f (take i xs) ++ l) (append-nil (f x))

-- the text ends at an item that failed
pub each_ended : {W T U X : Type 0} (contents : W → Option (List ℕ)) (old mid new : Output W) (done : U) (e : Fault) (result : Result U Fault)
    (f : X → List ℕ) (xs : List X) (i : ℕ) (x : X) → i < length xs → x ≡ get_or xs i x → Adds contents old mid (Ok done) (flat_map f (take i xs))
    → IsErrAnd result (λ g. g ≡ e) → Adds {T = T} contents mid new (Err e) (f x) → Adds {T = U} contents old new result (flat_map f xs)
each_ended contents old mid new done e result f xs i x lt is before failed step =
    let rest = flat_map f (drop (suc i) xs) in
    joined contents old mid new done result (flat_map f xs) (flat_map f (take i xs)) (f x ++ rest) (each_left f xs i x lt is) before
    (ended contents mid new e result (f x ++ rest) (f x) rest refl failed step)

-- four parts behind a first one
pub behind : (a b c d e : List ℕ) → a ++ (b ++ c ++ d ++ e) ≡ a ++ b ++ c ++ d ++ e
behind a b c d e = simp append_assoc

-- ## Digits

-- so many bytes' digits, and then those of a few more
pub digits_joined : {W T U : Type 0} (contents : W → Option (List ℕ)) (old mid new : Output W) (done : T) (result : Result U Fault) (bytes before few : List ℕ) → bytes ≡ before ++ few
    → Adds contents old mid (Ok done) (encode_lower before) → Adds contents mid new result (encode_lower few) → Adds contents old new result (encode_lower bytes)
digits_joined contents old mid new done result bytes before few is first step =
    joined contents old mid new done result (encode_lower bytes) (encode_lower before) (encode_lower few) (ap encode_lower is ∙ encode_append lower_digits before few) first step

-- the mark at the beginning
pub mark_first : (xs : List ℕ) (x : ℕ) → 1 ≤ length xs → take 1 (slice_set xs 0 x) ≡ x ∷ []
mark_first [] x some = absurd (omega (arith, some))
mark_first (y ∷ xs) x some = refl

-- both marks at the beginning
pub marks_first : (xs : List ℕ) (x y : ℕ) → 2 ≤ length xs → take 2 (slice_set (slice_set xs 0 x) 1 y) ≡ x ∷ y ∷ []
marks_first [] x y some = absurd (omega (arith, some))
marks_first (a ∷ []) x y some = absurd (omega (arith, some))
marks_first (a ∷ b ∷ xs) x y some = refl

-- a name's digits behind the first mark, and a value's behind the second
pub column_is : (xs name value left right : List ℕ) (m e : ℕ) → name ≡ left → value ≡ right → m ≡ 1 + length left → e ≡ m + 1 + length right → e ≤ length xs → take 1 xs ≡ 32 ∷ []
    → take e (put_mid (m + 1) (e - (m + 1)) (slice_set (put_mid 1 (m - 1) xs name) m 61) value) ≡ codes " " ++ left ++ codes "=" ++ right
column_is xs name value left right m e is_left is_right hm he fits first =
    rw (is_left, is_right)
    (let ys = put_mid 1 (m - 1) xs left in
    let long : length ys ≡ length xs = same_len_mid 1 (m - 1) xs left (omega (arith, length-take (m - 1) (drop 1 xs), length-drop 1 xs)) in
    let a : take m ys ≡ take 1 xs ++ left = take-put_mid 1 (m - 1) xs left m hm (omega arith) in
    let b : take (m + 1) (slice_set ys m 61) ≡ take m ys ++ 61 ∷ [] = take_more_set ys m 61 (omega arith) in
    let c : length (slice_set ys m 61) ≡ length ys = length-set ys m 61 in
    take-put_mid (m + 1) (e - (m + 1)) (slice_set ys m 61) right e he (omega arith)
    ∙ ap (λ l. l ++ right) (b ∙ ap (λ l. l ++ 61 ∷ []) (a ∙ ap (λ l. l ++ left) first))
    ∙ simp append_assoc)

-- words, and digits behind them
pub words_is : (xs words digits left right : List ℕ) (m e : ℕ) → words ≡ left → digits ≡ right → m ≡ length left → e ≡ m + length right → e ≤ length xs
    → take e (put_mid m (e - m) (words ++ drop m xs) digits) ≡ left ++ right
words_is xs words digits left right m e is_left is_right hm he fits =
    rw (is_left, is_right)
    (take-put_mid m (e - m) (left ++ drop m xs) right e he (omega (arith, length-append left (drop m xs)))
    ∙ ap (λ l. l ++ right) (take_at left (drop m xs) m (sym hm)))

-- a key's digits between the two marks before it and the one behind it
pub key_is : (xs key digits : List ℕ) (e : ℕ) → key ≡ digits → e ≡ 2 + length digits → e + 1 ≤ length xs → take 2 xs ≡ codes "  "
    → take (e + 1) (slice_set (put_mid 2 (e - 2) xs key) e 58) ≡ codes "  " ++ digits ++ codes ":"
key_is xs key digits e is he fits first =
    rw is
    (let ys = put_mid 2 (e - 2) xs digits in
    let long : length ys ≡ length xs = same_len_mid 2 (e - 2) xs digits (omega (arith, length-take (e - 2) (drop 2 xs), length-drop 2 xs)) in
    take_more_set ys e 58 (omega arith)
    ∙ ap (λ l. l ++ 58 ∷ []) (take-put_mid 2 (e - 2) xs digits e he (omega arith) ∙ ap (λ l. l ++ digits) first)
    ∙ simp append_assoc)

-- a piece is laid behind what is laid
pub laid_more : (xs piece a b : List ℕ) (end k : ℕ) → end ≤ length xs → k ≤ length piece → take end xs ≡ a → take k piece ≡ b
    → take (end + k) (put_mid end (length xs - end) xs piece) ≡ a ++ b
laid_more xs piece a b end k fits short before is =
    let none : drop (length xs - end) (drop end xs) ≡ [] = drop_all (length xs - end) (drop end xs) (omega (arith, length-drop end xs)) in
    ap (λ l. take (end + k) (take end xs ++ (piece ++ l))) none
    ∙ ap (λ l. take (end + k) (take end xs ++ l)) (append-nil piece ∙ sym (take-append-drop k piece))
    ∙ ap (take (end + k)) (sym (append_assoc (take end xs) (take k piece) (drop k piece)))
    ∙ take_at (take end xs ++ take k piece) (drop k piece) (end + k) (omega (arith, length-append (take end xs) (take k piece), length-take-le end xs fits, length-take-le k piece short))
    ∙ ap (λ l. l ++ take k piece) before ∙ ap (λ l. a ++ l) is

-- the end of a line behind what is laid
pub line_is : (xs piece a b : List ℕ) (middle k : ℕ) → middle + k < length xs → k ≤ length piece → length (put_mid middle (length xs - middle) xs piece) ≡ length xs → take middle xs ≡ a → take k piece ≡ b
    → take (middle + k + 1) (slice_set (put_mid middle (length xs - middle) xs piece) (middle + k) 10) ≡ a ++ b ++ codes "\n"
line_is xs piece a b middle k fits short same before is =
    let ys = put_mid middle (length xs - middle) xs piece in
    take_more_set ys (middle + k) 10 (omega (arith, fits, same))
    ∙ ap (λ l. l ++ 10 ∷ []) (laid_more xs piece a b middle k (omega (arith, fits)) short before is)
