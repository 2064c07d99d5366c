-- What is written fits, or doesn't.
use Rattle.std.proofs.Common.{◌≡◌, ℕ, ◌+◌, ◌-◌, ◌^◌, ◌<◌, ◌≤◌, Bool, true, false, ◌&&◌, List, [], ◌∷◌, ◌++◌, length, get_or, take, drop, subst, sym, ap, ◌∙◌, append_assoc, arith}
use Rattle.std.specs.Prelude.{nat_le}
use Rattle.std.specs.List.{flat_map, list_all}
use Rattle.std.proofs.lemmas.List.Folds.{list_all_more, list_all_at}
use Rattle.std.proofs.lemmas.Grind.{flat_map-append}
use Rattle.std.proofs.lemmas.Bool.{lt-leb, le-leb, lt-ltb, and_from, and_left, and_right}
use Rattle.std.proofs.lemmas.List.{flat_map_more, take_more, take_all, take-append-drop, length-append}
use Rattle.byteorder.specs.Endian.{big_bytes}
use Rattle.logical_time.specs.Stamps.{StampValue}
use Rattle.wire.specs.Answers.{Refuses}
use Rattle.wire.specs.declared.error.FrameError.{FrameError}
use Rattle.wire.specs.declared.error.FrameError.TheVariants as errors
use Rattle.wire.specs.Fields.{longest}
use Rattle.wire.specs.Replies.{commit_and_stamp, fits_commit_and_stamp}

flat_take : {A : Type 0} (f : A → List ℕ) (xs : List A) (k : ℕ) → length (flat_map f (take k xs)) ≤ length (flat_map f xs)
flat_take f xs k =
    let parts : flat_map f xs ≡ flat_map f (take k xs) ++ flat_map f (drop k xs) = ap (flat_map f) (sym (take-append-drop k xs)) ∙ flat_map-append f (take k xs) (drop k xs) in
    let e = ap length parts ∙ length-append (flat_map f (take k xs)) (flat_map f (drop k xs)) in
    omega (arith, e)

-- one more item is written
pub text_more : {A : Type 0} (f : A → List ℕ) (xs : List A) (i : ℕ) (x : A) (start out new : List ℕ) → i < length xs → x ≡ get_or xs i x → out ≡ start ++ flat_map f (take i xs) → new ≡ out ++ f x → new ≡ start ++ flat_map f (take (i + 1) xs)
text_more {A = A} f xs i x start out new lt is so_far next =
    let more : take (i + 1) xs ≡ take i xs ++ x ∷ [] = take_more xs i x lt ∙ ap (λ (y : A). take i xs ++ y ∷ []) (sym is) in
    next ∙ ap (λ (t : List ℕ). t ++ f x) so_far ∙ flat_map_more f start (take i xs) x ∙ ap (λ (ys : List A). start ++ flat_map f ys) (sym more)

pub fits_more : {A : Type 0} (fit : A → Bool) (xs : List A) (i : ℕ) (x : A) → i < length xs → x ≡ get_or xs i x → list_all fit (take i xs) ≡ true → fit x ≡ true → list_all fit (take (i + 1) xs) ≡ true
fits_more {A = A} fit xs i x lt is all one = list_all_more fit xs i x lt ∙ and_from _ _ all (ap fit (sym is) ∙ one)

pub short_more : (text start new : List ℕ) → new ≡ start ++ text → length new - length start ≤ longest → length text ≤ longest
short_more text start new e le = omega (arith, le, ap length e, length-append start text)

-- an item that is refused
pub refuses_list : {A : Type 0} (e : FrameError) (fit : A → Bool) (xs : List A) (i : ℕ) (x : A) (other : Bool) → i < length xs → x ≡ get_or xs i x → Refuses e (fit x) → Refuses e (list_all fit xs && other)
refuses_list errors.Memory fit xs i x other lt is h = tt
refuses_list (errors.Frame f) fit xs i x other lt is h = (h.0, and_left _ other (list_all_at fit xs i x lt (ap fit (sym is) ∙ h.1)))

-- items of which the first ones are too long
pub too_long : {A : Type 0} (f : A → List ℕ) (fit : Bool) (xs : List A) (i : ℕ) (start new : List ℕ) → new ≡ start ++ flat_map f (take (i + 1) xs) → longest < length new - length start → (fit && nat_le (length (flat_map f xs)) longest) ≡ false
too_long f fit xs i start new text long =
    let size = ap length text ∙ length-append start (flat_map f (take (i + 1) xs)) in
    let big : longest < length (flat_map f xs) = omega (arith, long, size, flat_take f xs (i + 1)) in
    and_right fit _ (lt-leb _ _ big)

-- all items are written
pub all_written : {A : Type 0} (f : A → List ℕ) (fit : A → Bool) (xs : List A) (i : ℕ) (start out : List ℕ) → length xs ≤ i → list_all fit (take i xs) ≡ true → out ≡ start ++ flat_map f (take i xs) → length (flat_map f (take i xs)) ≤ longest
    → ((list_all fit xs && nat_le (length (flat_map f xs)) longest) ≡ true) × (out ≡ start ++ flat_map f xs)
all_written {A = A} f fit xs i start out le fits text short =
    let all : take i xs ≡ xs = take_all i xs le in
    (subst (λ (ys : List A). (list_all fit ys && nat_le (length (flat_map f ys)) longest) ≡ true) all (and_from _ _ fits (le-leb _ _ short)), text ∙ ap (λ (ys : List A). start ++ flat_map f ys) all)

-- times and nodes fit
pub commit_fits : (commit : ℕ) (stamp : StampValue) → commit < 2 ^ 48 → stamp.time < 2 ^ 48 → stamp.node < 2 ^ 16 → fits_commit_and_stamp commit stamp ≡ true
unfolding fits_commit_and_stamp
commit_fits commit stamp a b c =
    let x : commit < 256 ^ 8 = omega (arith, a) in
    let y : stamp.time < 256 ^ 8 = omega (arith, b) in
    let z : stamp.node < 256 ^ 2 = omega (arith, c) in
    and_from _ _ (lt-ltb commit (256 ^ 8) x) (and_from _ _ (lt-ltb stamp.time (256 ^ 8) y) (lt-ltb stamp.node (256 ^ 2) z))

-- three numbers, one after the other
pub commit_text : (old a b new : List ℕ) (x y z commit : ℕ) (stamp : StampValue) → a ≡ old ++ big_bytes 8 x → b ≡ a ++ big_bytes 8 y → new ≡ b ++ big_bytes 2 z → x ≡ commit → y ≡ stamp.time → z ≡ stamp.node
    → new ≡ old ++ commit_and_stamp commit stamp
unfolding commit_and_stamp
commit_text old a b new x y z commit stamp first second third ex ey ez =
    let regroup : ((old ++ big_bytes 8 x) ++ big_bytes 8 y) ++ big_bytes 2 z ≡ old ++ (big_bytes 8 x ++ (big_bytes 8 y ++ big_bytes 2 z)) =
    append_assoc (old ++ big_bytes 8 x) (big_bytes 8 y) (big_bytes 2 z) ∙ append_assoc old (big_bytes 8 x) (big_bytes 8 y ++ big_bytes 2 z) in
    let all : new ≡ ((old ++ big_bytes 8 x) ++ big_bytes 8 y) ++ big_bytes 2 z =
    third ∙ ap (λ (t : List ℕ). t ++ big_bytes 2 z) second ∙ ap (λ (t : List ℕ). (t ++ big_bytes 8 y) ++ big_bytes 2 z) first in
    all ∙ regroup ∙ ap (λ (n : ℕ). old ++ (big_bytes 8 n ++ (big_bytes 8 y ++ big_bytes 2 z))) ex ∙ ap (λ (n : ℕ). old ++ (big_bytes 8 commit ++ (big_bytes 8 n ++ big_bytes 2 z))) ey ∙ ap (λ (n : ℕ). old ++ (big_bytes 8 commit ++ (big_bytes 8 stamp.time ++ big_bytes 2 n))) ez
