-- Streams of frames.
use Rattle.std.proofs.Common.{◌≡◌, ℕ, ◌+◌, ◌<◌, ◌≤◌, Bool, true, false, cond, List, [], ◌∷◌, ◌++◌, length, take, drop, All, Option, Some, None, refl, sym, ap, subst, ◌∙◌, append_assoc, arith, inl, inr}
use Rattle.std.specs.List.{list_all}
use Rattle.std.proofs.lemmas.Bool.{cases_lt, cond-true, and_parts, leb-true}
use Rattle.std.proofs.lemmas.List.{append-nil, nil_from_length, length-append, length-drop, take_at, drop_at, get_or_past}
use Rattle.byteorder.specs.Endian.{big_number, big_bytes}
use Rattle.byteorder.specs.Numbers.{length-bytes_high_first, big_number-reads_back}
use Rattle.logical_time.specs.declared.fault.Fault.{Fault}
use Rattle.messages.specs.declared.op.Op.{Op}
use Rattle.wire.specs.Fields.{longest, frame}
use Rattle.wire.specs.Requests.{request, is_spelled, spelling}
use Rattle.wire.specs.Replies.{Reply, reply, fits_reply, is_reply_spelled, reply_spelling}
use Rattle.wire.specs.Frames.{waits, faulty, whole, front_of, front_for, frames, NoneFirst, ReaderValue, IsRead}
use Rattle.wire.proofs.Steps.{IsBytes}
use Rattle.wire.proofs.RequestsAgain.{front_again}
use Rattle.wire.proofs.RepliesAgain.{reply_told}
use Rattle.wire.proofs.Whole.{front_whole}

-- a spelling is a frame
given : {A : Type 0} (b : Bool) (x y : A) → cond b (Some x) None ≡ Some y → (b ≡ true) × (x ≡ y)
given true x y e = (refl, cc)
given false x y e = absurd cc

pub spelling_read : (op : Op) (bytes rest : List ℕ) → spelling op ≡ Some bytes → front_of (bytes ++ rest) ≡ whole op (length bytes)
spelling_read op bytes rest e =
    let g = given (is_spelled op) (frame (request op)) bytes e in
    subst (λ (s : List ℕ). front_of (s ++ rest) ≡ whole op (length s)) g.1 (front_again op rest g.0)

are_bytes : (bytes : List ℕ) → All (λ b. b < 256) bytes → IsBytes bytes
are_bytes bytes all i =
    elim (cases_lt i (length bytes)) [
      | inl lt ↦ all i 0 lt
      | inr le ↦ rw (get_or_past bytes i 0 le) (omega arith)
    ]

pub read_within : (bytes : List ℕ) (op : Op) (used : ℕ) → All (λ b. b < 256) bytes → front_of bytes ≡ whole op used → used ≤ length bytes
read_within bytes op used all e = (front_whole bytes op used (are_bytes bytes all) e).within

-- the front of a list that has a given length
front_is : (x bytes : List ℕ) (n : ℕ) → bytes ≡ x ++ drop n bytes → n ≤ length bytes → take n bytes ≡ x
front_is x bytes n e le =
    let len : length x ≡ n = let h : length bytes ≡ length x + length (drop n bytes) = ap length e ∙ length-append x (drop n bytes) in omega (arith, h, length-drop n bytes) in
    ap (take n) e ∙ take_at x (drop n bytes) n len

pub read_spelled : (bytes : List ℕ) (op : Op) (used : ℕ) → All (λ b. b < 256) bytes → front_of bytes ≡ whole op used → spelling op ≡ Some (take used bytes)
read_spelled bytes op used all e =
    let w = front_whole bytes op used (are_bytes bytes all) e in
    cond-true (is_spelled op) (Some (frame (request op))) None w.spelled ∙ ap (λ (s : List ℕ). Some s) (sym (front_is (frame (request op)) bytes used w.parts w.within))

whole_is : (a b : Op) (m n : ℕ) → whole a m ≡ whole b n → (a ≡ b) × (m ≡ n)
whole_is a b m n e = (cc, cc)

rest_is_nil : (s rest : List ℕ) → length s ≡ length (s ++ rest) → rest ≡ []
rest_is_nil s rest e = nil_from_length rest (let h = length-append s rest in omega (arith, e, h))

pub request_apart : (a b : Op) (s t rest : List ℕ) → spelling a ≡ Some s → spelling b ≡ Some t → s ++ rest ≡ t → (rest ≡ []) × (a ≡ b)
request_apart a b s t rest sa tb e =
    let one : front_of (s ++ rest) ≡ whole a (length s) = spelling_read a s rest sa in
    let other : front_of (s ++ rest) ≡ whole b (length t) = ap front_of (e ∙ sym (append-nil t)) ∙ spelling_read b t [] tb in
    let same = whole_is a b (length s) (length t) (sym one ∙ other) in
    (rest_is_nil s rest (same.1 ∙ ap length (sym e)), same.0)

-- the length that stands first in a frame
frame_number : (body rest : List ℕ) → length body ≤ longest → big_number 4 (frame body ++ rest) ≡ length body
frame_number body rest le = ap (big_number 4) (append_assoc (big_bytes 4 (length body)) body rest) ∙ big_number-reads_back 4 (length body) (body ++ rest) (omega (arith, le))

frame_length : (body : List ℕ) → length (frame body) ≡ 4 + length body
frame_length body = omega (arith, length-bytes_high_first 4 (length body), length-append (big_bytes 4 (length body)) body)

frames_apart : (x y rest : List ℕ) → length x ≤ longest → length y ≤ longest → frame x ++ rest ≡ frame y → (rest ≡ []) × (x ≡ y)
frames_apart x y rest lx ly e =
    let same : length x ≡ length y = sym (frame_number x rest lx) ∙ ap (big_number 4) (e ∙ sym (append-nil (frame y))) ∙ frame_number y [] ly in
    let none : rest ≡ [] = rest_is_nil (frame x) rest (omega (arith, frame_length x, frame_length y, same, ap length e)) in
    let whole : frame x ≡ frame y = sym (append-nil (frame x)) ∙ ap (λ (t : List ℕ). frame x ++ t) (sym none) ∙ e in
    let behind : (t : List ℕ) → drop 4 (frame t) ≡ t = λ t. drop_at (big_bytes 4 (length t)) t 4 (length-bytes_high_first 4 (length t)) in
    (none, sym (behind x) ∙ ap (drop 4) whole ∙ behind y)

pub reply_apart : (a b : Reply) (s t rest : List ℕ) → reply_spelling a ≡ Some s → reply_spelling b ≡ Some t → s ++ rest ≡ t → (rest ≡ []) × (a ≡ b)
reply_apart a b s t rest sa tb e =
    let g = given (is_reply_spelled a) (frame (reply a)) s sa in
    let h = given (is_reply_spelled b) (frame (reply b)) t tb in
    let p = and_parts (fits_reply a) _ g.0 in
    let q = and_parts (fits_reply b) _ h.0 in
    let apart = frames_apart (reply a) (reply b) rest (leb-true _ _ p.1) (leb-true _ _ q.1) (ap (λ (u : List ℕ). u ++ rest) g.1 ∙ e ∙ sym h.1) in
    (apart.0, reply_told a b p.0 q.0 apart.1)

-- a list that begins with another, without it
same_rest : (s a b : List ℕ) → s ++ a ≡ s ++ b → a ≡ b
same_rest [] a b e = e
same_rest (x ∷ s) a b e = same_rest s a b (ap (drop 1) e)

none_spelled : (x : Op) (xs : List Op) (a b : List ℕ) → is_spelled x ≡ true → NoneFirst b → frames (x ∷ xs) ++ a ≡ b → ⊥
none_spelled x xs a b spelled none e =
    none x (length (frame (request x))) (ap front_of (sym e ∙ append_assoc (frame (request x)) (frames xs) a) ∙ front_again x (frames xs ++ a) spelled)

pub one_way : (xs ys : List Op) (a b : List ℕ) → list_all is_spelled xs ≡ true → list_all is_spelled ys ≡ true → NoneFirst a → NoneFirst b → frames xs ++ a ≡ frames ys ++ b → (xs ≡ ys) × (a ≡ b)
one_way [] [] a b sx sy na nb e = (refl, e)
one_way (x ∷ xs) [] a b sx sy na nb e = absurd (none_spelled x xs a b (and_parts (is_spelled x) (list_all is_spelled xs) sx).0 nb e)
one_way [] (y ∷ ys) a b sx sy na nb e = absurd (none_spelled y ys b a (and_parts (is_spelled y) (list_all is_spelled ys) sy).0 na (sym e))
one_way (x ∷ xs) (y ∷ ys) a b sx sy na nb e =
    let p = and_parts (is_spelled x) (list_all is_spelled xs) sx in
    let q = and_parts (is_spelled y) (list_all is_spelled ys) sy in
    let left = append_assoc (frame (request x)) (frames xs) a in
    let right = append_assoc (frame (request y)) (frames ys) b in
    let one = front_again x (frames xs ++ a) p.0 in
    let other = front_again y (frames ys ++ b) q.0 in
    let same = whole_is x y _ _ (sym one ∙ ap front_of (sym left ∙ e ∙ right) ∙ other) in
    let tail : frames xs ++ a ≡ frames ys ++ b = same_rest (frame (request y)) (frames xs ++ a) (frames ys ++ b) (ap (λ (o : Op). frame (request o) ++ (frames xs ++ a)) (sym same.0) ∙ sym left ∙ e ∙ right) in
    let rest = one_way xs ys a b p.1 q.1 na nb tail in
    (ap (λ (o : Op). o ∷ xs) same.0 ∙ ap (λ (os : List Op). y ∷ os) rest.0, rest.1)

stopped : (rest : List ℕ) (fault : Option Fault) → front_of rest ≡ front_for fault → NoneFirst rest
stopped rest None e op used w = let bad : waits ≡ whole op used = sym e ∙ w in absurd cc
stopped rest (Some f) e op used w = let bad : faulty f ≡ whole op used = sym e ∙ w in absurd cc

pub reader_stopped : (s : ReaderValue) → IsRead s → NoneFirst s.rest
reader_stopped s r =
    elim r.front [
      | inl e ↦ stopped s.rest s.fault e
      | inr h ↦ stopped s.rest None h.waits
    ]
