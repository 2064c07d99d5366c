-- How long what waits may be.
use Rattle.std.proofs.Common.{◌≡◌, ℕ, ◌+◌, ◌≤◌, List, length, Bool, true, false, cond, Some, None, Ok, Err, refl, ap, sym, ◌∙◌, inl, inr, arith, length-append}
use Rattle.std.specs.Prelude.{◌&&◌, nat_le}
use Rattle.std.proofs.lemmas.Bool.Decides.{nat_tests}
use Rattle.logical_time.specs.declared.fault.Fault.TheVariants.{Memory, Oversize}
use Rattle.messages.specs.declared.op.Op.{Op}
use Rattle.byteorder.specs.Endian.{big_bytes}
use Rattle.byteorder.specs.Numbers.{length-bytes_high_first}
use Rattle.wire.specs.Fields.{longest, frame}
use Rattle.wire.specs.Replies.{Reply, reply, fits_reply, is_reply_spelled, reply_spelling}
use Rattle.front.specs.Served.{IsEncoding, any_need}
use Rattle.readiness.specs.Kept.{View}
use Rattle.readiness.specs.Turns.{AnswersOne, IsBounded}

given : {A : Type 0} (b : Bool) (x y : A) → cond b (Some x) None ≡ Some y → (b ≡ true) × (x ≡ y)
given true x y e = (refl, cc)
given false x y e = absurd cc

both : (a b : Bool) → a && b ≡ true → b ≡ true
both true b h = h
both false b h = absurd cc

frame_long : (body : List ℕ) → length (frame body) ≡ 4 + length body
frame_long body =
    let four : length (big_bytes 4 (length body)) ≡ 4 = length-bytes_high_first 4 (length body) in
    omega (arith, four, length-append (big_bytes 4 (length body)) body)

-- a spelling has at most so many bytes
spelled_short : (a : Reply) (bytes : List ℕ) → reply_spelling a ≡ Some bytes → length bytes ≤ 16777220
spelled_short a bytes e =
    let g = given (is_reply_spelled a) (frame (reply a)) bytes e in
    let fits : nat_le (length (reply a)) longest ≡ true = both (fits_reply a) (nat_le (length (reply a)) longest) g.0 in
    let len : length bytes ≡ 4 + length (reply a) = ap length (sym g.1) ∙ frame_long (reply a) in
    let le : length (reply a) ≤ 16777216 = grind (arith, nat_tests) in
    omega arith

encoding_short : (a : Reply) (bytes : List ℕ) → IsEncoding any_need a bytes → length bytes ≤ 16777220
encoding_short (Err f) bytes h = spelled_short (Err f) bytes h
encoding_short (Ok o) bytes h =
    elim h [
      | inl e ↦ spelled_short (Ok o) bytes e
      | inr rest ↦ elim rest [
        | inl e ↦ spelled_short (Err Oversize) bytes e.1
        | inr e ↦ spelled_short (Err Memory) bytes e.1
      ]
    ]

-- a reply more than the limit
pub answered_bounded : {P : Type 0} (steps : P → Op → Reply → P → Type 0) (limit : ℕ) (v : View) (p : P) (w : View) (q : P) → AnswersOne steps v p w q → length v.waiting ≤ limit → IsBounded limit w
answered_bounded steps limit v p w q a le =
    let len : length w.waiting ≡ length v.waiting + length a.bytes = ap (λ (u : View). length u.waiting) a.after ∙ length-append v.waiting a.bytes in
    let short = encoding_short a.answer a.bytes a.encoded in
    omega arith

-- no request was held, and what waits stays
pub idle_bounded : (limit : ℕ) (v w x : View) → w ≡ v → x.waiting ≡ w.waiting → length v.waiting ≤ limit → IsBounded limit x
idle_bounded limit v w x same waits le = let len : length x.waiting ≡ length v.waiting = ap length waits ∙ ap (λ (u : View). length u.waiting) same in omega arith
