-- Frames of moves.
use Rattle.std.proofs.Common.{◌≡◌, ℕ, ◌+◌, ◌^◌, ◌<◌, ◌≤◌, true, leb, List, [], ◌∷◌, ◌++◌, length, Some, None, Ok, refl, ap, ◌∙◌, arith}
use Rattle.std.proofs.lemmas.Bool.{lt-ltb, le-ltb, cond-true, and_from}
use Rattle.byteorder.specs.Endian.{big_bytes}
use Rattle.byteorder.specs.Numbers.{length-bytes_high_first}
use Rattle.messages.specs.declared.op.Op.TheVariants.{Move}
use Rattle.messages.specs.declared.outcome.Outcome.TheVariants.{Moved}
use Rattle.wire.specs.Fields.{longest, frame}
use Rattle.wire.specs.Requests.{spelling}
use Rattle.wire.specs.Replies.{is_reply_spelled, reply_spelling}

pub move_spelled : (dc : ℕ) → dc < 256 → spelling (Move dc) ≡ Some (0 ∷ 0 ∷ 0 ∷ 2 ∷ 3 ∷ dc ∷ [])
move_spelled dc lt = rw (lt-ltb dc 256 lt) refl

pub none_spelled : (dc : ℕ) → 256 ≤ dc → spelling (Move dc) ≡ None
none_spelled dc le = rw (le-ltb dc 256 le) refl

pub moved_spelled : (dc floor : ℕ) → dc < 256 → floor < 2 ^ 48 → reply_spelling (Ok (Moved dc floor)) ≡ Some (0 ∷ 0 ∷ 0 ∷ 10 ∷ 133 ∷ dc ∷ big_bytes 8 floor)
moved_spelled dc floor lt below =
    let fits : floor < 256 ^ 8 = omega (arith, below) in
    let body : List ℕ = 133 ∷ dc ∷ big_bytes 8 floor in
    let size : length body ≡ 10 = ap (λ n. n + 2) (length-bytes_high_first 8 floor) in
    let spelled : is_reply_spelled (Ok (Moved dc floor)) ≡ true =
    and_from _ _ (and_from _ _ (lt-ltb dc 256 lt) (lt-ltb floor (256 ^ 8) fits)) (ap (λ n. leb n longest) size) in
    cond-true (is_reply_spelled (Ok (Moved dc floor))) (Some (frame body)) None spelled ∙ ap (λ n. Some (big_bytes 4 n ++ body)) size
