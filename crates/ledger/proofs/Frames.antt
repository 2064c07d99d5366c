-- A reader that was fed the frame of a request.
use Rattle.std.proofs.Common.{◌≡◌, ℕ, ◌+◌, List, [], ◌∷◌, ◌++◌, length, Option, Some, None, refl, sym, ap, ◌∙◌, arith}
use Rattle.std.specs.Prelude.{IfSome, IfNone}
use Rattle.std.proofs.lemmas.List.{append-nil, length-append}
use Rattle.std.proofs.lemmas.List.Concat.{flat_map-cons}
use Rattle.byteorder.specs.Endian.{big_bytes}
use Rattle.byteorder.specs.Numbers.{length-bytes_high_first}
use Rattle.messages.specs.declared.op.Op.{Op}
use Rattle.wire.specs.Fields.{frame}
use Rattle.wire.specs.Requests.{request, spelling}
use Rattle.wire.specs.Frames.{ReaderValue, text, front_of, frames, NoneFirst}
use Rattle.wire.specs.Answers.{Taken}
use Rattle.wire.proofs.Streams.{spelling_read, request_apart}

frame_length : (body : List ℕ) → length (frame body) ≡ 4 + length body
frame_length body = omega (arith, length-bytes_high_first 4 (length body), length-append (big_bytes 4 (length body)) body)

-- the frame of a request isn't left unread
frame_held : (op : Op) (s : ReaderValue) → spelling op ≡ Some (text s) → NoneFirst s.rest → s.held ≡ [] → ⊥
frame_held op s e none held =
    let is : text s ≡ s.rest = ap (λ (h : List Op). frames h ++ s.rest) held in
    none op (length (text s)) (ap front_of (sym is ∙ sym (append-nil (text s))) ∙ spelling_read op (text s) [] e)

held_none : (held : List Op) (rest : List ℕ) → frames held ++ rest ≡ [] → (held ≡ []) × (rest ≡ [])
held_none [] rest e = (refl, e)
held_none (x ∷ xs) rest e =
    let long : length (frames (x ∷ xs) ++ rest) ≡ (4 + length (request x)) + length (frames xs) + length rest =
    length-append (frames (x ∷ xs)) rest ∙ ap (λ n. n + length rest) (ap length (flat_map-cons (λ (o : Op). frame (request o)) x xs) ∙ length-append (frame (request x)) (frames xs) ∙ ap (λ n. n + length (frames xs)) (frame_length (request x))) in
    absurd (omega (arith, long, ap length e))

-- where a frame was fed nothing is left behind its request
taken_alone : (op o : Op) (s t : ReaderValue) → spelling op ≡ Some (text s) → Taken o s t → (t.held ≡ []) × (t.rest ≡ [])
taken_alone op o s t e taken =
    let apart = request_apart o op taken.0 (text s) (text t) taken.1 e (sym taken.2) in
    held_none t.held t.rest apart.0

-- a frame that was fed leaves its request first and nothing else
pub frame_spent : (r : Option Op) (s t : ReaderValue) → IfSome r (λ op. Taken op s t) → IfNone r ((s.held ≡ []) × (t ≡ s)) → NoneFirst s.rest → (s.rest ≡ [] → s.fault ≡ None) → t.rest ≡ s.rest → t.fault ≡ s.fault
    → (t.held ≡ [] → t.rest ≡ [] → t.fault ≡ None → ⊥) → (op : Op) → spelling op ≡ Some (text s) → ⊥
frame_spent None s t some none first clean rest fault left op e = frame_held op s e first none.0
frame_spent (Some o) s t some none first clean rest fault left op e =
    let alone = taken_alone op o s t e some in
    left alone.0 alone.1 (fault ∙ clean (sym rest ∙ alone.1))
