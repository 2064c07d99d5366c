-- What feeding a piece makes of a reader.
use Rattle.std.proofs.Common.{◌≡◌, ℕ, true, List, ◌∷◌, ◌++◌, drop, Option, Some, None, Result, Ok, Err, refl, sym, ap, ◌∙◌, append_assoc, arith}
use Rattle.std.specs.Prelude.{IfSome, option_to_list}
use Rattle.std.specs.List.{list_all}
use Rattle.std.proofs.lemmas.Bool.{cond-true, and_parts}
use Rattle.logical_time.specs.declared.fault.Fault.{Fault}
use Rattle.logical_time.specs.declared.fault.Fault.TheVariants.{Memory}
use Rattle.messages.specs.declared.op.Op.{Op}
use Rattle.wire.specs.Fields.{frame}
use Rattle.wire.specs.Requests.{request, is_spelled}
use Rattle.wire.specs.Frames.{ReaderValue, text, faulty, front_of, front_for, frames, IsFrameFault}
use Rattle.wire.specs.Answers.{Feeds, Taken}
use Rattle.wire.proofs.Faults.{front_fault}

feeds_fault_at : (T : Type 0) (piece : List ℕ) (old new : ReaderValue) (f : Fault) → IsFrameFault f → text new ≡ text old ++ piece → new.fault ≡ Some f → front_of new.rest ≡ faulty f → Feeds {T = T} piece old new (Err f)
feeds_fault_at T piece old new Memory h t s e = absurd (omega (arith, h.0))
feeds_fault_at T piece old new f h t s e = (t, s, e)

-- the piece stands at the end of the text
fed_text : (piece : List ℕ) (h0 h1 : List Op) (r0 r1 bytes : List ℕ) (used : ℕ) → bytes ≡ r0 ++ piece → r1 ≡ drop used bytes → frames h1 ++ drop used bytes ≡ frames h0 ++ bytes
    → frames h1 ++ r1 ≡ (frames h0 ++ r0) ++ piece
fed_text piece h0 h1 r0 r1 bytes used all rest so_far =
    ap (λ (t : List ℕ). frames h1 ++ t) rest ∙ so_far ∙ ap (λ (t : List ℕ). frames h0 ++ t) all ∙ sym (append_assoc (frames h0) r0 piece)

pub fed_ok : (T : Type 0) (piece : List ℕ) (h0 h1 : List Op) (r0 r1 bytes : List ℕ) (used : ℕ) (f0 f1 : Option Fault) (r : Result T Fault) (x : T) → bytes ≡ r0 ++ piece → r1 ≡ drop used bytes → frames h1 ++ drop used bytes ≡ frames h0 ++ bytes
    → front_of (drop used bytes) ≡ front_for f1 → f1 ≡ None → r ≡ Ok x → Feeds piece (record { held = h0; rest = r0; fault = f0 }) (record { held = h1; rest = r1; fault = f1 }) r
fed_ok T piece h0 h1 r0 r1 bytes used f0 f1 r x all rest so_far front fault is = rw is (fed_text piece h0 h1 r0 r1 bytes used all rest so_far, fault, rw rest (front ∙ ap front_for fault))

pub fed_fault : (T : Type 0) (piece : List ℕ) (h0 h1 : List Op) (r0 r1 bytes : List ℕ) (used : ℕ) (f0 f1 : Option Fault) (r : Result T Fault) (f : Fault) → bytes ≡ r0 ++ piece → r1 ≡ drop used bytes → frames h1 ++ drop used bytes ≡ frames h0 ++ bytes
    → front_of (drop used bytes) ≡ front_for f1 → f1 ≡ Some f → r ≡ Err f → Feeds piece (record { held = h0; rest = r0; fault = f0 }) (record { held = h1; rest = r1; fault = f1 }) r
fed_fault T piece h0 h1 r0 r1 bytes used f0 f1 r f all rest so_far front fault is =
    let found : front_of r1 ≡ faulty f = rw rest (front ∙ ap front_for fault) in
    rw is (feeds_fault_at T piece (record { held = h0; rest = r0; fault = f0 }) (record { held = h1; rest = r1; fault = f1 }) f (front_fault r1 f found) (fed_text piece h0 h1 r0 r1 bytes used all rest so_far) fault found)

-- the first request held is taken off the text
pub taken_first : (op : Op) (old new : ReaderValue) → is_spelled op ≡ true → old.held ≡ op ∷ new.held → new.rest ≡ old.rest → Taken op old new
taken_first op old new spelled held rest =
    (frame (request op), cond-true (is_spelled op) (Some (frame (request op))) None spelled, ap (λ (h : List Op). frames h ++ old.rest) held ∙ rw rest (append_assoc (frame (request op)) (frames new.held) old.rest))

-- the first of the queue is taken off the text
pub taken_next : (r : Option Op) (h0 h1 : List Op) (rest : List ℕ) (f : Option Fault) → h0 ≡ option_to_list r ++ h1 → list_all is_spelled h0 ≡ true
    → IfSome r (λ op. Taken op (record { held = h0; rest = rest; fault = f }) (record { held = h1; rest = rest; fault = f }))
taken_next None h0 h1 rest f is spelled = tt
taken_next (Some op) h0 h1 rest f is spelled =
    let both = and_parts (is_spelled op) (list_all is_spelled h1) (rw is at spelled) in
    taken_first op (record { held = h0; rest = rest; fault = f }) (record { held = h1; rest = rest; fault = f }) both.0 is refl
