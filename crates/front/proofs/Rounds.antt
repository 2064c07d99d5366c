-- Rounds of serving.
use Rattle.std.proofs.Common.{◌≡◌, ℕ, ◌+◌, ◌<◌, ◌≤◌, true, false, List, [], ◌++◌, length, None, refl, sym, ap, subst, ◌∙◌, inl, inr, ◌⊎◌, arith, length-append}
use Rattle.logical_time.specs.declared.fault.Fault.{Fault}
use Rattle.logical_time.specs.declared.fault.Fault.TheVariants.{Memory}
use Rattle.messages.specs.declared.op.Op.{Op}
use Rattle.wire.specs.Replies.{Reply}
use Rattle.wire.specs.Frames.{ReaderValue, text, frames, waits, front_of}
use Rattle.wire.proofs.Faults.{front_fault}
use Rattle.front.specs.declared.ended.Ended.{Ended}
use Rattle.front.specs.declared.ended.Ended.TheVariants.{Clean, ReadFailed, WriteFailed}
use Rattle.front.specs.Lines.{LineValue, raised, hears, ends, fails, awaited}
use Rattle.front.specs.Served.{Need, feeding, Begins, Answered, UpToDate, AtFault, AtPiece, ServedBy, most_pieces}
use Rattle.front.specs.Parts.{Refuses, EndsInput, GivesUp, Answering, CutOff, Passed, Going}
use Rattle.front.proofs.Said.{with_more-nil}
use Rattle.front.proofs.Requests.{begins-none, begins-then, begins-more}
use Rattle.front.proofs.Replies.{answered-none, answered-then}
use Rattle.front.proofs.Fed.{end_number, FoundFault, end_clean, end_inside}
use Rattle.front.proofs.Endings.{passed-heard, passed-said, failed_served, refused_served}

-- a reader without requests has its rest alone
text_is : (r : ReaderValue) → r.held ≡ [] → text r ≡ r.rest
text_is r e = ap (λ (ops : List Op). frames ops ++ r.rest) e

-- a piece came
passed-piece : {P : Type 0} {pieces : ℕ} (refuses : Need → Type 0) (steps : P → Op → Reply → P → Type 0) (l : LineValue) (p : P) (r : ReaderValue) (m : LineValue) (q : P) (piece : List ℕ) (n : LineValue) (h : Going refuses pieces steps l p r m q) → n ≡ hears piece m → Passed false (h.bytes ++ piece) h.told l n
passed-piece refuses steps l p r m q piece n h e =
    passed-heard h.bytes h.told piece l m n h.passed e

-- the requests that a piece completes stand behind those before it
begins_fed : {P : Type 0} {pieces : ℕ} (refuses : Need → Type 0) (steps : P → Op → Reply → P → Type 0) (l : LineValue) (p : P) (r : ReaderValue) (m : LineValue) (q : P) (piece : List ℕ) (s : ReaderValue) (ops : List Op) (rest : List ℕ) (h : Going refuses pieces steps l p r m q)
    → text s ≡ text r ++ piece → Begins (text s) ops rest → Begins (h.bytes ++ piece) (h.answered.ops ++ ops) rest
begins_fed refuses steps l p r m q piece s ops rest h fed begins =
    let shown : text s ≡ r.rest ++ piece = fed ∙ ap (λ (t : List ℕ). t ++ piece) (text_is r h.held) in
    begins-then (h.bytes ++ piece) h.answered.ops (r.rest ++ piece) ops rest (begins-more h.bytes h.answered.ops r.rest piece h.answered.begins) (subst (λ (t : List ℕ). Begins t ops rest) shown begins)

-- the requests of a reader stand behind those before it
begins_held : {P : Type 0} {pieces : ℕ} (refuses : Need → Type 0) (steps : P → Op → Reply → P → Type 0) (l : LineValue) (p : P) (r : ReaderValue) (m : LineValue) (q : P) (ops : List Op) (rest : List ℕ) (h : Going refuses pieces steps l p r m q) → Begins (text r) ops rest → Begins h.bytes (h.answered.ops ++ ops) rest
begins_held refuses steps l p r m q ops rest h begins =
    begins-then h.bytes h.answered.ops r.rest ops rest h.answered.begins (subst (λ (t : List ℕ). Begins t ops rest) (text_is r h.held) begins)

-- all that was held is taken
taken_all : (ops : List Op) (x : List ℕ) (s r : ReaderValue) → r.held ≡ [] → r.rest ≡ s.rest → Begins x ops (text r) → Begins x ops s.rest
taken_all ops x s r held rest begins = subst (λ (t : List ℕ). Begins x ops t) (text_is r held ∙ rest) begins

more_pieces : (bytes piece : List ℕ) (pieces : ℕ) → pieces ≤ length bytes → 0 < length piece → pieces + 1 ≤ length (bytes ++ piece)
more_pieces bytes piece pieces le some = omega (arith, length-append bytes piece)

at_least : (a b c : ℕ) → a ≤ b → b ≤ c → a ≤ c
at_least a b c le more = omega arith

-- a piece is read without a fault, and all that it completes is answered
pub goes_on : {P : Type 0} {pieces : ℕ} (refuses : Need → Type 0) (steps : P → Op → Reply → P → Type 0) (l : LineValue) (p : P) (r : ReaderValue) (m : LineValue) (q : P) (piece : List ℕ) (n : LineValue) (s : ReaderValue) (t : ReaderValue) (k : LineValue) (o : P)
    → Going refuses pieces steps l p r m q → n ≡ hears piece m → 0 < length piece → text s ≡ text r ++ piece → s.fault ≡ None → front_of s.rest ≡ waits → Answering refuses steps s n q t k o → t.held ≡ [] → Going refuses (pieces + 1) steps l p t k o
goes_on refuses steps l p r m q piece n s t k o h came some fed fault front a held = record {
  bytes = h.bytes ++ piece;
  told = h.told ++ a.told;
  counted = more_pieces h.bytes piece _ h.counted some;
  passed = passed-said (h.bytes ++ piece) h.told a.told l n k (passed-piece refuses steps l p r m q piece n h came) a.line;
  answered = record {
    ops = h.answered.ops ++ a.ops;
    begins = subst (λ (x : List ℕ). Begins (h.bytes ++ piece) (h.answered.ops ++ a.ops) x) (sym a.rest) (begins_fed refuses steps l p r m q piece s a.ops s.rest h fed (taken_all a.ops (text s) s t held a.rest a.begins));
    waiting = ap front_of a.rest ∙ front;
    answered = answered-then refuses steps p h.answered.ops h.told q a.ops a.told o h.answered.answered a.answered;
  };
  held = held;
  fault = a.fault ∙ fault;
}

-- the line failed among the answers
pub cut_served : {P : Type 0} {pieces : ℕ} (refuses : Need → Type 0) (steps : P → Op → Reply → P → Type 0) (l : LineValue) (p : P) (r : ReaderValue) (m : LineValue) (q : P) (piece : List ℕ) (n : LineValue) (s : ReaderValue) (k : LineValue) (o : P)
    → Going refuses pieces steps l p r m q → n ≡ hears piece m → (text s ≡ text r ++ piece) ⊎ (s ≡ r) → CutOff refuses steps (text s) n q k o → ServedBy refuses steps WriteFailed l p k o
cut_served refuses steps l p r m q piece n s k o h came fed a =
    let ops = h.answered.ops ++ a.begun.ops in
    let begun : (rest : List ℕ) × Begins (h.bytes ++ piece) ops rest = elim fed [
      | inl e ↦ (a.begun.rest, begins_fed refuses steps l p r m q piece s a.begun.ops a.begun.rest h e a.begun.begins)
      | inr e ↦ (a.begun.rest ++ piece, begins-more h.bytes ops a.begun.rest piece (begins_held refuses steps l p r m q a.begun.ops a.begun.rest h (subst (λ (x : ReaderValue). Begins (text x) a.begun.ops a.begun.rest) e a.begun.begins)))
    ] in
    failed_served refuses steps l p n k o false (h.bytes ++ piece) h.told a.sent a.replies (passed-piece refuses steps l p r m q piece n h came) a.line a.beginning (inl (
      refl,
      record {
        ops = ops;
        rest = begun.0;
        begins = begun.1;
        answered = answered-then refuses steps p h.answered.ops h.told q a.begun.ops a.replies o h.answered.answered a.begun.answered;
      },
    ))

-- a piece with a fault, before which all is answered
pub fault_served : {P : Type 0} {pieces : ℕ} (refuses : Need → Type 0) (steps : P → Op → Reply → P → Type 0) (l : LineValue) (p : P) (r : ReaderValue) (m : LineValue) (q : P) (piece : List ℕ) (n : LineValue) (s : ReaderValue) (t : ReaderValue) (k : LineValue) (o : P) (f : Fault) (result : Ended) (w : LineValue)
    → Going refuses pieces steps l p r m q → n ≡ hears piece m → 0 < length piece → (f ≡ Memory → refuses (feeding r.rest piece)) → ((f ≡ Memory) × (s ≡ r)) ⊎ FoundFault piece r s f → Answering refuses steps s n q t k o → t.held ≡ [] → Refuses f result k w → ServedBy refuses steps result l p w o
fault_served refuses steps l p r m q piece n s t k o f result w h came some memory fed a held last =
    let ops = h.answered.ops ++ a.ops in
    let told = h.told ++ a.told in
    let answered : Answered refuses steps p ops told o = answered-then refuses steps p h.answered.ops h.told q a.ops a.told o h.answered.answered a.answered in
    let stopped : AtFault refuses steps p false f (h.bytes ++ piece) told o ⊎ ((false ≡ false) × AtPiece refuses steps p f (h.bytes ++ piece) told o) = elim fed [
      | inl e ↦ inr (
        refl,
        record {
          memory = e.0;
          before = h.bytes;
          piece = piece;
          some = some;
          cut = refl;
          rest = r.rest;
          why = inl (memory e.0);
          answered = record {
            ops = ops;
            begins = subst (λ (x : ReaderValue). Begins h.bytes ops x.rest) e.1 (begins_held refuses steps l p r m q a.ops s.rest h (subst (λ (x : ReaderValue). Begins (text x) a.ops s.rest) e.1 (taken_all a.ops (text s) s t held a.rest a.begins)));
            waiting = h.answered.waiting;
            answered = answered;
          };
        },
      )
      | inr e ↦ inl (record {
        ops = ops;
        rest = s.rest;
        begins = begins_fed refuses steps l p r m q piece s a.ops s.rest h e.fed (taken_all a.ops (text s) s t held a.rest a.begins);
        number = front_fault s.rest f e.front;
        fault = inl (refl, e.front);
        answered = answered;
      })
    ] in
    refused_served refuses steps result l p k w o f false (h.bytes ++ piece) told (passed-said (h.bytes ++ piece) h.told a.told l n k (passed-piece refuses steps l p r m q piece n h came) a.line) last stopped

-- a piece that is refused
piece_served : {P : Type 0} {pieces : ℕ} (refuses : Need → Type 0) (steps : P → Op → Reply → P → Type 0) (l : LineValue) (p : P) (r : ReaderValue) (m : LineValue) (q : P) (piece : List ℕ) (result : Ended) (w : LineValue) → Going refuses pieces steps l p r m q → most_pieces ≤ pieces → 0 < length piece → Refuses Memory result (hears piece m) w → ServedBy refuses steps result l p w q
piece_served refuses steps l p r m q piece result w h most some last =
    refused_served refuses steps result l p (hears piece m) w q Memory false (h.bytes ++ piece) h.told (passed-piece refuses steps l p r m q piece (hears piece m) h refl) last (inr (refl, record { memory = refl; before = h.bytes; piece = piece; some = some; cut = refl; rest = r.rest; why = inr (at_least _ _ _ most h.counted); answered = h.answered }))

-- the input ended
pub input_served : {P : Type 0} {pieces : ℕ} (refuses : Need → Type 0) (steps : P → Op → Reply → P → Type 0) (l : LineValue) (p : P) (r : ReaderValue) (m : LineValue) (q : P) (result : Ended) (w : LineValue) → Going refuses pieces steps l p r m q → EndsInput r result (ends m) w → ServedBy refuses steps result l p w q
input_served refuses steps l p r m q result w h how =
    let so_far : Passed true h.bytes h.told l (ends m) = record { heard = h.passed.heard; said = h.passed.said; failures = h.passed.failures; ended_then = ap raised h.passed.ended_then } in
    elim how [
      | inl e ↦ subst (λ (x : Ended). ServedBy refuses steps x l p w q) (sym e.1) (subst (λ (x : LineValue). ServedBy refuses steps Clean l p x q) (sym e.2) (record {
        bytes = h.bytes;
        told = h.told;
        heard = h.passed.heard;
        said = h.passed.said;
        failures = h.passed.failures;
        ended = true;
        ended_then = ap raised h.passed.ended_then;
        ends = (refl, subst (λ (x : List ℕ). UpToDate refuses steps p h.bytes x h.told q) (end_clean r h.fault e.0) h.answered);
      }))
      | inr e ↦ refused_served refuses steps result l p (ends m) w q e.0 true h.bytes h.told so_far e.2 (inl (record {
        ops = h.answered.ops;
        rest = r.rest;
        begins = h.answered.begins;
        number = end_number r.rest e.0 (end_inside r e.0 h.fault h.answered.waiting e.1);
        fault = inr (refl, end_inside r e.0 h.fault h.answered.waiting e.1);
        answered = h.answered.answered;
      }))
    ]

-- the line failed to read
pub read_failed : {P : Type 0} {pieces : ℕ} (refuses : Need → Type 0) (steps : P → Op → Reply → P → Type 0) (l : LineValue) (p : P) (r : ReaderValue) (m : LineValue) (q : P) (w : LineValue) → Going refuses pieces steps l p r m q → w ≡ fails m → ServedBy refuses steps ReadFailed l p w q
read_failed refuses steps l p r m q w h e = subst (λ (x : LineValue). ServedBy refuses steps ReadFailed l p x q) (sym e) (record {
  bytes = h.bytes;
  told = h.told;
  heard = h.passed.heard;
  said = h.passed.said;
  failures = ap raised h.passed.failures;
  ended = false;
  ended_then = h.passed.ended_then;
  ends = (refl, r.rest, h.answered);
})

-- a line that is waited for is as before, but for its moments
pub going_awaited : {P : Type 0} {pieces : ℕ} (refuses : Need → Type 0) (steps : P → Op → Reply → P → Type 0) (l : LineValue) (p : P) (r : ReaderValue) (m : LineValue) (q : P) → Going refuses pieces steps l p r m q → Going refuses pieces steps l p r (awaited m) q
going_awaited refuses steps l p r m q h = record {
  bytes = h.bytes;
  told = h.told;
  counted = h.counted;
  passed = record { heard = h.passed.heard; said = h.passed.said; failures = h.passed.failures; ended_then = h.passed.ended_then };
  answered = h.answered;
  held = h.held;
  fault = h.fault;
}

pub gave_up : {P : Type 0} {pieces : ℕ} (refuses : Need → Type 0) (steps : P → Op → Reply → P → Type 0) (l : LineValue) (p : P) (r : ReaderValue) (m : LineValue) (q : P) (result : Ended) (w : LineValue) → Going refuses pieces steps l p r m q → most_pieces ≤ pieces → GivesUp r result m w → ServedBy refuses steps result l p w q
gave_up refuses steps l p r m q result w h most how =
    elim how [
      | inl e ↦ subst (λ (x : Ended). ServedBy refuses steps x l p w q) (sym e.0) (read_failed refuses steps l p r m q w h e.1)
      | inr other ↦ elim other [
        | inl e ↦ input_served refuses steps l p r (awaited m) q result w (going_awaited refuses steps l p r m q h) e
        | inr e ↦ piece_served refuses steps l p r (awaited m) q e.0 result w (going_awaited refuses steps l p r m q h) most e.1 e.2
      ]
    ]

-- serving begins
pub begins_going : {P : Type 0} (refuses : Need → Type 0) (steps : P → Op → Reply → P → Type 0) (l : LineValue) (p : P) (r : ReaderValue) → r ≡ record { held = []; rest = []; fault = None } → front_of [] ≡ waits → Going refuses 0 steps l p r l p
begins_going refuses steps l p r new front = subst (λ (x : ReaderValue). Going refuses 0 steps l p x l p) (sym new) (record {
  bytes = [];
  told = [];
  counted = omega arith;
  passed = record { heard = sym (with_more-nil l.heard); said = sym (with_more-nil l.said); failures = refl; ended_then = refl };
  answered = record { ops = []; begins = begins-none []; waiting = front; answered = answered-none refuses steps p };
  held = refl;
  fault = refl;
})
