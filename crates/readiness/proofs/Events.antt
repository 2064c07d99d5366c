-- What each event of taking in keeps.
use Rattle.std.proofs.Common.{◌≡◌, ℕ, List, [], ◌∷◌, ◌++◌, Bool, true, false, Option, Some, None, Err, refl, sym, ap, subst, ◌∙◌, append_assoc, inl, inr}
use Rattle.std.proofs.lemmas.List.{append-nil}
use Rattle.logical_time.specs.declared.fault.Fault.{Fault}
use Rattle.logical_time.specs.declared.fault.Fault.TheVariants.{Memory}
use Rattle.messages.specs.declared.op.Op.{Op}
use Rattle.wire.specs.Replies.{Reply}
use Rattle.wire.specs.Frames.{ReaderValue, text, frames, waits, faulty, front_of, front_for, EndsInside}
use Rattle.wire.specs.Answers.{Feeds, fault_at_end}
use Rattle.front.specs.Lines.{LineValue, with_more, raised, hears, ends, fails}
use Rattle.front.specs.Served.{Begins, AreEncodings, any_need, endings_after}
use Rattle.front.proofs.Said.{with_more-then}
use Rattle.front.proofs.Requests.{begins-more as begins-piece}
use Rattle.front.proofs.Fed.{end_clean, end_inside}
use Rattle.readiness.specs.declared.connection.Stage.{Stage}
use Rattle.readiness.specs.declared.connection.Stage.TheVariants.{Open, Ending, Failed}
use Rattle.readiness.specs.declared.connection.Stop.{Stop}
use Rattle.readiness.specs.Lines.{ReadyValue}
use Rattle.readiness.specs.Exchanges.{Exchange, requests, answers}
use Rattle.readiness.specs.Kept.{View, Kept, Stands, IsOpen, HasFailed, IsStopped}
use Rattle.readiness.specs.Turns.{Keeps, Turned, AnswersOne, IsRefused, StopsAt}
use Rattle.readiness.proofs.Histories.{begins-more, encodings-more}

pub open_is : (fault : Option Fault) (l : LineValue) (v : View) (rest told replies : List ℕ) → v.stage ≡ Open fault → Stands v.stage l v rest told replies → IsOpen fault l v rest told replies
open_is fault l v rest told replies e h = subst (λ (s : Stage). Stands s l v rest told replies) e h

-- a request that was held is answered
pub answered : {P : Type 0} (steps : P → Op → Reply → P → Type 0) (fault : Option Fault) (v : View) (p : P) (w : View) (q : P) → v.stage ≡ Open fault → AnswersOne steps v p w q → Turned steps v p w q
answered steps fault v p w q stage a =
    let x : Exchange = record { asked = a.op; told = a.answer } in
    let u : View = record { line = v.line; reader = a.reader; waiting = v.waiting ++ a.bytes; stage = v.stage } in (
      x ∷ [],
      (q, a.step, refl),
      λ l past k.
          let was = open_is fault l v k.rest k.told k.replies stage k.stands in
          subst (λ (z : View). Kept l (past ++ x ∷ []) z) (sym a.after) (record {
            bytes = k.bytes;
            told = k.told;
            rest = text a.reader;
            replies = k.replies ++ a.bytes;
            heard = k.heard;
            said = k.said;
            begins = begins-more past x k.bytes k.rest v.reader a.reader k.begins was.unread a.taken;
            encoded = encodings-more past x k.replies a.bytes k.encoded a.encoded;
            stands = subst (λ (s : Stage). Stands s l u (text a.reader) k.told (k.replies ++ a.bytes)) (sym stage) (record {
              unread = refl;
              sent = sym (append_assoc k.told v.waiting a.bytes) ∙ ap (λ (t : List ℕ). t ++ a.bytes) was.sent;
              endings = was.endings;
              failures = was.failures;
              front = ap front_of a.rest ∙ was.front;
              stopped = a.fault ∙ was.stopped;
            });
          }),
    )

-- a last reply is put behind what waits, when these bytes are all that wasn't answered
put_last : (f : Fault) (v w : View) (l : LineValue) (past : List Exchange) (ended : Bool) (bytes told rest replies : List ℕ) → IsRefused f v w → v.line.line.heard ≡ with_more bytes l.heard → v.line.line.said ≡ with_more told l.said
    → Begins bytes (requests past) rest → AreEncodings any_need (answers past) replies → told ++ v.waiting ≡ replies → v.line.line.endings ≡ endings_after ended l.endings → v.line.line.failures ≡ l.failures → IsStopped ended rest f → Kept l past w
put_last f v w l past ended bytes told rest replies refused heard said begins encoded sent endings failures why =
    subst (λ (u : View). Kept l past u) (sym refused.2) (record {
      bytes = bytes;
      told = told;
      rest = rest;
      replies = replies;
      heard = heard;
      said = said;
      begins = begins;
      encoded = encoded;
      stands = record {
        last = refused.0;
        sent = sym (append_assoc told v.waiting refused.0) ∙ ap (λ (t : List ℕ). t ++ refused.0) sent;
        ended = ended;
        ends = inr (f, refused.1, why);
        endings = endings;
        failures = failures;
      };
    })

-- memory is refused
pub refused_memory : (fault : Option Fault) (v w : View) → v.stage ≡ Open fault → IsRefused Memory v w → Keeps v w
refused_memory fault v w stage refused l past k =
    let was = open_is fault l v k.rest k.told k.replies stage k.stands in
    put_last Memory v w l past false k.bytes k.told k.rest k.replies refused k.heard k.said k.begins k.encoded was.sent was.endings was.failures (inr (inr (refl, refl)))

unread_rest : (fault : Option Fault) (l : LineValue) (v : View) (rest told replies : List ℕ) → IsOpen fault l v rest told replies → v.reader.held ≡ [] → rest ≡ v.reader.rest
unread_rest fault l v rest told replies was held = was.unread ∙ ap (λ (h : List Op). frames h ++ v.reader.rest) held

-- the fault that the reader stopped at is told, when no request is held
pub refused_fault : (f : Fault) (v w : View) → v.stage ≡ Open (Some f) → v.reader.held ≡ [] → IsRefused f v w → Keeps v w
refused_fault f v w stage held refused l past k =
    let was = open_is (Some f) l v k.rest k.told k.replies stage k.stands in
    put_last f v w l past false k.bytes k.told k.rest k.replies refused k.heard k.said k.begins k.encoded was.sent was.endings was.failures
    (inl (refl, ap front_of (unread_rest (Some f) l v k.rest k.told k.replies was held) ∙ was.front))

-- a piece came, and the reader took it, and goes on, or stopped at a fault
pub piece_read : (piece : List ℕ) (v : View) (s : ReadyValue) (r : ReaderValue) (fault : Option Fault) → v.stage ≡ Open None → v.line.line ≡ hears piece s.line → text r ≡ text v.reader ++ piece → r.fault ≡ fault → front_of r.rest ≡ front_for fault
    → Keeps (record { line = s; reader = v.reader; waiting = v.waiting; stage = v.stage }) (record { line = v.line; reader = r; waiting = v.waiting; stage = Open fault })
piece_read piece v s r fault stage came fed stopped front l past k =
    let was = open_is None l (record { line = s; reader = v.reader; waiting = v.waiting; stage = v.stage }) k.rest k.told k.replies stage k.stands in
    record {
      bytes = k.bytes ++ piece;
      told = k.told;
      rest = text r;
      replies = k.replies;
      heard = ap (λ (x : LineValue). x.heard) came ∙ ap (with_more piece) k.heard ∙ with_more-then k.bytes piece l.heard;
      said = ap (λ (x : LineValue). x.said) came ∙ k.said;
      begins = subst (λ (t : List ℕ). Begins (k.bytes ++ piece) (requests past) t) (ap (λ (t : List ℕ). t ++ piece) was.unread ∙ sym fed) (begins-piece k.bytes (requests past) k.rest piece k.begins);
      encoded = k.encoded;
      stands = record {
        unread = refl;
        sent = was.sent;
        endings = ap (λ (x : LineValue). x.endings) came ∙ was.endings;
        failures = ap (λ (x : LineValue). x.failures) came ∙ was.failures;
        front = front;
        stopped = stopped;
      };
    }

-- no fault is found in a piece
pub piece_taken : (piece : List ℕ) (v : View) (s : ReadyValue) (r : ReaderValue) → v.stage ≡ Open None → v.line.line ≡ hears piece s.line → (v.reader.fault ≡ None → (text r ≡ text v.reader ++ piece) × (r.fault ≡ None) × (front_of r.rest ≡ waits))
    → Keeps (record { line = s; reader = v.reader; waiting = v.waiting; stage = v.stage }) (record { line = v.line; reader = r; waiting = v.waiting; stage = v.stage })
piece_taken piece v s r stage came fed l past k =
    let was = open_is None l (record { line = s; reader = v.reader; waiting = v.waiting; stage = v.stage }) k.rest k.told k.replies stage k.stands in
    let f = fed was.stopped in
    subst (λ (t : Stage). Kept l past (record { line = v.line; reader = r; waiting = v.waiting; stage = t })) (sym stage) (piece_read piece v s r None stage came f.0 f.1 f.2 l past k)

-- a piece came, and memory for it was refused
piece_refused : (piece : List ℕ) (v : View) (s : ReadyValue) (u w : View) → v.stage ≡ Open None → v.line.line ≡ hears piece s.line → u ≡ v → IsRefused Memory u w
    → Keeps (record { line = s; reader = v.reader; waiting = v.waiting; stage = v.stage }) w
piece_refused piece v s u w stage came same refused l past k =
    let was = open_is None l (record { line = s; reader = v.reader; waiting = v.waiting; stage = v.stage }) k.rest k.told k.replies stage k.stands in
    put_last Memory v w l past false (k.bytes ++ piece) k.told (k.rest ++ piece) k.replies (subst (λ (x : View). IsRefused Memory x w) same refused)
    (ap (λ (x : LineValue). x.heard) came ∙ ap (with_more piece) k.heard ∙ with_more-then k.bytes piece l.heard)
    (ap (λ (x : LineValue). x.said) came ∙ k.said)
    (begins-piece k.bytes (requests past) k.rest piece k.begins)
    k.encoded was.sent
    (ap (λ (x : LineValue). x.endings) came ∙ was.endings)
    (ap (λ (x : LineValue). x.failures) came ∙ was.failures)
    (inr (inr (refl, refl)))

fed_same : (T : Type 0) (piece : List ℕ) (old new : ReaderValue) (f : Fault) → f ≡ Memory → Feeds {T = T} piece old new (Err f) → new ≡ old
fed_same T piece old new f e h = subst (λ (g : Fault). Feeds {T = T} piece old new (Err g)) e h

fed_stopped : (T : Type 0) (piece : List ℕ) (old new : ReaderValue) (f : Fault) → (f ≡ Memory → ⊥) → Feeds {T = T} piece old new (Err f) → (text new ≡ text old ++ piece) × (new.fault ≡ Some f) × (front_of new.rest ≡ faulty f)
fed_stopped T piece old new Memory other h = absurd (other refl)
fed_stopped T piece old new f other h = h

-- a piece came, and its fault stops the reader, or memory for it was refused
pub piece_stopped : (T : Type 0) (piece : List ℕ) (v : View) (s : ReadyValue) (r : ReaderValue) (f : Fault) (result : Option Stop) (w : View) → v.stage ≡ Open None → v.line.line ≡ hears piece s.line → (v.reader.fault ≡ None → Feeds {T = T} piece v.reader r (Err f))
    → StopsAt f result (record { line = v.line; reader = r; waiting = v.waiting; stage = v.stage }) w → Keeps (record { line = s; reader = v.reader; waiting = v.waiting; stage = v.stage }) w
piece_stopped T piece v s r f result w stage came fed stops l past k =
    let u : View = record { line = v.line; reader = r; waiting = v.waiting; stage = v.stage } in
    let was = open_is None l (record { line = s; reader = v.reader; waiting = v.waiting; stage = v.stage }) k.rest k.told k.replies stage k.stands in
    elim stops [
      | inl e ↦
          let same : u ≡ v = ap (λ (x : ReaderValue). record { line = v.line; reader = x; waiting = v.waiting; stage = v.stage }) (fed_same T piece v.reader r f e.0 (fed was.stopped)) in
          piece_refused piece v s u w stage came same (subst (λ (g : Fault). IsRefused g u w) e.0 e.2) l past k
      | inr e ↦
          let found = fed_stopped T piece v.reader r f e.0 (fed was.stopped) in
          subst (λ (x : View). Kept l past x) (sym e.2) (piece_read piece v s r (Some f) stage came found.0 found.1 found.2 l past k)
    ]

-- the input ended between two frames
pub ended_clean : (v : View) (s : ReadyValue) (r : ReaderValue) (last : List ℕ) → v.stage ≡ Open None → v.reader.held ≡ [] → v.line.line ≡ ends s.line → fault_at_end v.reader ≡ None → last ≡ []
    → Keeps (record { line = s; reader = v.reader; waiting = v.waiting; stage = v.stage }) (record { line = v.line; reader = r; waiting = v.waiting; stage = Ending last })
ended_clean v s r last stage held came at none l past k =
    let u : View = record { line = s; reader = v.reader; waiting = v.waiting; stage = v.stage } in
    let was = open_is None l u k.rest k.told k.replies stage k.stands in
    record {
      bytes = k.bytes;
      told = k.told;
      rest = k.rest;
      replies = k.replies;
      heard = ap (λ (x : LineValue). x.heard) came ∙ k.heard;
      said = ap (λ (x : LineValue). x.said) came ∙ k.said;
      begins = k.begins;
      encoded = k.encoded;
      stands = record {
        last = [];
        sent = ap (λ (t : List ℕ). k.told ++ (v.waiting ++ t)) none ∙ ap (λ (t : List ℕ). k.told ++ t) (append-nil v.waiting) ∙ was.sent ∙ sym (append-nil k.replies);
        ended = true;
        ends = inl (refl, unread_rest None l u k.rest k.told k.replies was held ∙ end_clean v.reader was.stopped at, refl);
        endings = ap (λ (x : LineValue). x.endings) came ∙ ap raised was.endings;
        failures = ap (λ (x : LineValue). x.failures) came ∙ was.failures;
      };
    }

-- the input ended inside a frame
pub ended_inside : (v : View) (s : ReadyValue) (r : ReaderValue) (f : Fault) (w : View) → v.stage ≡ Open None → v.reader.held ≡ [] → v.line.line ≡ ends s.line → fault_at_end v.reader ≡ Some f
    → IsRefused f (record { line = v.line; reader = r; waiting = v.waiting; stage = v.stage }) w → Keeps (record { line = s; reader = v.reader; waiting = v.waiting; stage = v.stage }) w
ended_inside v s r f w stage held came at refused l past k =
    let u : View = record { line = s; reader = v.reader; waiting = v.waiting; stage = v.stage } in
    let was = open_is None l u k.rest k.told k.replies stage k.stands in
    let is = unread_rest None l u k.rest k.told k.replies was held in
    put_last f (record { line = v.line; reader = r; waiting = v.waiting; stage = v.stage }) w l past true k.bytes k.told k.rest k.replies refused
    (ap (λ (x : LineValue). x.heard) came ∙ k.heard)
    (ap (λ (x : LineValue). x.said) came ∙ k.said)
    k.begins k.encoded was.sent
    (ap (λ (x : LineValue). x.endings) came ∙ ap raised was.endings)
    (ap (λ (x : LineValue). x.failures) came ∙ was.failures)
    (inr (inl (refl, subst (λ (t : List ℕ). EndsInside t (Some f)) (sym is) (end_inside v.reader f was.stopped was.front at))))

failed_at : (t : Stage) (l : LineValue) (v w : View) (rest told replies : List ℕ) → (t ≡ Failed → ⊥) → w.line.line ≡ fails v.line.line → Stands t l v rest told replies → HasFailed l w rest told replies
failed_at (Open fault) l v w rest told replies goes failed h = record {
  last = [];
  lost = v.waiting;
  sent = h.sent ∙ sym (append-nil replies);
  ended = false;
  ends = inl (refl, refl);
  endings = ap (λ (x : LineValue). x.endings) failed ∙ h.endings;
  failures = ap (λ (x : LineValue). x.failures) failed ∙ ap raised h.failures;
}
failed_at (Ending left) l v w rest told replies goes failed h = record {
  last = h.last;
  lost = v.waiting ++ left;
  sent = h.sent;
  ended = h.ended;
  ends = inr h.ends;
  endings = ap (λ (x : LineValue). x.endings) failed ∙ h.endings;
  failures = ap (λ (x : LineValue). x.failures) failed ∙ ap raised h.failures;
}
failed_at Failed l v w rest told replies goes failed h = absurd (goes refl)

-- a call of the line fails
pub has_failed : (v : View) (t : ReadyValue) (waiting : List ℕ) → (v.stage ≡ Failed → ⊥) → t.line ≡ fails v.line.line → Keeps v (record { line = t; reader = v.reader; waiting = waiting; stage = Failed })
has_failed v t waiting goes failed l past k = record {
  bytes = k.bytes;
  told = k.told;
  rest = k.rest;
  replies = k.replies;
  heard = ap (λ (x : LineValue). x.heard) failed ∙ k.heard;
  said = ap (λ (x : LineValue). x.said) failed ∙ k.said;
  begins = k.begins;
  encoded = k.encoded;
  stands = failed_at v.stage l v (record { line = t; reader = v.reader; waiting = waiting; stage = Failed }) k.rest k.told k.replies goes failed k.stands;
}

same_stands : (s : Stage) (l : LineValue) (v w : View) (rest told replies : List ℕ) → w.line.line ≡ v.line.line → w.reader ≡ v.reader → w.waiting ≡ v.waiting → Stands s l v rest told replies → Stands s l w rest told replies
same_stands (Open fault) l v w rest told replies line reader waiting h = record {
  unread = h.unread ∙ ap text (sym reader);
  sent = ap (λ (t : List ℕ). told ++ t) waiting ∙ h.sent;
  endings = ap (λ (x : LineValue). x.endings) line ∙ h.endings;
  failures = ap (λ (x : LineValue). x.failures) line ∙ h.failures;
  front = ap (λ (r : ReaderValue). front_of r.rest) reader ∙ h.front;
  stopped = ap (λ (r : ReaderValue). r.fault) reader ∙ h.stopped;
}
same_stands (Ending left) l v w rest told replies line reader waiting h = record {
  last = h.last;
  sent = ap (λ (t : List ℕ). told ++ (t ++ left)) waiting ∙ h.sent;
  ended = h.ended;
  ends = h.ends;
  endings = ap (λ (x : LineValue). x.endings) line ∙ h.endings;
  failures = ap (λ (x : LineValue). x.failures) line ∙ h.failures;
}
same_stands Failed l v w rest told replies line reader waiting h = record {
  last = h.last;
  lost = h.lost;
  sent = h.sent;
  ended = h.ended;
  ends = h.ends;
  endings = ap (λ (x : LineValue). x.endings) line ∙ h.endings;
  failures = ap (λ (x : LineValue). x.failures) line ∙ h.failures;
}

-- nothing came or went
pub same_kept : (v w : View) → w.line.line ≡ v.line.line → w.reader ≡ v.reader → w.waiting ≡ v.waiting → w.stage ≡ v.stage → Keeps v w
same_kept v w line reader waiting stage l past k = record {
  bytes = k.bytes;
  told = k.told;
  rest = k.rest;
  replies = k.replies;
  heard = ap (λ (x : LineValue). x.heard) line ∙ k.heard;
  said = ap (λ (x : LineValue). x.said) line ∙ k.said;
  begins = k.begins;
  encoded = k.encoded;
  stands = subst (λ (s : Stage). Stands s l w k.rest k.told k.replies) (sym stage) (same_stands v.stage l v w k.rest k.told k.replies line reader waiting k.stands);
}

pub open_goes : (fault : Option Fault) (s : Stage) → s ≡ Open fault → s ≡ Failed → ⊥
open_goes fault s e f = let bad : Open fault ≡ Failed = sym e ∙ f in absurd cc
