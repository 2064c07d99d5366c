-- Requests that are taken off a reader and answered.
use Rattle.std.proofs.Common.{◌≡◌, ℕ, List, [], ◌∷◌, ◌++◌, Bool, true, false, refl, ap, sym, subst, ◌∙◌, append_assoc, arith, length-append}
use Rattle.std.proofs.lemmas.List.{append-nil}
use Rattle.messages.specs.declared.op.Op.{Op}
use Rattle.wire.specs.Replies.{Reply}
use Rattle.wire.specs.Frames.{ReaderValue, text}
use Rattle.wire.specs.Answers.{Taken}
use Rattle.front.specs.Lines.{LineValue, says, fails}
use Rattle.front.specs.Served.{Need, IsEncoding}
use Rattle.front.specs.Parts.{Wrote, Puts, Holding, CutOff, AnswersHeld}
use Rattle.front.proofs.Said.{says-nil, says-then}
use Rattle.front.proofs.Requests.{begins-none, begins-then, begins-taken}
use Rattle.front.proofs.Replies.{answered-none, answered-one, answered-then}
use Rattle.front.proofs.Endings.{behind}

-- a frame waits
pub puts-waits : (piece waiting later : List ℕ) (l : LineValue) → later ≡ waiting ++ piece → Puts piece true waiting l later l
puts-waits piece waiting later l h = ([], sym h, sym (says-nil l))

-- the line failed before all that waited was written
pub puts-cut : (piece waiting later : List ℕ) (l m : LineValue) → Wrote waiting false l m → Puts piece false waiting l later m
puts-cut piece waiting later l m w =
    let others = w.1.0 in
    let some = w.1.1 in
    (w.0, (others ++ piece, omega (arith, some, length-append others piece), ap (λ (x : List ℕ). x ++ piece) w.1.2 ∙ append_assoc w.0 others piece), w.2)

-- all that waited is written, and then the frame
pub puts-after : (piece waiting later : List ℕ) (b : Bool) (l m n : LineValue) → m ≡ says waiting l → later ≡ [] → Wrote piece b m n → Puts piece b waiting l later n
puts-after piece waiting later true l m n was none w = (
  waiting ++ piece,
  sym (append-nil (waiting ++ piece)) ∙ ap (λ (x : List ℕ). (waiting ++ piece) ++ x) (sym none),
  w ∙ ap (says piece) was ∙ says-then waiting piece l,
)
puts-after piece waiting later false l m n was none w = (waiting ++ w.0, behind waiting w.0 piece w.1, w.2 ∙ ap (λ (x : LineValue). fails (says w.0 x)) was ∙ ap fails (says-then waiting w.0 l))

pub holding-none : {P : Type 0} (refuses : Need → Type 0) (steps : P → Op → Reply → P → Type 0) (r : ReaderValue) (l : LineValue) (p : P) (waiting : List ℕ) → waiting ≡ [] → Holding refuses steps r l p r l p waiting
holding-none refuses steps r l p waiting none = record {
  ops = [];
  replies = [];
  begins = begins-none (text r);
  answered = answered-none refuses steps p;
  sent = [];
  parts = sym none;
  line = sym (says-nil l);
  rest = refl;
  fault = refl;
}

-- what was written, and what waits with a reply more
with_reply : (replies sent waiting reply : List ℕ) → replies ≡ sent ++ waiting → replies ++ reply ≡ sent ++ (waiting ++ reply)
with_reply replies sent waiting reply parts = ap (λ (x : List ℕ). x ++ reply) parts ∙ append_assoc sent waiting reply

pub holding-one : {P : Type 0} (refuses : Need → Type 0) (steps : P → Op → Reply → P → Type 0) (old : ReaderValue) (l : LineValue) (p : P) (r : ReaderValue) (m : LineValue) (q : P) (waiting : List ℕ) (op : Op) (s : ReaderValue) (a : Reply) (reply : List ℕ) (n : LineValue) (t : P) (later : List ℕ)
    → Holding refuses steps old l p r m q waiting → Taken op r s → s.rest ≡ r.rest → s.fault ≡ r.fault → steps q op a t → IsEncoding refuses a reply → Puts reply true waiting m later n → Holding refuses steps old l p s n t later
holding-one refuses steps old l p r m q waiting op s a reply n t later h taken rest fault step is puts = record {
  ops = h.ops ++ op ∷ [];
  replies = h.replies ++ reply;
  begins = begins-then (text old) h.ops (text r) (op ∷ []) (text s) h.begins (begins-taken op r s taken);
  answered = answered-then refuses steps p h.ops h.replies q (op ∷ []) reply t h.answered (answered-one refuses steps q op a reply t step is);
  sent = h.sent ++ puts.0;
  parts = with_reply h.replies h.sent waiting reply h.parts ∙ ap (λ (x : List ℕ). h.sent ++ x) puts.1 ∙ sym (append_assoc h.sent puts.0 later);
  line = puts.2 ∙ ap (says puts.0) h.line ∙ says-then h.sent puts.0 l;
  rest = rest ∙ h.rest;
  fault = fault ∙ h.fault;
}

-- a beginning of what waits is written behind what was, and then the line failed
cut_behind : (l m n : LineValue) (sent more : List ℕ) → m ≡ says sent l → n ≡ fails (says more m) → n ≡ fails (says (sent ++ more) l)
cut_behind l m n sent more was is = is ∙ ap (λ (x : LineValue). fails (says more x)) was ∙ ap fails (says-then sent more l)

pub holding-cut : {P : Type 0} (refuses : Need → Type 0) (steps : P → Op → Reply → P → Type 0) (old : ReaderValue) (l : LineValue) (p : P) (r : ReaderValue) (m : LineValue) (q : P) (waiting : List ℕ) (op : Op) (s : ReaderValue) (a : Reply) (reply : List ℕ) (n : LineValue) (t : P) (later : List ℕ)
    → Holding refuses steps old l p r m q waiting → Taken op r s → steps q op a t → IsEncoding refuses a reply → Puts reply false waiting m later n → CutOff refuses steps (text old) l p n t
holding-cut refuses steps old l p r m q waiting op s a reply n t later h taken step is wrote = record {
  replies = h.replies ++ reply;
  begun = record {
    ops = h.ops ++ op ∷ [];
    rest = text s;
    begins = begins-then (text old) h.ops (text r) (op ∷ []) (text s) h.begins (begins-taken op r s taken);
    answered = answered-then refuses steps p h.ops h.replies q (op ∷ []) reply t h.answered (answered-one refuses steps q op a reply t step is);
  };
  sent = h.sent ++ wrote.0;
  beginning = rw (with_reply h.replies h.sent waiting reply h.parts) (behind h.sent wrote.0 (waiting ++ reply) wrote.1);
  line = cut_behind l m n h.sent wrote.0 h.line wrote.2;
}

-- what waits is written, when no request is held any more
held-written : {P : Type 0} (refuses : Need → Type 0) (steps : P → Op → Reply → P → Type 0) (old : ReaderValue) (l : LineValue) (p : P) (r : ReaderValue) (m : LineValue) (q : P) (waiting : List ℕ) (b : Bool) (n : LineValue)
    → Holding refuses steps old l p r m q waiting → r.held ≡ [] → Wrote waiting b m n → AnswersHeld refuses steps b old l p r n q
held-written refuses steps old l p r m q waiting true n h none wrote = (
  record {
    ops = h.ops;
    told = h.replies;
    begins = h.begins;
    answered = h.answered;
    line = wrote ∙ ap (says waiting) h.line ∙ says-then h.sent waiting l ∙ ap (λ (x : List ℕ). says x l) (sym h.parts);
    rest = h.rest;
    fault = h.fault;
  },
  none,
)
held-written refuses steps old l p r m q waiting false n h none wrote = record {
  replies = h.replies;
  begun = record { ops = h.ops; rest = text r; begins = h.begins; answered = h.answered };
  sent = h.sent ++ wrote.0;
  beginning = rw h.parts (behind h.sent wrote.0 waiting wrote.1);
  line = cut_behind l m n h.sent wrote.0 h.line wrote.2;
}

-- no request is held any more, and what waits is written
pub held-ended : {P : Type 0} (refuses : Need → Type 0) (steps : P → Op → Reply → P → Type 0) (old : ReaderValue) (l : LineValue) (p : P) (r s : ReaderValue) (m : LineValue) (q : P) (waiting : List ℕ) (b : Bool) (n : LineValue)
    → Holding refuses steps old l p r m q waiting → (r.held ≡ []) × (s ≡ r) → Wrote waiting b m n → AnswersHeld refuses steps b old l p s n q
held-ended refuses steps old l p r s m q waiting b n h none wrote =
    subst (λ (x : ReaderValue). AnswersHeld refuses steps b old l p x n q) (sym none.1) (held-written refuses steps old l p r m q waiting b n h none.0 wrote)
