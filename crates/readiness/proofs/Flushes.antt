-- What each event of writing keeps.
use Rattle.std.proofs.Common.{◌≡◌, ℕ, ◌≤◌, List, [], ◌++◌, length, take, drop, false, refl, sym, ap, subst, ◌∙◌, append_assoc, inl, inr, arith}
use Rattle.std.proofs.lemmas.List.{take-append-drop, drop_all}
use Rattle.wire.specs.Frames.{ReaderValue, text, front_of}
use Rattle.front.specs.Lines.{LineValue, with_more, says}
use Rattle.front.proofs.Said.{with_more-then}
use Rattle.readiness.specs.declared.connection.Stage.{Stage}
use Rattle.readiness.specs.declared.connection.Stage.TheVariants.{Open, Ending, Failed}
use Rattle.readiness.specs.declared.writing.Flow.{Flow}
use Rattle.readiness.specs.declared.writing.Flow.TheVariants as flow
use Rattle.readiness.specs.Lines.{ReadyValue}
use Rattle.readiness.specs.Kept.{View, Kept, Stands, IsEnding}
use Rattle.readiness.specs.Turns.{Keeps, Pushed, WaitingFlushed, LastWritten, Flushed, is_open, left_of}
use Rattle.readiness.proofs.Events.{has_failed}

-- so many bytes of what waits went, and what stands behind them waits
gone_of : (told waiting behind all : List ℕ) (n : ℕ) → told ++ (waiting ++ behind) ≡ all → (told ++ take n waiting) ++ (drop n waiting ++ behind) ≡ all
gone_of told waiting behind all n e =
    append_assoc told (take n waiting) (drop n waiting ++ behind) ∙ ap (λ (t : List ℕ). told ++ t) (sym (append_assoc (take n waiting) (drop n waiting) behind) ∙ ap (λ (t : List ℕ). t ++ behind) (take-append-drop n waiting)) ∙ e

gone_all : (told waiting all : List ℕ) (n : ℕ) → told ++ waiting ≡ all → (told ++ take n waiting) ++ drop n waiting ≡ all
gone_all told waiting all n e = append_assoc told (take n waiting) (drop n waiting) ∙ ap (λ (t : List ℕ). told ++ t) (take-append-drop n waiting) ∙ e

went_stands : (s : Stage) (v w : View) (n : ℕ) (l : LineValue) (rest told replies : List ℕ) → (s ≡ Failed → ⊥) → w.line.line ≡ says (take n v.waiting) v.line.line → w.reader ≡ v.reader → w.waiting ≡ drop n v.waiting → Stands s l v rest told replies
    → Stands s l w rest (told ++ take n v.waiting) replies
went_stands (Open fault) v w n l rest told replies goes line reader waiting h = record {
  unread = h.unread ∙ ap text (sym reader);
  sent = ap (λ (t : List ℕ). (told ++ take n v.waiting) ++ t) waiting ∙ gone_all told v.waiting replies n h.sent;
  endings = ap (λ (x : LineValue). x.endings) line ∙ h.endings;
  failures = ap (λ (x : LineValue). x.failures) line ∙ h.failures;
  front = ap (λ (r : ReaderValue). front_of r.rest) reader ∙ h.front;
  stopped = ap (λ (r : ReaderValue). r.fault) reader ∙ h.stopped;
}
went_stands (Ending left) v w n l rest told replies goes line reader waiting h = record {
  last = h.last;
  sent = ap (λ (t : List ℕ). (told ++ take n v.waiting) ++ (t ++ left)) waiting ∙ gone_of told v.waiting left (replies ++ h.last) n h.sent;
  ended = h.ended;
  ends = h.ends;
  endings = ap (λ (x : LineValue). x.endings) line ∙ h.endings;
  failures = ap (λ (x : LineValue). x.failures) line ∙ h.failures;
}
went_stands Failed v w n l rest told replies goes line reader waiting h = absurd (goes refl)

went : (v w : View) (n : ℕ) → (v.stage ≡ Failed → ⊥) → w.line.line ≡ says (take n v.waiting) v.line.line → w.reader ≡ v.reader → w.waiting ≡ drop n v.waiting → w.stage ≡ v.stage → Keeps v w
went v w n goes line reader waiting stage l past k = record {
  bytes = k.bytes;
  told = k.told ++ take n v.waiting;
  rest = k.rest;
  replies = k.replies;
  heard = ap (λ (x : LineValue). x.heard) line ∙ k.heard;
  said = ap (λ (x : LineValue). x.said) line ∙ ap (with_more (take n v.waiting)) k.said ∙ with_more-then k.told (take n v.waiting) l.said;
  begins = k.begins;
  encoded = k.encoded;
  stands = subst (λ (s : Stage). Stands s l w k.rest (k.told ++ take n v.waiting) k.replies) (sym stage) (went_stands v.stage v w n l k.rest k.told k.replies goes line reader waiting k.stands);
}

pub all_went : (v w : View) → (v.stage ≡ Failed → ⊥) → WaitingFlushed flow.All v w → Keeps v w
all_went v w goes h = went v w h.0 goes h.5.2 h.4 h.2 h.3

pub some_went : (v w : View) → (v.stage ≡ Failed → ⊥) → WaitingFlushed flow.Full v w → Keeps v w
some_went v w goes h = went v w h.0 goes h.5.2 h.4 h.2 h.3

pub none_waits : (v w : View) → WaitingFlushed flow.All v w → w.waiting ≡ []
none_waits v w h = h.2 ∙ drop_all h.0 v.waiting (let e = h.5.1 in omega arith)

pub write_failed : (v w : View) → (v.stage ≡ Failed → ⊥) → WaitingFlushed flow.Failed v w → Keeps v (record { line = w.line; reader = w.reader; waiting = w.waiting; stage = Failed })
write_failed v w goes h l past k =
    let u : View = record { line = record { line = says (take h.0 v.waiting) v.line.line; dry = v.line.dry; full = v.line.full }; reader = w.reader; waiting = w.waiting; stage = v.stage } in
    has_failed u w.line w.waiting goes h.5.1 l past (went v u h.0 goes refl h.4 h.2 refl l past k)

-- so much of a last reply went, when nothing else waits
last_went : (v : View) (t : ReadyValue) (last : List ℕ) (n : ℕ) → v.stage ≡ Ending last → v.waiting ≡ [] → t.line ≡ says (take n last) v.line.line → Keeps v (record { line = t; reader = v.reader; waiting = v.waiting; stage = Ending (drop n last) })
last_went v t last n stage none line l past k =
    let h : IsEnding last l v k.rest k.told k.replies = subst (λ (s : Stage). Stands s l v k.rest k.told k.replies) stage k.stands in
    let sent : k.told ++ last ≡ k.replies ++ h.last = ap (λ (t : List ℕ). k.told ++ (t ++ last)) (sym none) ∙ h.sent in
    record {
      bytes = k.bytes;
      told = k.told ++ take n last;
      rest = k.rest;
      replies = k.replies;
      heard = ap (λ (x : LineValue). x.heard) line ∙ k.heard;
      said = ap (λ (x : LineValue). x.said) line ∙ ap (with_more (take n last)) k.said ∙ with_more-then k.told (take n last) l.said;
      begins = k.begins;
      encoded = k.encoded;
      stands = record {
        last = h.last;
        sent = ap (λ (t : List ℕ). (k.told ++ take n last) ++ (t ++ drop n last)) none ∙ gone_all k.told last (k.replies ++ h.last) n sent;
        ended = h.ended;
        ends = h.ends;
        endings = ap (λ (x : LineValue). x.endings) line ∙ h.endings;
        failures = ap (λ (x : LineValue). x.failures) line ∙ h.failures;
      };
    }

not_failed : (last : List ℕ) (s : Stage) → s ≡ Ending last → s ≡ Failed → ⊥
not_failed last s e f = let bad : Ending last ≡ Failed = sym e ∙ f in absurd cc

pub last_written : (v : View) (t : ReadyValue) (last : List ℕ) (result : Stage) → v.stage ≡ Ending last → v.waiting ≡ [] → LastWritten last v.line result t → Keeps v (record { line = t; reader = v.reader; waiting = v.waiting; stage = result })
last_written v t last result stage none h l past k =
    elim h.2 [
      | inl e ↦
          let s : ReadyValue = record { line = says (take h.0 last) v.line.line; dry = v.line.dry; full = v.line.full } in
          let u : View = record { line = s; reader = v.reader; waiting = v.waiting; stage = Ending (drop h.0 last) } in
          subst (λ (x : Stage). Kept l past (record { line = t; reader = v.reader; waiting = v.waiting; stage = x })) (sym e.0)
          (has_failed u t v.waiting (not_failed (drop h.0 last) (Ending (drop h.0 last)) refl) e.1 l past (last_went v s last h.0 stage none refl l past k))
      | inr e ↦ subst (λ (x : Stage). Kept l past (record { line = t; reader = v.reader; waiting = v.waiting; stage = x })) (sym e.0) (last_went v t last h.0 stage none e.1 l past k)
    ]

-- ## What was pushed

pub waiting_flushed : (v w : View) (piece : List ℕ) (gone : ℕ) (f : Flow) → piece ≡ v.waiting → gone ≤ length piece → w.waiting ≡ drop gone v.waiting → w.stage ≡ v.stage → w.reader ≡ v.reader → Pushed piece gone f v.line w.line → WaitingFlushed f v w
waiting_flushed v w piece gone f same le left stage reader pushed = (
  gone,
  subst (λ (t : List ℕ). gone ≤ length t) same le,
  left,
  stage,
  reader,
  subst (λ (t : List ℕ). Pushed t gone f v.line w.line) same pushed,
)

pub last-all : (last piece left : List ℕ) (gone : ℕ) (f : Flow) (s t : ReadyValue) → f ≡ flow.All → piece ≡ last → left ≡ drop gone last → Pushed piece gone f s t → LastWritten last s (Ending left) t
last-all last piece left gone f s t is same rest pushed =
    let p : Pushed last gone flow.All s t = subst (λ (x : List ℕ). Pushed x gone flow.All s t) same (subst (λ (x : Flow). Pushed piece gone x s t) is pushed) in
    (gone, p.0, inr (ap Ending rest, p.2, inl (drop_all gone last (let e = p.1 in omega arith))))

pub last-full : (last piece left : List ℕ) (gone : ℕ) (f : Flow) (s t : ReadyValue) → f ≡ flow.Full → piece ≡ last → left ≡ drop gone last → Pushed piece gone f s t → LastWritten last s (Ending left) t
last-full last piece left gone f s t is same rest pushed =
    let p : Pushed last gone flow.Full s t = subst (λ (x : List ℕ). Pushed x gone flow.Full s t) same (subst (λ (x : Flow). Pushed piece gone x s t) is pushed) in
    (gone, p.0, inr (ap Ending rest, p.2, inr p.1))

pub last-failed : (last piece : List ℕ) (gone : ℕ) (f : Flow) (s t : ReadyValue) → f ≡ flow.Failed → piece ≡ last → Pushed piece gone f s t → LastWritten last s Failed t
last-failed last piece gone f s t is same pushed =
    let p : Pushed last gone flow.Failed s t = subst (λ (x : List ℕ). Pushed x gone flow.Failed s t) same (subst (λ (x : Flow). Pushed piece gone x s t) is pushed) in
    (gone, p.0, inl (refl, p.1))

-- ## What flushing leaves

ending_at : (v : View) (result : Stage) (t : ReadyValue) (rest : List ℕ) → v.waiting ≡ [] → is_open v.stage ≡ false → LastWritten rest v.line result t → Flushed v (record { line = t; reader = v.reader; waiting = v.waiting; stage = result })
ending_at v result t rest none closed h =
    elim h.2 [
      | inl e ↦ inl e.0
      | inr e ↦ inr (
        ap is_open e.0 ∙ sym closed,
        elim e.2 [
          | inl all ↦ inl (none, ap left_of e.0 ∙ all)
          | inr full ↦ inr full
        ],
      )
    ]

pub last_flushed : (v : View) (t : ReadyValue) (last : List ℕ) (result : Stage) → v.stage ≡ Ending last → v.waiting ≡ [] → LastWritten last v.line result t → Flushed v (record { line = t; reader = v.reader; waiting = v.waiting; stage = result })
last_flushed v t last result stage none h = ending_at v result t last none (ap is_open stage) h

-- the replies have gone, and then what is left of a last one is looked at
pub flushed_last : (v w x : View) → WaitingFlushed flow.All v w → Flushed w x → Flushed v x
flushed_last v w x h k =
    elim k [
      | inl e ↦ inl e
      | inr e ↦ inr (e.0 ∙ ap is_open h.3, e.1)
    ]

pub full_flushed : (v w : View) → WaitingFlushed flow.Full v w → Flushed v w
full_flushed v w h = inr (ap is_open h.3, inr h.5.1)
