-- Moments at which a line is waited for.
use Rattle.std.proofs.Common.{◌≡◌, ℕ, ◌≤◌, List, [], ◌∷◌, ◌++◌, length, map, take, Bool, true, false, All, Option, Some, refl, ap, ap₂, sym, subst, ◌∙◌, inl, inr, arith, length-append}
use Rattle.std.proofs.lemmas.List.{take-append-le, take_all, map-append}
use Rattle.std.proofs.lemmas.List.Elements.{All-nil, All-head, All-tail, All-push, All-weaker}
use Rattle.logical_time.specs.declared.fault.Fault.{Fault}
use Rattle.logical_time.specs.declared.fault.Fault.TheVariants.{Memory}
use Rattle.messages.specs.declared.op.Op.{Op}
use Rattle.wire.specs.Replies.{Reply}
use Rattle.wire.specs.Frames.{ReaderValue}
use Rattle.front.specs.declared.ended.Ended.{Ended}
use Rattle.front.specs.declared.memory.Mark.{Mark}
use Rattle.front.specs.Lines.{Moment, LineValue, with_more, hears, ends, awaited}
use Rattle.front.specs.Memory.{moment_at}
use Rattle.front.specs.Served.{Need, IsPrompt, IsNeverHeldBack}
use Rattle.front.specs.Parts.{Refuses, EndsInput, GivesUp, AnswersHeld, Going}
use Rattle.front.proofs.Said.{with_more-nil, with_more-then}

-- a line is not waited for by what answers the requests that are held
pub answered_same : {P : Type 0} (refuses : Need → Type 0) (steps : P → Op → Reply → P → Type 0) (b : Bool) (old : ReaderValue) (l : LineValue) (p : P) (r : ReaderValue) (m : LineValue) (q : P) → AnswersHeld refuses steps b old l p r m q → m.moments ≡ l.moments
answered_same refuses steps true old l p r m q h = ap (λ (x : LineValue). x.moments) h.0.line
answered_same refuses steps false old l p r m q h = ap (λ (x : LineValue). x.moments) h.line

-- nor by a last reply
refused_same : (f : Fault) (result : Ended) (l m : LineValue) → Refuses f result l m → m.moments ≡ l.moments
refused_same f result l m h =
    elim h.2 [
      | inl w ↦ ap (λ (x : LineValue). x.moments) w.1
      | inr w ↦ ap (λ (x : LineValue). x.moments) w.1.2
    ]

ended_same : (r : ReaderValue) (result : Ended) (l m : LineValue) → EndsInput r result l m → m.moments ≡ l.moments
ended_same r result l m h =
    elim h [
      | inl e ↦ ap (λ (x : LineValue). x.moments) e.2
      | inr e ↦ refused_same e.0 result l m e.2
    ]

-- a piece is taken
pub taken_same : {P : Type 0} (refuses : Need → Type 0) (steps : P → Op → Reply → P → Type 0) (b : Bool) (old : ReaderValue) (l : LineValue) (p : P) (r : ReaderValue) (m : LineValue) (q : P) (f : Fault) (result : Ended) (n : LineValue)
    → AnswersHeld refuses steps b old l p r m q → Refuses f result m n → n.moments ≡ l.moments
taken_same refuses steps b old l p r m q f result n h last = refused_same f result m n last ∙ answered_same refuses steps b old l p r m q h

-- when serving goes on, nothing is held back, and then the line is waited for
pub awaits_prompt : {P : Type 0} {pieces : ℕ} (refuses : Need → Type 0) (steps : P → Op → Reply → P → Type 0) (l : LineValue) (p : P) (r : ReaderValue) (m : LineValue) (q : P)
    → Going refuses pieces steps l p r m q → IsNeverHeldBack refuses steps l p m.moments → IsNeverHeldBack refuses steps l p (awaited m).moments
awaits_prompt refuses steps l p r m q h was =
    let now : Moment = record { heard = m.heard; said = m.said } in
    let prompt : IsPrompt refuses steps l p now = record { bytes = h.bytes; told = h.told; rest = r.rest; port = q; heard = h.passed.heard; said = h.passed.said; answered = h.answered } in (
      was.0 ++ now ∷ [],
      ap (with_more (now ∷ [])) was.1 ∙ with_more-then was.0 (now ∷ []) l.moments,
      All-push (IsPrompt refuses steps l p) was.0 now was.2 prompt,
    )

pub same_prompt : {P : Type 0} (refuses : Need → Type 0) (steps : P → Op → Reply → P → Type 0) (l : LineValue) (p : P) (old new : Option (List Moment)) → new ≡ old → IsNeverHeldBack refuses steps l p old → IsNeverHeldBack refuses steps l p new
same_prompt refuses steps l p old new same h = subst (λ (x : Option (List Moment)). IsNeverHeldBack refuses steps l p x) (sym same) h

pub input_prompt : {P : Type 0} {pieces : ℕ} (refuses : Need → Type 0) (steps : P → Op → Reply → P → Type 0) (l : LineValue) (p : P) (r : ReaderValue) (m : LineValue) (q : P) (result : Ended) (k w : LineValue)
    → Going refuses pieces steps l p r m q → IsNeverHeldBack refuses steps l p m.moments → k.moments ≡ (awaited m).moments → EndsInput r result k w → IsNeverHeldBack refuses steps l p w.moments
input_prompt refuses steps l p r m q result k w h was came how = same_prompt refuses steps l p (awaited m).moments w.moments (ended_same r result k w how ∙ came) (awaits_prompt refuses steps l p r m q h was)

pub gave_up_prompt : {P : Type 0} {pieces : ℕ} (refuses : Need → Type 0) (steps : P → Op → Reply → P → Type 0) (l : LineValue) (p : P) (r : ReaderValue) (m : LineValue) (q : P) (result : Ended) (w : LineValue)
    → Going refuses pieces steps l p r m q → IsNeverHeldBack refuses steps l p m.moments → GivesUp r result m w → IsNeverHeldBack refuses steps l p w.moments
gave_up_prompt refuses steps l p r m q result w h was how =
    elim how [
      | inl e ↦ same_prompt refuses steps l p m.moments w.moments (ap (λ (x : LineValue). x.moments) e.1) was
      | inr other ↦ elim other [
        | inl e ↦ same_prompt refuses steps l p (awaited m).moments w.moments (ended_same r result (ends (awaited m)) w e) (awaits_prompt refuses steps l p r m q h was)
        | inr e ↦ same_prompt refuses steps l p (awaited m).moments w.moments (refused_same Memory result (hears e.0 (awaited m)) w e.2) (awaits_prompt refuses steps l p r m q h was)
      ]
    ]

-- no moment of the call yet
pub none_held_back : {P : Type 0} (refuses : Need → Type 0) (steps : P → Op → Reply → P → Type 0) (l : LineValue) (p : P) → IsNeverHeldBack refuses steps l p l.moments
none_held_back refuses steps l p = ([], sym (with_more-nil l.moments), All-nil (IsPrompt refuses steps l p))

abbrev pub FitIn : List ℕ → List Mark → Type 0
FitIn output marks = All (λ (mark : Mark). mark.said ≤ length output) marks

abbrev with_said : Option (List ℕ) → List ℕ → Moment
with_said heard said = record { heard = heard; said = Some said }

same_moment : (input output piece : List ℕ) (mark : Mark) → mark.said ≤ length output → moment_at input (output ++ piece) mark ≡ moment_at input output mark
same_moment input output piece mark le = ap (with_said (Some (take mark.heard input))) (take-append-le mark.said output piece le)

-- what is written later changes no moment before
pub moments_kept : (input output piece : List ℕ) (marks : List Mark) → FitIn output marks → map (moment_at input (output ++ piece)) marks ≡ map (moment_at input output) marks
moments_kept input output piece [] h = refl
moments_kept input output piece (k ∷ ks) h =
    ap₂ (λ (y : Moment) (ys : List Moment). y ∷ ys) (same_moment input output piece k (All-head (λ (mark : Mark). mark.said ≤ length output) k ks h)) (moments_kept input output piece ks (All-tail (λ (mark : Mark). mark.said ≤ length output) k ks h))

pub marks_kept : (output piece : List ℕ) (marks : List Mark) → FitIn output marks → FitIn (output ++ piece) marks
marks_kept output piece marks h =
    All-weaker (λ (mark : Mark). mark.said ≤ length output) (λ (mark : Mark). mark.said ≤ length (output ++ piece)) (λ mark le. omega (arith, le, length-append output piece)) marks h

-- a line in memory is waited for when so much of its input came
pub moment_more : (input output : List ℕ) (marks : List Mark) (at : ℕ)
    → map (moment_at input output) (marks ++ (record { heard = at; said = length output }) ∷ []) ≡ map (moment_at input output) marks ++ (record { heard = Some (take at input); said = Some output }) ∷ []
moment_more input output marks at =
    map-append (moment_at input output) marks ((record { heard = at; said = length output }) ∷ [])
    ∙ ap (λ (t : List ℕ). map (moment_at input output) marks ++ with_said (Some (take at input)) t ∷ []) (take_all (length output) output (omega arith))

-- a line in memory, of which so much came, and to which this was written
abbrev pub line_at : List ℕ → List ℕ → List Moment → ℕ → ℕ → LineValue
line_at heard said moments endings failures = record { heard = Some heard; said = Some said; endings = endings; failures = failures; moments = Some moments }

-- more is written
pub said_more : (input output piece new heard : List ℕ) (marks : List Mark) (endings failures : ℕ)
    → FitIn output marks → new ≡ output ++ piece → line_at heard new (map (moment_at input new) marks) endings failures ≡ line_at heard (output ++ piece) (map (moment_at input output) marks) endings failures
said_more input output piece new heard marks endings failures fit more =
    ap₂ (λ (o : List ℕ) (ms : List Moment). line_at heard o ms endings failures) more (ap (λ (o : List ℕ). map (moment_at input o) marks) more ∙ moments_kept input output piece marks fit)

-- a moment more, when so much came
pub heard_more : (input output heard : List ℕ) (marks new : List Mark) (at endings failures : ℕ)
    → new ≡ marks ++ (record { heard = at; said = length output }) ∷ [] → line_at heard output (map (moment_at input output) new) endings failures ≡ line_at heard output (map (moment_at input output) marks ++ (record { heard = Some (take at input); said = Some output }) ∷ []) endings failures
heard_more input output heard marks new at endings failures more =
    ap (λ (ms : List Moment). line_at heard output ms endings failures) (ap (map (moment_at input output)) more ∙ moment_more input output marks at)
