-- Taking in says nothing to a line.
use Rattle.std.proofs.Common.{◌≡◌, ℕ, List, Bool, true, false, Option, refl, sym, ap, subst, ◌∙◌, inl, inr}
use Rattle.std.specs.Prelude.{slice_get, slice_set, slice_index_or, Some, None, length, ◌<◌}
use Rattle.std.proofs.lemmas.Bool.{cases_eq}
use Rattle.logical_time.specs.declared.fault.Fault.{Fault}
use Rattle.messages.specs.declared.op.Op.{Op}
use Rattle.wire.specs.Replies.{Reply}
use Rattle.readiness.specs.declared.connection.Connection.{Connection}
use Rattle.readiness.specs.declared.connection.Stop.{Stop}
use Rattle.readiness.specs.declared.line.Came.{Came}
use Rattle.readiness.specs.declared.line.Came.TheVariants as came
use Rattle.readiness.specs.Lines.{ReadyValue, reads}
use Rattle.readiness.specs.Kept.{View, view}
use Rattle.readiness.specs.Turns.{IsRefused, StopsAt, AnswersNext, SaysNothing}
use Rattle.readiness.specs.Places.{StaysSilent, AreSilent}
use Rattle.readiness.proofs.Lists.{get_set_same, get_set_other, set_set, got_within, place_is}

-- ## Of one line

pub says-none : (v : View) → SaysNothing v v
says-none v = (refl, refl)

pub says-then : (v w x : View) → SaysNothing v w → SaysNothing w x → SaysNothing v x
says-then v w x h k = (k.0 ∙ h.0, k.1 ∙ h.1)

-- the line is the same
pub says-same : (v w : View) → w.line ≡ v.line → SaysNothing v w
says-same v w e = (ap (λ (s : ReadyValue). s.line.said) e, ap (λ (s : ReadyValue). s.full) e)

read_by : (buffer : List ℕ) (r : Came) (s : ReadyValue) → ((reads buffer r s).line.said ≡ s.line.said) × ((reads buffer r s).full ≡ s.full)
read_by buffer (came.Bytes n) s = (refl, refl)
read_by buffer came.Nothing s = (refl, refl)
read_by buffer came.End s = (refl, refl)
read_by buffer came.Failed s = (refl, refl)

-- the line was read from
pub read-says : (buffer : List ℕ) (r : Came) (v : View) (t : ReadyValue) → t ≡ reads buffer r v.line → (t.line.said ≡ v.line.line.said) × (t.full ≡ v.line.full)
read-says buffer r v t read =
    let b = read_by buffer r v.line in
    (ap (λ (s : ReadyValue). s.line.said) read ∙ b.0, ap (λ (s : ReadyValue). s.full) read ∙ b.1)

-- the line was read from, and is the same since
pub says-read : (buffer : List ℕ) (r : Came) (v w : View) (t : ReadyValue) → t ≡ reads buffer r v.line → w.line ≡ t → SaysNothing v w
says-read buffer r v w t read same = says-then v (record { line = t; reader = w.reader; waiting = w.waiting; stage = w.stage }) w (read-says buffer r v t read) (says-same (record { line = t; reader = w.reader; waiting = w.waiting; stage = w.stage }) w same)

pub refused_line : (f : Fault) (v w : View) → IsRefused f v w → w.line ≡ v.line
refused_line f v w h = ap (λ (u : View). u.line) h.2

pub stopped_line : (f : Fault) (result : Option Stop) (v w : View) → StopsAt f result v w → w.line ≡ v.line
stopped_line f result v w h = elim h [
  | inl e ↦ refused_line f v w e.2
  | inr e ↦ ap (λ (u : View). u.line) e.2
]

pub answered_line : {P : Type 0} (steps : P → Op → Reply → P → Type 0) (b : Bool) (v : View) (p : P) (w : View) (q : P) → AnswersNext steps b v p w q → w.line ≡ v.line
answered_line steps true v p w q h = ap (λ (u : View). u.line) h.after
answered_line steps false v p w q h = ap (λ (u : View). u.line) h.0

-- ## Of lines at places

stays_none : {L : Type 0} (seen : L → ReadyValue) (x : Option (Option (Connection L))) → StaysSilent seen x x
stays_none seen None = refl
stays_none seen (Some None) = refl
stays_none seen (Some (Some c)) = (refl, refl)

stays_then : {L : Type 0} (seen : L → ReadyValue) (x y z : Option (Option (Connection L))) → StaysSilent seen x y → StaysSilent seen y z → StaysSilent seen x z
stays_then {L = L} seen None y z h k = subst (λ (o : Option (Option (Connection L))). StaysSilent seen o z) h k
stays_then {L = L} seen (Some None) y z h k = subst (λ (o : Option (Option (Connection L))). StaysSilent seen o z) h k
stays_then seen (Some (Some c)) None z h k = absurd h
stays_then seen (Some (Some c)) (Some None) z h k = absurd h
stays_then seen (Some (Some c)) (Some (Some d)) None h k = absurd k
stays_then seen (Some (Some c)) (Some (Some d)) (Some None) h k = absurd k
stays_then seen (Some (Some c)) (Some (Some d)) (Some (Some e)) h k = says-then (view seen c) (view seen d) (view seen e) h k

pub silent-none : {L : Type 0} (seen : L → ReadyValue) (xs : List (Option (Connection L))) → AreSilent seen xs xs
silent-none seen xs k = stays_none seen (slice_get xs k)

pub silent-same : {L : Type 0} (seen : L → ReadyValue) (old new : List (Option (Connection L))) → new ≡ old → AreSilent seen old new
silent-same {L = L} seen old new same = subst (λ (u : List (Option (Connection L))). AreSilent seen old u) (sym same) (silent-none seen old)

pub silent-then : {L : Type 0} (seen : L → ReadyValue) (x y z : List (Option (Connection L))) → AreSilent seen x y → AreSilent seen y z → AreSilent seen x z
silent-then seen x y z h j k = stays_then seen (slice_get x k) (slice_get y k) (slice_get z k) (h k) (j k)

silent_set : {L : Type 0} (seen : L → ReadyValue) (old : List (Option (Connection L))) (at : ℕ) (c d : Connection L) → slice_get old at ≡ Some (Some c) → SaysNothing (view seen c) (view seen d) → AreSilent seen old (slice_set old at (Some d))
silent_set {L = L} seen old at c d was says k =
    let new = slice_set old at (Some d) in
    elim (cases_eq at k) [
      | inl same ↦
          let set : slice_get new at ≡ Some (Some d) = get_set_same old at (Some d) (got_within old at (Some c) was) in
          let there : StaysSilent seen (slice_get old at) (slice_get new at) =
          subst (λ (o : Option (Option (Connection L))). StaysSilent seen o (slice_get new at)) (sym was) (subst (λ (o : Option (Option (Connection L))). StaysSilent seen (Some (Some c)) o) (sym set) says) in
          subst (λ (i : ℕ). StaysSilent seen (slice_get old i) (slice_get new i)) same there
      | inr ne ↦ subst (λ (o : Option (Option (Connection L))). StaysSilent seen (slice_get old k) o) (sym (get_set_other old at k (Some d) ne)) (stays_none seen (slice_get old k))
    ]

-- a place is read and emptied, and the connection takes in and is put back
pub silent-at : {L : Type 0} (seen : L → ReadyValue) (old : List (Option (Connection L))) (at n : ℕ) (x left : Option (Connection L)) (c d : Connection L)
    → n ≡ length old → at < n → x ≡ slice_index_or old at x → x ≡ Some c → SaysNothing (view seen c) (view seen d) → AreSilent seen old (slice_set (slice_set old at left) at (Some d))
silent-at {L = L} seen old at n x left c d len lt is some says =
    subst (λ (u : List (Option (Connection L))). AreSilent seen old u) (sym (set_set old at left (Some d))) (silent_set seen old at c d (place_is old n at x (Some c) len lt is some) says)
