-- How serving ends.
use Rattle.std.proofs.Common.{◌≡◌, ℕ, List, ◌++◌, Bool, false, refl, sym, ap, subst, ◌∙◌, append_assoc, inl, inr, ◌⊎◌}
use Rattle.logical_time.specs.declared.fault.Fault.{Fault}
use Rattle.messages.specs.declared.op.Op.{Op}
use Rattle.wire.specs.Replies.{Reply}
use Rattle.front.specs.declared.ended.Ended.{Ended}
use Rattle.front.specs.declared.ended.Ended.TheVariants.{Refused, WriteFailed}
use Rattle.front.specs.Lines.{LineValue, with_more, raised, hears, says, fails}
use Rattle.front.specs.Served.{Need, Begun, AtFault, AtPiece, RefusedAt, IsCutShort, ServedBy}
use Rattle.front.specs.Parts.{Refuses, Passed}
use Rattle.front.proofs.Said.{with_more-then}

pub passed-heard : (bytes told piece : List ℕ) (l m n : LineValue) → Passed false bytes told l m → n ≡ hears piece m → Passed false (bytes ++ piece) told l n
passed-heard bytes told piece l m n h e = record {
  heard = ap (λ (x : LineValue). x.heard) e ∙ ap (with_more piece) h.heard ∙ with_more-then bytes piece l.heard;
  said = ap (λ (x : LineValue). x.said) e ∙ h.said;
  failures = ap (λ (x : LineValue). x.failures) e ∙ h.failures;
  ended_then = ap (λ (x : LineValue). x.endings) e ∙ h.ended_then;
}

pub passed-said : (bytes told more : List ℕ) (l m n : LineValue) → Passed false bytes told l m → n ≡ says more m → Passed false bytes (told ++ more) l n
passed-said bytes told more l m n h e = record {
  heard = ap (λ (x : LineValue). x.heard) e ∙ h.heard;
  said = ap (λ (x : LineValue). x.said) e ∙ ap (with_more more) h.said ∙ with_more-then told more l.said;
  failures = ap (λ (x : LineValue). x.failures) e ∙ h.failures;
  ended_then = ap (λ (x : LineValue). x.endings) e ∙ h.ended_then;
}

pub behind : (a b c : List ℕ) → IsCutShort b c → IsCutShort (a ++ b) (a ++ c)
behind a b c h = (h.0, h.1, ap (λ (t : List ℕ). a ++ t) h.2 ∙ sym (append_assoc a b h.0))

-- the line failed, when replies were written up to here
pub failed_served : {P : Type 0} (refuses : Need → Type 0) (steps : P → Op → Reply → P → Type 0) (l : LineValue) (p : P) (k m : LineValue) (q : P) (ended : Bool) (bytes told sent replies : List ℕ)
    → Passed ended bytes told l k → m ≡ fails (says sent k) → IsCutShort sent replies
    → (((ended ≡ false) × Begun refuses steps p bytes (told ++ replies) q) ⊎ ((f : Fault) × RefusedAt refuses steps p ended f bytes (told ++ replies) q)) → ServedBy refuses steps WriteFailed l p m q
failed_served refuses steps l p k m q ended bytes told sent replies h e first how = subst (λ (x : LineValue). ServedBy refuses steps WriteFailed l p x q) (sym e) (record {
  bytes = bytes;
  told = told ++ sent;
  heard = h.heard;
  said = ap (with_more sent) h.said ∙ with_more-then told sent l.said;
  failures = ap raised h.failures;
  ended = ended;
  ended_then = h.ended_then;
  ends = (told ++ replies, behind told sent replies first, how);
})

pub refused_served : {P : Type 0} (refuses : Need → Type 0) (steps : P → Op → Reply → P → Type 0) (result : Ended) (l : LineValue) (p : P) (k m : LineValue) (q : P) (f : Fault) (ended : Bool) (bytes told : List ℕ)
    → Passed ended bytes told l k → Refuses f result k m → (AtFault refuses steps p ended f bytes told q ⊎ ((ended ≡ false) × AtPiece refuses steps p f bytes told q)) → ServedBy refuses steps result l p m q
refused_served refuses steps result l p k m q f ended bytes told h last_reply stopped =
    let last = last_reply.0 in
    let at : RefusedAt refuses steps p ended f bytes (told ++ last) q = record { replies = told; last = last; refusal = last_reply.1; written = refl; stopped = stopped } in
    elim last_reply.2 [
      | inl w ↦ subst (λ (r : Ended). ServedBy refuses steps r l p m q) (sym w.0) (subst (λ (x : LineValue). ServedBy refuses steps (Refused f) l p x q) (sym w.1) (record {
        bytes = bytes;
        told = told ++ last;
        heard = h.heard;
        said = ap (with_more last) h.said ∙ with_more-then told last l.said;
        failures = h.failures;
        ended = ended;
        ended_then = h.ended_then;
        ends = at;
      }))
      | inr w ↦ subst (λ (r : Ended). ServedBy refuses steps r l p m q) (sym w.0) (failed_served refuses steps l p k m q ended bytes told w.1.0 last h w.1.2 w.1.1 (inr (f, at)))
    ]
