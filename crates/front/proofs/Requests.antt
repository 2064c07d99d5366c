-- Requests that stand first in bytes.
use Rattle.std.proofs.Common.{◌≡◌, ℕ, List, [], ◌∷◌, ◌++◌, Bool, true, false, cond, Some, None, refl, ap, sym, ◌∙◌, append_assoc}
use Rattle.std.specs.Prelude.{◌&&◌}
use Rattle.std.specs.List.{list_all}
use Rattle.std.proofs.lemmas.List.{append-nil}
use Rattle.std.proofs.lemmas.List.Folds.{list_all-append}
use Rattle.std.proofs.lemmas.Grind.{flat_map-append}
use Rattle.messages.specs.declared.op.Op.{Op}
use Rattle.wire.specs.Fields.{frame}
use Rattle.wire.specs.Requests.{request, is_spelled}
use Rattle.logical_time.specs.declared.fault.Fault.{Fault}
use Rattle.wire.specs.Frames.{ReaderValue, text, frames, waits, faulty, whole, front_of, NoneFirst}
use Rattle.wire.proofs.Streams.{one_way}
use Rattle.wire.specs.Answers.{Taken}
use Rattle.front.specs.Served.{Begins}

pub begins-none : (bytes : List ℕ) → Begins bytes [] bytes
begins-none bytes = record { spelled = refl; text = refl }

pub begins-then : (a : List ℕ) (xs : List Op) (b : List ℕ) (ys : List Op) (c : List ℕ) → Begins a xs b → Begins b ys c → Begins a (xs ++ ys) c
begins-then a xs b ys c p q = record {
  spelled = list_all-append is_spelled xs ys ∙ ap (λ (t : Bool). t && list_all is_spelled ys) p.spelled ∙ q.spelled;
  text = p.text ∙ ap (λ (t : List ℕ). frames xs ++ t) q.text ∙ sym (append_assoc (frames xs) (frames ys) c) ∙ ap (λ (t : List ℕ). t ++ c) (sym (flat_map-append (λ (op : Op). frame (request op)) xs ys));
}

-- more bytes behind them
pub begins-more : (a : List ℕ) (xs : List Op) (b piece : List ℕ) → Begins a xs b → Begins (a ++ piece) xs (b ++ piece)
begins-more a xs b piece p = record { spelled = p.spelled; text = ap (λ (t : List ℕ). t ++ piece) p.text ∙ append_assoc (frames xs) b piece }

-- a spelling is a frame
given : {A : Type 0} (b : Bool) (x y : A) → cond b (Some x) None ≡ Some y → (b ≡ true) × (x ≡ y)
given true x y e = (refl, cc)
given false x y e = absurd cc

-- a request that is taken stood first
pub begins-taken : (op : Op) (old new : ReaderValue) → Taken op old new → Begins (text old) (op ∷ []) (text new)
begins-taken op old new t =
    let g = given (is_spelled op) (frame (request op)) t.0 t.1 in
    record {
      spelled = ap (λ (b : Bool). b && true) g.0;
      text = t.2 ∙ ap (λ (s : List ℕ). s ++ text new) (sym g.1 ∙ sym (append-nil (frame (request op))));
    }

-- bytes begin with one list of requests alone, if the rest begins with none
pub begins-one : (bytes : List ℕ) (xs ys : List Op) (a b : List ℕ) → Begins bytes xs a → Begins bytes ys b → NoneFirst a → NoneFirst b → (xs ≡ ys) × (a ≡ b)
begins-one bytes xs ys a b p q na nb = one_way xs ys a b p.spelled q.spelled na nb (sym p.text ∙ q.text)

pub waits-none : (rest : List ℕ) → front_of rest ≡ waits → NoneFirst rest
waits-none rest e op used w = let bad : waits ≡ whole op used = sym e ∙ w in absurd cc

pub faulty-none : (rest : List ℕ) (f : Fault) → front_of rest ≡ faulty f → NoneFirst rest
faulty-none rest f e op used w = let bad : faulty f ≡ whole op used = sym e ∙ w in absurd cc
