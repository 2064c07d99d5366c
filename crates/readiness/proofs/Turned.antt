-- Turns of a connection, one after the other.
use Rattle.std.proofs.Common.{◌≡◌, List, [], ◌++◌, refl, sym, subst, append_assoc}
use Rattle.std.proofs.lemmas.List.{append-nil}
use Rattle.messages.specs.declared.op.Op.{Op}
use Rattle.wire.specs.Replies.{Reply}
use Rattle.readiness.specs.Exchanges.{Exchange}
use Rattle.readiness.specs.Kept.{View, Kept}
use Rattle.readiness.specs.Turns.{Keeps, Extends, Turned}
use Rattle.readiness.proofs.Histories.{exchanged-then}

pub extends-none : (v : View) → Extends [] v v
extends-none v l past k = subst (λ (xs : List Exchange). Kept l xs v) (sym (append-nil past)) k

pub extends-then : (a b : List Exchange) (v w x : View) → Extends a v w → Extends b w x → Extends (a ++ b) v x
extends-then a b v w x h k l past kept = subst (λ (xs : List Exchange). Kept l xs x) (append_assoc past a b) (k l (past ++ a) (h l past kept))

pub extends-keeps : (v w : View) → Keeps v w → Extends [] v w
extends-keeps v w h l past k = subst (λ (xs : List Exchange). Kept l xs w) (sym (append-nil past)) (h l past k)

pub turned-keeps : {P : Type 0} (steps : P → Op → Reply → P → Type 0) (v : View) (p : P) (w : View) → Keeps v w → Turned steps v p w p
turned-keeps steps v p w h = ([], refl, extends-keeps v w h)

pub turned-none : {P : Type 0} (steps : P → Op → Reply → P → Type 0) (v : View) (p : P) → Turned steps v p v p
turned-none steps v p = turned-keeps steps v p v (λ l past k. k)

pub turned-then : {P : Type 0} (steps : P → Op → Reply → P → Type 0) (v : View) (p : P) (w : View) (q : P) (x : View) (r : P) → Turned steps v p w q → Turned steps w q x r → Turned steps v p x r
turned-then steps v p w q x r h k = (h.0 ++ k.0, exchanged-then steps p h.0 q k.0 r h.1 k.1, extends-then h.0 k.0 v w x h.2 k.2)

-- no request was held, and then something else was done
pub turned-idle : {P : Type 0} (steps : P → Op → Reply → P → Type 0) (v : View) (p : P) (w : View) (q : P) (x : View) → w ≡ v → q ≡ p → Keeps w x → Turned steps v p x q
turned-idle steps v p w q x same still h = subst (λ (z : _). Turned steps v p x z) (sym still) (turned-keeps steps v p x (subst (λ (u : View). Keeps u x) same h))
