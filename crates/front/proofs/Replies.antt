-- Answers along a chain of a port's steps.
use Rattle.std.proofs.Common.{ℕ, List, [], ◌∷◌, ◌++◌, refl, ap, sym, subst, ◌∙◌, append_assoc}
use Rattle.std.proofs.lemmas.List.{append-nil}
use Rattle.messages.specs.declared.op.Op.{Op}
use Rattle.wire.specs.Replies.{Reply}
use Rattle.front.specs.Ports.{Chain}
use Rattle.front.specs.Served.{Need, IsEncoding, AreEncodings, Answered}

pub chain-then : {P : Type 0} (steps : P → Op → Reply → P → Type 0) (p : P) (xs : List Op) (told : List Reply) (q : P) (ys : List Op) (bs : List Reply) (r : P) → Chain steps p xs told q → Chain steps q ys bs r → Chain steps p (xs ++ ys) (told ++ bs) r
chain-then steps p [] [] q ys bs r h k = subst (λ (z : _). Chain steps z ys bs r) (sym h) k
chain-then steps p [] (a ∷ told) q ys bs r h k = absurd h
chain-then steps p (x ∷ xs) [] q ys bs r h k = absurd h
chain-then steps p (x ∷ xs) (a ∷ told) q ys bs r h k = (h.0, h.1, chain-then steps h.0 xs told q ys bs r h.2 k)

pub encodings-then : (refuses : Need → Type 0) (told bs : List Reply) (x y : List ℕ) → AreEncodings refuses told x → AreEncodings refuses bs y → AreEncodings refuses (told ++ bs) (x ++ y)
encodings-then refuses [] bs x y h k = subst (λ (z : List ℕ). AreEncodings refuses bs (z ++ y)) (sym h) k
encodings-then refuses (a ∷ told) bs x y h k = (h.0, h.1 ++ y, h.2, encodings-then refuses told bs h.1 y h.3 k, ap (λ (z : List ℕ). z ++ y) h.4 ∙ append_assoc h.0 h.1 y)

pub answered-none : {P : Type 0} (refuses : Need → Type 0) (steps : P → Op → Reply → P → Type 0) (p : P) → Answered refuses steps p [] [] p
answered-none refuses steps p = record { answers = []; chain = refl; encoded = refl }

pub answered-one : {P : Type 0} (refuses : Need → Type 0) (steps : P → Op → Reply → P → Type 0) (p : P) (op : Op) (a : Reply) (reply : List ℕ) (q : P) → steps p op a q → IsEncoding refuses a reply → Answered refuses steps p (op ∷ []) reply q
answered-one refuses steps p op a reply q s e = record { answers = a ∷ []; chain = (q, s, refl); encoded = (reply, [], e, refl, sym (append-nil reply)) }

pub answered-then : {P : Type 0} (refuses : Need → Type 0) (steps : P → Op → Reply → P → Type 0) (p : P) (xs : List Op) (s : List ℕ) (q : P) (ys : List Op) (t : List ℕ) (r : P) → Answered refuses steps p xs s q → Answered refuses steps q ys t r → Answered refuses steps p (xs ++ ys) (s ++ t) r
answered-then refuses steps p xs s q ys t r h k = record {
  answers = h.answers ++ k.answers;
  chain = chain-then steps p xs h.answers q ys k.answers r h.chain k.chain;
  encoded = encodings-then refuses h.answers k.answers s t h.encoded k.encoded;
}
