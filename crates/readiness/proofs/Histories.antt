-- Exchanges, one more or some more.
use Rattle.std.proofs.Common.{◌≡◌, ℕ, List, [], ◌∷◌, ◌++◌, refl, sym, subst}
use Rattle.std.proofs.lemmas.List.{append-nil, map-append}
use Rattle.messages.specs.declared.op.Op.{Op}
use Rattle.wire.specs.Replies.{Reply}
use Rattle.wire.specs.Frames.{ReaderValue, text}
use Rattle.wire.specs.Answers.{Taken}
use Rattle.front.specs.Ports.{Chain}
use Rattle.front.specs.Served.{Begins, IsEncoding, AreEncodings, any_need}
use Rattle.front.proofs.Requests.{begins-then, begins-taken}
use Rattle.front.proofs.Replies.{chain-then, encodings-then}
use Rattle.readiness.specs.Exchanges.{Exchange, requests, answers}

requests-then : (xs ys : List Exchange) → requests (xs ++ ys) ≡ requests xs ++ requests ys
requests-then xs ys = map-append (λ (x : Exchange). x.asked) xs ys

answers-then : (xs ys : List Exchange) → answers (xs ++ ys) ≡ answers xs ++ answers ys
answers-then xs ys = map-append (λ (x : Exchange). x.told) xs ys

pub begins-more : (past : List Exchange) (x : Exchange) (bytes rest : List ℕ) (old new : ReaderValue) → Begins bytes (requests past) rest → rest ≡ text old → Taken x.asked old new → Begins bytes (requests (past ++ x ∷ [])) (text new)
begins-more past x bytes rest old new h unread taken =
    let first : Begins rest (x.asked ∷ []) (text new) = subst (λ (t : List ℕ). Begins t (x.asked ∷ []) (text new)) (sym unread) (begins-taken x.asked old new taken) in
    subst (λ (ops : List Op). Begins bytes ops (text new)) (sym (requests-then past (x ∷ []))) (begins-then bytes (requests past) rest (x.asked ∷ []) (text new) h first)

pub encodings-more : (past : List Exchange) (x : Exchange) (replies bytes : List ℕ) → AreEncodings any_need (answers past) replies → IsEncoding any_need x.told bytes → AreEncodings any_need (answers (past ++ x ∷ [])) (replies ++ bytes)
encodings-more past x replies bytes h is =
    subst (λ (all : List Reply). AreEncodings any_need all (replies ++ bytes)) (sym (answers-then past (x ∷ [])))
    (encodings-then any_need (answers past) (x.told ∷ []) replies bytes h (bytes, [], is, refl, sym (append-nil bytes)))

pub exchanged-then : {P : Type 0} (steps : P → Op → Reply → P → Type 0) (p : P) (xs : List Exchange) (q : P) (ys : List Exchange) (r : P)
    → Chain steps p (requests xs) (answers xs) q → Chain steps q (requests ys) (answers ys) r → Chain steps p (requests (xs ++ ys)) (answers (xs ++ ys)) r
exchanged-then steps p xs q ys r h k =
    subst (λ (ops : List Op). Chain steps p ops (answers (xs ++ ys)) r) (sym (requests-then xs ys))
    (subst (λ (all : List Reply). Chain steps p (requests xs ++ requests ys) all r) (sym (answers-then xs ys)) (chain-then steps p (requests xs) (answers xs) q (requests ys) (answers ys) r h k))
