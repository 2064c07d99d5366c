-- Lists of what waits: taken from the end of what was sent, and from the end of those whose turn it is.
use Rattle.std.proofs.Common.{◌≡◌, ◌∙◌, ℕ, zero, suc, ◌+◌, List, [], ◌∷◌, ◌++◌, length, take, drop, slice_get, Option, Some, sym, ap, arith, append_assoc}
use Rattle.std.specs.Prelude.{reverse, option_to_list}
use Rattle.std.proofs.lemmas.List.{length_push, reverse-append}
use Rattle.messages.specs.declared.envelope.Envelope.{Envelope}
use Rattle.present.specs.declared.waiting.Waiting.{Waiting}
use Rattle.present.specs.Waiting.{waiting_of}

-- what was sent then waits behind the rest
pub behind : (v w : Waiting) (sends : List Envelope) → v.held ≡ w.held → v.turn.items ≡ w.turn.items → v.sent.sent ≡ w.sent.sent ++ sends → waiting_of v ≡ waiting_of w ++ sends
behind v w sends held turn sent =
    ap (λ o. option_to_list o ++ reverse v.turn.items ++ v.sent.sent) held
    ∙ ap (λ t. option_to_list w.held ++ reverse t ++ v.sent.sent) turn
    ∙ ap (λ l. option_to_list w.held ++ reverse w.turn.items ++ l) sent
    ∙ sym (append_assoc (option_to_list w.held ++ reverse w.turn.items) w.sent.sent sends)

-- one that was taken out and is put back waits as it did
pub back_again : (held : Option Envelope) (turn before after now : List Envelope) (e f : Envelope) (all : List Envelope) → all ≡ e ∷ (option_to_list held ++ reverse turn ++ before) → f ≡ e → after ≡ before
    → now ≡ f ∷ (option_to_list held ++ reverse turn ++ after) → now ≡ all
back_again held turn before after now e f all first same still back =
    back ∙ ap (λ z. z ∷ (option_to_list held ++ reverse turn ++ after)) same ∙ ap (λ l. e ∷ (option_to_list held ++ reverse turn ++ l)) still ∙ sym first

-- a list by all but its last
but_last : {X : Type 0} (xs : List X) (k : ℕ) (x : X) → suc k ≡ length xs → slice_get xs k ≡ Some x → (take k xs ++ drop (suc k) xs) ++ x ∷ [] ≡ xs
but_last [] k x long at = absurd (cc)
but_last (y ∷ []) zero x long at = let same : y ≡ x = cc in ap (λ z. z ∷ []) (sym same)
but_last (y ∷ z ∷ zs) zero x long at = absurd (omega (arith, long))
but_last (y ∷ ys) (suc k) x long at = ap (λ l. y ∷ l) (but_last ys k x (omega (arith, long)) at)

one_on : (k : ℕ) → k + 1 ≡ suc k
one_on k = omega arith

-- the last of what was sent comes before those whose turn it is
pub turned : {X : Type 0} (xs ts : List X) (k : ℕ) (x : X) → k + 1 ≡ length xs → slice_get xs k ≡ Some x
    → (take k xs ++ drop (k + 1) xs) ++ reverse (ts ++ x ∷ []) ≡ xs ++ reverse ts
turned xs ts k x long at =
    ap (λ n. (take k xs ++ drop n xs) ++ reverse (ts ++ x ∷ [])) (one_on k)
    ∙ ap (λ l. (take k xs ++ drop (suc k) xs) ++ l) (reverse-append ts (x ∷ []))
    ∙ sym (append_assoc (take k xs ++ drop (suc k) xs) (x ∷ []) (reverse ts))
    ∙ ap (λ l. l ++ reverse ts) (but_last xs k x (omega (arith, long)) at)

-- without it what was sent is one less
pub one_fewer : {X : Type 0} (xs : List X) (k : ℕ) (x : X) → k + 1 ≡ length xs → slice_get xs k ≡ Some x → length (take k xs ++ drop (k + 1) xs) + 1 ≡ length xs
one_fewer xs k x long at =
    ap (λ n. length (take k xs ++ drop n xs) + 1) (one_on k)
    ∙ sym (length_push (take k xs ++ drop (suc k) xs) x)
    ∙ ap length (but_last xs k x (omega (arith, long)) at)
