-- What is left of what was sent, where messages are handled in the order of sending.
use Rattle.std.proofs.Common.{◌≡◌, ◌∙◌, ℕ, zero, suc, ◌+◌, ◌<◌, ◌≤◌, List, [], ◌∷◌, ◌++◌, length, slice_get, Option, Some, None, refl, sym, ap, subst, arith, append_assoc, append-nil}
use Rattle.std.specs.Prelude.{filter_map, Contains}
use Rattle.std.specs.List.{range_with_len}
use Rattle.std.proofs.lemmas.List.{length-append}
use Rattle.std.proofs.lemmas.List.FromFn.{length-range_with_len}
use Rattle.std.proofs.lemmas.List.Elements.{filter_map-append}
use Rattle.messages.specs.declared.envelope.Envelope.{Envelope}
use Rattle.world.specs.declared.run_event.RunEvent.{RunEvent}
use Rattle.world.specs.declared.run_event.RunEvent.TheVariants.{Deliver}
use Rattle.world.specs.Run.{Run}
use Rattle.world.specs.Quiet.{number_delivered, handled, IsQuiet}
use Rattle.world.specs.Lookups.{first_unhandled}
use Rattle.world.proofs.lists.Members.{within_range, contains_below}
use Rattle.world.proofs.quiet.Unhandled.{finds_unhandled}
use Rattle.present.specs.Past.{next_number}
use Rattle.present.specs.Present.{AreLeft}

-- ## Lists

from_zero : (n : ℕ) → 0 + n ≡ n
from_zero n = omega arith

range_next : (a n : ℕ) → range_with_len a (suc n) ≡ range_with_len a n ++ (a + n) ∷ []
range_next a zero = ap (λ k. k ∷ []) (omega arith)
range_next a (suc n) = ap (λ l. a ∷ l) (range_next (a + 1) n ∙ ap (λ k. range_with_len (a + 1) n ++ k ∷ []) (omega arith))

one_longer : {X : Type 0} (xs : List X) (x : X) → length (xs ++ x ∷ []) ≡ suc (length xs)
one_longer xs x = let q = length-append xs (x ∷ []) in omega arith

-- what stands first after others
pub first_after : {X : Type 0} (xs : List X) (y : X) (ys : List X) → slice_get (xs ++ y ∷ ys) (length xs) ≡ Some y
first_after [] y ys = refl
first_after (x ∷ xs) y ys = first_after xs y ys

-- ## An event

-- the next number is that of the first message that is left
pub next_is : (w : Run) (events : List RunEvent) (left : List Envelope) → w.events ≡ events → (l : AreLeft w left) → next_number events ≡ length l.past
next_is w events left same l =
    ap (λ (xs : List RunEvent). length (filter_map number_delivered xs)) (sym same) ∙ ap (λ (xs : List ℕ). length xs) l.handled ∙ length-range_with_len 0 (length l.past)

pub next_stands : (w : Run) (e : Envelope) (rest : List Envelope) → (l : AreLeft w (e ∷ rest)) → slice_get w.sent (length l.past) ≡ Some e
next_stands w e rest l = ap (λ xs. slice_get xs (length l.past)) l.sent ∙ first_after l.past e rest

-- it was handled: the others are left, and what that sent
pub left_after : (w v : Run) (e : Envelope) (rest sends : List Envelope) → (l : AreLeft w (e ∷ rest)) → v.events ≡ w.events ++ Deliver (length l.past) ∷ [] → v.sent ≡ w.sent ++ sends
    → AreLeft v (rest ++ sends)
left_after w v e rest sends l events sent =
    record {
      past = l.past ++ e ∷ [];
      sent =
          sent ∙ ap (λ xs. xs ++ sends) l.sent ∙ append_assoc l.past (e ∷ rest) sends
          ∙ sym (append_assoc l.past (e ∷ []) (rest ++ sends));
      handled =
          ap (λ (xs : List RunEvent). filter_map number_delivered xs) events ∙ filter_map-append number_delivered w.events (Deliver (length l.past) ∷ [])
          ∙ ap (λ xs. xs ++ length l.past ∷ []) l.handled
          ∙ sym (range_next 0 (length l.past) ∙ ap (λ k. range_with_len 0 (length l.past) ++ k ∷ []) (from_zero (length l.past)))
          ∙ ap (range_with_len 0) (sym (one_longer l.past e));
    }

-- another event leaves them, and what it sent
pub left_with : (w v : Run) (x : RunEvent) (left sends : List Envelope) → AreLeft w left → number_delivered x ≡ None → v.events ≡ w.events ++ x ∷ [] → v.sent ≡ w.sent ++ sends
    → AreLeft v (left ++ sends)
left_with w v x left sends l other events sent =
    record {
      past = l.past;
      sent = sent ∙ ap (λ xs. xs ++ sends) l.sent ∙ append_assoc l.past left sends;
      handled =
          ap (λ (xs : List RunEvent). filter_map number_delivered xs) events ∙ filter_map-append number_delivered w.events (x ∷ [])
          ∙ ap (λ xs. handled w ++ xs) (none_more x other) ∙ append-nil (handled w) ∙ l.handled;
    }
  where
    none_more : (x : RunEvent) → number_delivered x ≡ None → filter_map number_delivered (x ∷ []) ≡ []
    none_more (Deliver k) other = absurd (cc)
    none_more x other = refl

-- ## What is first

-- nothing is left exactly in a quiet run
pub quiet_now : (w : Run) → AreLeft w [] → IsQuiet w
quiet_now w l k lt =
    let all : w.sent ≡ l.past = l.sent ∙ append-nil l.past in
    let here : k < length l.past = subst (λ (xs : List Envelope). k < length xs) all lt in
    subst (λ xs. Contains xs k) (sym l.handled) (contains_below (length l.past) k here)

pub first_left : (w : Run) (e : Envelope) (rest : List Envelope) → (l : AreLeft w (e ∷ rest)) → first_unhandled w ≡ Some (length l.past)
first_left w e rest l = go (first_unhandled w) refl
  where
    n : ℕ
    n = length l.past

    long : length w.sent ≡ n + length (e ∷ rest)
    long = ap (λ (xs : List Envelope). length xs) l.sent ∙ length-append l.past (e ∷ rest)

    handled_below : (k : ℕ) → Contains (handled w) k → k < n
    handled_below k has = let r = within_range 0 n k (subst (λ xs. Contains xs k) l.handled has) in let lt = r.1 in omega arith

    is_handled : (k : ℕ) → k < n → Contains (handled w) k
    is_handled k lt = subst (λ xs. Contains xs k) (sym l.handled) (contains_below n k lt)

    above : (k : ℕ) → (k < n → ⊥) → n ≤ k
    above k never = grind (arith)

    go : (o : Option ℕ) → first_unhandled w ≡ o → first_unhandled w ≡ Some n
    go None q =
        let quiet = (finds_unhandled w).none.0 q in
        let lt : n < length w.sent = subst (λ m. n < m) (sym long) (omega arith) in
        let less = handled_below n (quiet n lt) in
        absurd (omega arith)
    go (Some k) q =
        let f = (finds_unhandled w).found k q in
        let le = above k (λ lt. f.unhandled (is_handled k lt)) in
        q ∙ ap Some (same k le (λ lt. let less = handled_below n (f.before n lt) in omega arith))
      where
        same : (k : ℕ) → n ≤ k → (n < k → ⊥) → k ≡ n
        same k le never = grind (arith)
