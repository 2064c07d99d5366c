-- Events as stretches.
use Rattle.std.proofs.Common.{◌≡◌, ◌∙◌, ℕ, zero, suc, ◌+◌, ◌-◌, ◌<◌, ◌≤◌, List, [], ◌∷◌, ◌++◌, length, slice_get, Some, sym, ap, arith}
use Rattle.std.specs.Prelude.{slice_set, slice_index_or}
use Rattle.std.proofs.lemmas.Option.{slice_get-get_or}
use Rattle.std.proofs.lemmas.List.{append_assoc, append-nil}
use Rattle.std.proofs.lemmas.List.Concat.{flat_map-append}
use Rattle.std.proofs.lemmas.List.FromFn.{map-range_with_len_more}
use Rattle.world.specs.declared.stretches.Stretch.{Stretch}
use Rattle.world.specs.declared.stretches.Stretch.TheVariants.{Deliveries}
use Rattle.world.specs.Events.{events_of, events_in}
use Rattle.world.specs.Run.{RunEvent, Deliver}

-- one more delivery
pub one_more : (first count number : ℕ) → first ≤ number → number - first ≡ count → events_of (Deliveries first (count + 1)) ≡ events_of (Deliveries first count) ++ Deliver number ∷ []
one_more first count number le is = map-range_with_len_more Deliver first count number (omega arith)

-- one more stretch
pub stretch_added : (xs ys : List Stretch) (s : Stretch) → ys ≡ xs ++ s ∷ [] → events_in ys ≡ events_in xs ++ events_of s
stretch_added xs ys s is = ap events_in is ∙ flat_map-append events_of xs (s ∷ []) ∙ ap (λ l. events_in xs ++ l) (append-nil (events_of s))

-- the last one took one more
took_at : (xs : List Stretch) (k : ℕ) (s t : Stretch) (x : RunEvent) → length xs ≡ k + 1 → slice_get xs k ≡ Some s → events_of t ≡ events_of s ++ x ∷ []
    → events_in (slice_set xs k t) ≡ events_in xs ++ x ∷ []
took_at [] k s t x len at took = absurd (cc)
took_at (y ∷ []) zero s t x len at took =
    let is : y ≡ s = cc in
    append-nil (events_of t) ∙ took ∙ ap (λ z. events_of z ++ x ∷ []) (sym is) ∙ ap (λ l. l ++ x ∷ []) (sym (append-nil (events_of y)))
took_at (y ∷ z ∷ xs) zero s t x len at took = absurd (omega (arith, len))
took_at (y ∷ xs) (suc k) s t x len at took =
    ap (λ l. events_of y ++ l) (took_at xs k s t x (omega (arith, len)) at took) ∙ sym (append_assoc (events_of y) (events_in xs) (x ∷ []))

pub last_took : (xs : List Stretch) (n : ℕ) (s t : Stretch) (x : RunEvent) → n ≡ length xs → 0 < n → s ≡ slice_index_or xs (n - 1) s → events_of t ≡ events_of s ++ x ∷ []
    → events_in (slice_set xs (n - 1) t) ≡ events_in xs ++ x ∷ []
last_took xs n s t x is some at took =
    let lt : n - 1 < length xs = omega arith in
    took_at xs (n - 1) s t x (omega arith) (slice_get-get_or xs (n - 1) s lt ∙ ap Some (sym at)) took
