-- Prefixes of runs: what was sent stays, and each event that a run keeps was accepted where it stands.
use Rattle.std.proofs.Common.{◌≡◌, ◌∙◌, ℕ, zero, suc, ◌+◌, ◌<◌, ◌≤◌, ap, sym, refl, arith, inl, inr, List, [], ◌∷◌, ◌++◌, length, Some, slice_get}
use Rattle.std.specs.Prelude.{◌⊎◌, Contains}
use Rattle.std.proofs.lemmas.List.{length-append}
use Rattle.messages.specs.declared.envelope.Envelope.{Envelope}
use Rattle.messages.specs.Topology.{TopologyValue}
use Rattle.world.specs.Run.{Run, RunEvent, opening, step, continued, run}
use Rattle.world.proofs.safety.Runs.{run_after}
use Rattle.world.proofs.growing.Grown.{run_grew}
use Rattle.world.proofs.worked.Replayed.{happens}
use Rattle.world.proofs.lists.Members.{contains_rest, contains_get}

-- ## Lists

pub get_first : {X : Type 0} (xs ys : List X) (k : ℕ) (x : X) → slice_get xs k ≡ Some x → slice_get (xs ++ ys) k ≡ Some x
get_first [] ys k x e = absurd (cc)
get_first (z ∷ xs) ys zero x e = e
get_first (z ∷ xs) ys (suc k) x e = get_first xs ys k x e

-- what stands past the first list stands in the second
pub get_added : {X : Type 0} (xs ys : List X) (k : ℕ) (x : X) → length xs ≤ k → slice_get (xs ++ ys) k ≡ Some x → Contains ys x
get_added [] [] k x le e = absurd (cc)
get_added [] (y ∷ ys) zero x le e = contains_get (y ∷ ys) zero x e
get_added [] (y ∷ ys) (suc k) x le e = contains_rest y x ys (get_added [] ys k x (omega arith) e)
get_added (z ∷ xs) ys zero x le e = absurd (omega arith)
get_added (z ∷ xs) ys (suc k) x le e = get_added xs ys k x (omega arith) e

pub get_there : {X : Type 0} (xs : List X) (k : ℕ) → k < length xs → (x : X) × (slice_get xs k ≡ Some x)
get_there [] k lt = absurd (omega arith)
get_there (x ∷ xs) zero lt = (x, refl)
get_there (x ∷ xs) (suc k) lt = get_there xs k (omega arith)

-- of two beginnings of a list one is a beginning of the other
pub one_begins : {X : Type 0} (xs ys us vs : List X) → xs ++ ys ≡ us ++ vs → ((zs : List X) × (us ≡ xs ++ zs)) ⊎ ((zs : List X) × (xs ≡ us ++ zs))
one_begins [] ys us vs e = inl (us, refl)
one_begins (x ∷ xs) ys [] vs e = inr (x ∷ xs, refl)
one_begins (x ∷ xs) ys (u ∷ us) vs e =
    let head : x ≡ u = cc in
    let rest : xs ++ ys ≡ us ++ vs = cc in
    elim (one_begins xs ys us vs rest) [
      | inl more ↦ inl (more.0, ap (λ l. u ∷ l) more.1 ∙ ap (λ z. z ∷ xs ++ more.0) (sym head))
      | inr more ↦ inr (more.0, ap (λ l. x ∷ l) more.1 ∙ ap (λ z. z ∷ us ++ more.0) head)
    ]

-- ## Runs

-- a message keeps its number
pub number_later : (top : TopologyValue) (w : Run) (xs : List RunEvent) (k : ℕ) (e : Envelope) → slice_get w.sent k ≡ Some e
    → slice_get (continued top w xs).sent k ≡ Some e
number_later top w xs k e is =
    let more = (run_grew top w xs).sent in
    ap (λ es. slice_get es k) more.1 ∙ get_first w.sent more.0 k e is

pub sent_no_less : (top : TopologyValue) (w : Run) (xs : List RunEvent) → length w.sent ≤ length (continued top w xs).sent
sent_no_less top w xs =
    let more = (run_grew top w xs).sent in
    let count : length (continued top w xs).sent ≡ length w.sent + length more.0 =
    ap (λ (es : List Envelope). length es) more.1 ∙ length-append w.sent more.0 in
    omega arith

-- an event adds at most itself
no_more_events : (top : TopologyValue) (w : Run) (xs : List RunEvent) → length (continued top w xs).events ≤ length w.events + length xs
no_more_events top w [] = omega arith
no_more_events top w (x ∷ xs) =
    let rest = no_more_events top (step top w x) xs in
    let one : length (step top w x).events ≤ length w.events + 1 = elim (happens top w x) [
      | inl same ↦ let e : length (step top w x).events ≡ length w.events = ap (λ (v : Run). length v.events) same in omega arith
      | inr added ↦
          let e : length (step top w x).events ≡ length w.events + 1 = ap (λ (es : List RunEvent). length es) added ∙ length-append w.events (x ∷ []) in
          omega arith
    ] in
    omega arith

-- the event was accepted
abbrev pub IsAccepted : Run → RunEvent → Run → Type 0
IsAccepted w x v = v.events ≡ w.events ++ x ∷ []

-- what is refused isn't accepted
pub not_both : (w : Run) (x : RunEvent) → IsAccepted w x w → ⊥
not_both w x e =
    let count : length w.events ≡ length w.events + 1 = ap (λ (es : List RunEvent). length es) e ∙ length-append w.events (x ∷ []) in omega arith

-- where a run's events are split, it is what follows from there
pub splits : (top : TopologyValue) (w : Run) → run top w.events ≡ w → (before : List RunEvent) (x : RunEvent) (after : List RunEvent)
    → w.events ≡ before ++ x ∷ after
    → continued top (step top (run top before) x) after ≡ w
splits top w replayed before x after e = sym (run_after top (opening top) before (x ∷ after)) ∙ ap (run top) (sym e) ∙ replayed

-- each event that a run keeps was accepted where it stands
pub accepted : (top : TopologyValue) (w : Run) → run top w.events ≡ w → (before : List RunEvent) (x : RunEvent) (after : List RunEvent)
    → w.events ≡ before ++ x ∷ after
    → IsAccepted (run top before) x (step top (run top before) x)
accepted top w replayed before x after e = by (happens top (run top before) x)
  where
    by : (step top (run top before) x ≡ run top before) ⊎ ((step top (run top before) x).events ≡ (run top before).events ++ x ∷ [])
        → IsAccepted (run top before) x (step top (run top before) x)
    by (inr added) = added
    by (inl same) =
        let first = no_more_events top (opening top) before in
        let rest = no_more_events top (step top (run top before) x) after in
        let stays : length (step top (run top before) x).events ≡ length (run top before).events = ap (λ (v : Run). length v.events) same in
        let whole : length (continued top (step top (run top before) x) after).events ≡ length w.events =
        ap (λ (v : Run). length v.events) (splits top w replayed before x after e) in
        let count : length w.events ≡ length before + suc (length after) = ap (λ (es : List RunEvent). length es) e ∙ length-append before (x ∷ after) in
        absurd (omega arith)
