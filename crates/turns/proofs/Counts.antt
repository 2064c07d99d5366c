-- A machine that counts, after one event more, and where it refuses one.
use Rattle.std.proofs.Common.{◌≡◌, ◌∙◌, ℕ, ◌+◌, List, [], ◌∷◌, ◌++◌, Some, Option, ◌⊎◌, inl, inr, refl, sym, ap, subst}
use Rattle.logical_time.specs.declared.fault.Fault.{Fault}
use Rattle.logical_time.specs.declared.fault.Fault.TheVariants.{ClockSpent, Collected, Memory}
use Rattle.messages.specs.declared.envelope.Envelope.{Envelope}
use Rattle.messages.specs.declared.op.Op.{Op}
use Rattle.messages.specs.declared.event.ActorEvent.{ActorEvent}
use Rattle.messages.specs.declared.event.ActorEvent.TheVariants.{Submit, Handle, Collect}
use Rattle.messages.specs.Topology.{TopologyValue}
use Rattle.actors.specs.Journals.{submissions, number_after}
use Rattle.actors.proofs.Recording.{counted}
use Rattle.turns.specs.Counting.{RefusesCollections}

-- an operation was counted
pub counts_submitted : (journal : List ActorEvent) (event : ActorEvent) (o : Op) (old new : ℕ) → event ≡ Submit o → old ≡ submissions journal
    → new ≡ old + 1 → new ≡ submissions (journal ++ event ∷ [])
counts_submitted journal event o old new is was more = rw (is, counted journal (Submit o)) (more ∙ ap (λ n. n + 1) was)

-- an envelope does nothing
pub counts_handled : (journal : List ActorEvent) (event : ActorEvent) (e : Envelope) (old new : ℕ) → event ≡ Handle e → old ≡ submissions journal
    → new ≡ old → new ≡ submissions (journal ++ event ∷ [])
counts_handled journal event e old new is was same = rw (is, counted journal (Handle e)) (same ∙ was)

-- the number of what was counted
pub numbers_submitted : (journal : List ActorEvent) (event : ActorEvent) (o : Op) (old number : ℕ) → event ≡ Submit o → old ≡ submissions journal
    → number ≡ old + 1 → Some number ≡ number_after journal event
numbers_submitted journal event o old number is was more = rw (is) (ap Some (more ∙ ap (λ n. n + 1) was))

-- an operation is refused once the count is spent
pub refuses_submitted : (top : TopologyValue) (node : ℕ) (journal : List ActorEvent) (event : ActorEvent) (o : Op) (fault : Fault) → event ≡ Submit o
    → fault ≡ ClockSpent → (fault ≡ Memory) ⊎ RefusesCollections top node journal event fault
refuses_submitted top node journal event o fault is spent = inr (subst (λ x. RefusesCollections top node journal x fault) (sym is) spent)

-- a collection is refused
pub refuses_collected : (top : TopologyValue) (node : ℕ) (journal : List ActorEvent) (event : ActorEvent) (time : ℕ) → event ≡ Collect time
    → (Collected ≡ Memory) ⊎ RefusesCollections top node journal event Collected
refuses_collected top node journal event time is = inr (subst (λ x. RefusesCollections top node journal x Collected) (sym is) refl)
