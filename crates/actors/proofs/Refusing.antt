-- With which faults a seat refuses.
use Rattle.std.proofs.Common.{◌≡◌, ◌≤◌, ◌<◌, ◌⊎◌, true, [], ◌∷◌, length, List, Option, Some, None, refl, sym, ap, subst, ◌∙◌, inl, inr, arith}
use Rattle.std.specs.Prelude.{Result, Ok, Err, IfErr, OnErr, IfSome, IsSome}
use Rattle.std.proofs.lemmas.Bool.{cases_lt}
use Rattle.logical_time.specs.declared.fault.Fault.{Fault}
use Rattle.logical_time.specs.declared.fault.Fault.TheVariants.{JournalFull, Memory}
use Rattle.logical_time.specs.Fault.{number_of}
use Rattle.messages.specs.declared.envelope.Envelope.{Envelope}
use Rattle.messages.specs.declared.event.ActorEvent.{ActorEvent}
use Rattle.messages.specs.declared.event.ActorEvent.TheVariants.{Handle}
use Rattle.actors.specs.Machines.{Refuses}
use Rattle.actors.specs.Seats.{SeatValue}
use Rattle.actors.specs.Turns.{IsOfRequest, HasTakenOff}
use Rattle.actors.specs.Refusals.{IsRefusal, IsFirst, IsDueOf, IsKeptBack, CanRefuse}

-- an event is refused so, where it is refused with `JournalFull` if the journal is full, and else for memory or as the machine refuses it
pub refusal_of : (refuses : Refuses) (s : SeatValue) (event : ActorEvent) (fault : Fault) → (s.limit ≤ length s.journal → fault ≡ JournalFull)
    → (length s.journal < s.limit → (fault ≡ Memory) ⊎ refuses s.topology s.node s.journal event fault) → IsRefusal refuses s event fault
refusal_of refuses s event fault full room = elim (cases_lt (length s.journal) s.limit) [
  | inl below ↦ inr (below, room below)
  | inr above ↦ inl (above, full above)
]

pub is_refusal : {A B : Type 0} (refuses : Refuses) (s : SeatValue) (event : ActorEvent) (r : Result A (Fault × B))
    → (s.limit ≤ length s.journal → IfErr r (λ e. e.0 ≡ JournalFull))
    → (length s.journal < s.limit → IfErr r (λ e. (e.0 ≡ Memory) ⊎ refuses s.topology s.node s.journal event e.0)) → IfErr r (λ e. IsRefusal refuses s event e.0)
is_refusal refuses s event (Ok a) full room = tt
is_refusal refuses s event (Err e) full room = refusal_of refuses s event e.0 full room

-- it is the envelope that is held
pub held_refused : (refuses : Refuses) (s : SeatValue) (held : Envelope) (fault : Fault) → s.held ≡ Some held → IsRefusal refuses s (Handle held) fault
    → IfSome s.held (λ e. IsRefusal refuses s (Handle e) fault)
held_refused refuses s held fault is refused = subst (λ o. IfSome o (λ e. IsRefusal refuses s (Handle e) fault)) (sym is) refused

-- it is the first item of the backlog, which the seat is to do
pub work_refused : {A : Type 0} (refuses : Refuses) (s n : SeatValue) (r : Result A Fault) → 0 < length s.backlog → s.held ≡ None → s.free ≡ true → OnErr r (n ≡ s)
    → ((event : ActorEvent) → IsFirst s event → IfErr r (λ fault. (fault ≡ Memory) ⊎ (IsRefusal refuses s event fault × (IsOfRequest fault → ⊥))))
    → IfErr r (λ fault. CanRefuse refuses fault n)
work_refused refuses s n (Ok a) some none free same refused = tt
work_refused refuses s n (Err e) some none free same refused = subst (λ (z : SeatValue). CanRefuse refuses e z) (sym same) (by s.backlog refl)
  where
    by : (items : List ActorEvent) → s.backlog ≡ items → CanRefuse refuses e s
    by [] is = absurd (let len : length s.backlog ≡ 0 = ap (λ (l : List ActorEvent). length l) is in omega (arith, len, some))
    by (x ∷ more) is =
        elim (refused x (more, is)) [
          | inl memory ↦ inl memory
          | inr back ↦ inr (x, subst (λ o. IsDueOf o s x) (sym none) (free, (more, is)), (back.0, λ own. back.1))
        ]

-- the first item of the backlog was refused for something else than what it asks
pub kept_back : (refuses : Refuses) (s : SeatValue) (event : ActorEvent) (more : List ActorEvent) (fault : Fault) → s.backlog ≡ event ∷ more → (IsOfRequest fault → ⊥)
    → IsRefusal refuses s event fault → (x : ActorEvent) → IsFirst s x → (fault ≡ Memory) ⊎ (IsRefusal refuses s x fault × (IsOfRequest fault → ⊥))
kept_back refuses s event more fault is other refused x first =
    let both : event ∷ more ≡ x ∷ first.0 = sym is ∙ first.1 in
    let same : event ≡ x = cc in
    inr (subst (λ (z : ActorEvent). IsRefusal refuses s z fault) same refused, other)

-- a full journal and the lack of memory are no refusals for what is asked
full_is_none : IsOfRequest JournalFull → ⊥
full_is_none (inl low) = let is : number_of JournalFull ≡ 24 = refl in absurd (omega (arith, is, low))
full_is_none (inr (inl same)) = absurd (cc)
full_is_none (inr (inr same)) = absurd (cc)

memory_is_none : IsOfRequest Memory → ⊥
memory_is_none (inl low) = let is : number_of Memory ≡ 23 = refl in absurd (omega (arith, is, low))
memory_is_none (inr (inl same)) = absurd (cc)
memory_is_none (inr (inr same)) = absurd (cc)

-- a refusal of an operation for what it asks is the machine's, and there was room
pub taken_off : (refuses : Refuses) (event : ActorEvent) (fault : Fault) (old new : SeatValue) → old.backlog ≡ event ∷ new.backlog → IsOfRequest fault
    → IsRefusal refuses old event fault → HasTakenOff refuses fault old new
taken_off refuses event fault old new first request (inl full) = absurd (full_is_none (subst IsOfRequest full.1 request))
taken_off refuses event fault old new first request (inr (room, inl memory)) = absurd (memory_is_none (subst IsOfRequest memory request))
taken_off refuses event fault old new first request (inr (room, inr refused)) = record { event = event; first = first; room = room; refused = refused }

-- the envelope that is held was refused, and the seat is to handle it
pub handle_refused : (refuses : Refuses) (s n : SeatValue) (fault : Fault) → IsSome s.held → n ≡ s → IfSome s.held (λ e. IsRefusal refuses s (Handle e) fault)
    → CanRefuse refuses fault n
handle_refused refuses s n fault some same refused = subst (λ (z : SeatValue). CanRefuse refuses fault z) (sym same) (by s.held refl some refused)
  where
    by : (o : Option Envelope) → s.held ≡ o → IsSome o → IfSome o (λ e. IsRefusal refuses s (Handle e) fault) → CanRefuse refuses fault s
    by None is some refused = absurd (cc)
    by (Some e) is some refused = inr (Handle e, subst (λ o. IsDueOf o s (Handle e)) (sym is) refl, (refused, λ own. absurd (cc)))

-- an event is to be done, for which a full journal has no room
pub stuck_refused : (refuses : Refuses) (s : SeatValue) → s.limit ≤ length s.journal → IsSome s.held ⊎ ((0 < length s.backlog) × (s.free ≡ true))
    → CanRefuse refuses JournalFull s
stuck_refused refuses s full due = by s.held refl due
  where
    kept : (x : ActorEvent) → IsKeptBack refuses s x JournalFull
    kept x = (inl (full, refl), λ own. full_is_none)

    first : (items : List ActorEvent) → s.backlog ≡ items → s.held ≡ None → (0 < length s.backlog) × (s.free ≡ true) → CanRefuse refuses JournalFull s
    first [] is none work = absurd (let len : length s.backlog ≡ 0 = ap (λ (l : List ActorEvent). length l) is in let some = work.0 in omega (arith, len, some))
    first (x ∷ more) is none work = inr (x, subst (λ o. IsDueOf o s x) (sym none) (work.1, (more, is)), kept x)

    by : (o : Option Envelope) → s.held ≡ o → IsSome o ⊎ ((0 < length s.backlog) × (s.free ≡ true)) → CanRefuse refuses JournalFull s
    by (Some e) is some = inr (Handle e, subst (λ o. IsDueOf o s (Handle e)) (sym is) refl, kept (Handle e))
    by None is (inl some) = absurd (cc)
    by None is (inr work) = first s.backlog refl is work
