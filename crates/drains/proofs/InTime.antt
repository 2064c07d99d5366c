-- A drain whose bound is within its limit ends in a quiet world, and nothing but memory refuses it.
use Rattle.std.proofs.Common.{◌≡◌, ◌∙◌, ℕ, zero, suc, ◌+◌, ◌<◌, true, List, [], ◌∷◌, ◌++◌, length, Option, Some, None, refl, ap, sym, subst, arith, append_assoc, append-nil, inl, inr}
use Rattle.std.specs.Prelude.{◌^◌}
use Rattle.std.proofs.lemmas.List.{length-append}
use Rattle.logical_time.specs.declared.fault.Fault.{Fault}
use Rattle.logical_time.specs.declared.fault.Fault.TheVariants.{Memory}
use Rattle.messages.specs.Topology.{TopologyValue, is_topology}
use Rattle.world.specs.declared.run_event.RunEvent.{RunEvent}
use Rattle.world.specs.declared.run_event.RunEvent.TheVariants.{Deliver}
use Rattle.world.specs.Run.{Run, opening, step, continued, run}
use Rattle.world.specs.Refusals.{refusal_of}
use Rattle.world.specs.Lookups.{first_unhandled}
use Rattle.world.specs.World.{WorldValue, run_of}
use Rattle.world.specs.Drains.{deliveries_left, with_delivered, drained, HasEnded}
use Rattle.world.proofs.safety.Runs.{run_after}
use Rattle.world.proofs.steps.Refusals.{allowed_is_added}
use Rattle.world.proofs.quiet.Unhandled.{finds_unhandled}
use Rattle.world.proofs.drains.DrainEnds.{drained_quiet, deliveries_are_allowed, deliveries_leave_fewer, drains_end}
use Rattle.drains.specs.Drain.{deliveries, IsDrained, IsDrainedUntil, HasRoom}
use Rattle.drains.proofs.Underway.{none_delivered, next_delivered, all_delivered, from_there}

-- the deliveries of a drain lead to the drained run
drained_is : (top : TopologyValue) (n : ℕ) (w : Run) → continued top w (deliveries top n w) ≡ drained top n w
drained_is top zero w = ap (continued top w) (all_delivered top w)
drained_is top (suc n) w = by (first_unhandled w) refl (λ k. drained_is top n (step top w (Deliver k)))
  where
    by : (o : Option ℕ) → first_unhandled w ≡ o → ((k : ℕ) → continued top (step top w (Deliver k)) (deliveries top n (step top w (Deliver k))) ≡ drained top n (step top w (Deliver k)))
        → continued top w (deliveries top (suc n) w) ≡ drained top (suc n) w
    by None none rest = ap (continued top w) (none_delivered top (suc n) w none) ∙ sym (drained_quiet top (suc n) w none)
    by (Some k) first rest =
        ap (continued top w) (next_delivered top n w k first) ∙ (rest k ∙ ap (λ o. drained top n (with_delivered top w o)) (sym first))

ends_in_time : (top : TopologyValue) (before after : List RunEvent) (count : ℕ) → is_topology top.dcs top.shards top.homes ≡ true → IsDrained top before after count
    → HasRoom top before → HasEnded top (run top before) (run top after)
ends_in_time top before after count ok d room =
    subst (HasEnded top (run top before))
    (sym (from_there top before after (deliveries top 1000000 (run top before)) d.happened ∙ drained_is top 1000000 (run top before)))
    (drains_end top ok before 1000000 room.within room.clocks)

-- so of a world
pub world_in_time : (start w : WorldValue) → is_topology start.top.dcs start.top.shards start.top.homes ≡ true → w.top ≡ start.top → (count : ℕ) → IsDrained start.top start.events w.events count → HasRoom start.top start.events
    → HasEnded start.top (run_of start) (run_of w)
world_in_time start w ok same count d room =
    subst (λ t. HasEnded start.top (run_of start) (run t w.events)) (sym same) (ends_in_time start.top start.events w.events count ok d room)

-- no delivery of a drain is refused where clocks have room for it
next_allowed : (top : TopologyValue) → is_topology top.dcs top.shards top.homes ≡ true → (n : ℕ) (events done rest : List RunEvent) (next : ℕ)
    → length (run top events).events + deliveries_left top (run top events) < 2 ^ 48
    → deliveries top n (run top events) ≡ done ++ Deliver next ∷ rest → refusal_of top (run top (events ++ done)) (Deliver next) ≡ None
next_allowed top ok zero events [] rest next room is = let none = sym (all_delivered top (run top events)) ∙ is in absurd (cc)
next_allowed top ok zero events (x ∷ done) rest next room is = let none = sym (all_delivered top (run top events)) ∙ is in absurd (cc)
next_allowed top ok (suc n) events done rest next room is =
    by (first_unhandled (run top events)) refl done is (λ k xs. next_allowed top ok n (events ++ Deliver k ∷ []) xs rest next)
  where
    none : (xs : List RunEvent) → [] ≡ xs ++ Deliver next ∷ rest → ⊥
    none [] e = absurd (cc)
    none (x ∷ xs) e = absurd (cc)

    by : (o : Option ℕ) → first_unhandled (run top events) ≡ o → (done : List RunEvent) → deliveries top (suc n) (run top events) ≡ done ++ Deliver next ∷ rest
        → ((k : ℕ) (xs : List RunEvent)
        → length (run top (events ++ Deliver k ∷ [])).events + deliveries_left top (run top (events ++ Deliver k ∷ [])) < 2 ^ 48
        → deliveries top n (run top (events ++ Deliver k ∷ [])) ≡ xs ++ Deliver next ∷ rest
        → refusal_of top (run top ((events ++ Deliver k ∷ []) ++ xs)) (Deliver next) ≡ None)
        → refusal_of top (run top (events ++ done)) (Deliver next) ≡ None
    by None e done is again = absurd (none done (sym (none_delivered top (suc n) (run top events) e) ∙ is))
    by (Some k) e [] is again =
        let f = (finds_unhandled (run top events)).found k e in
        let same = sym (next_delivered top n (run top events) k e) ∙ is in
        let number : k ≡ next = cc in
        subst (λ xs. refusal_of top (run top xs) (Deliver next) ≡ None) (sym (append-nil events))
        (subst (λ m. refusal_of top (run top events) (Deliver m) ≡ None) number (deliveries_are_allowed top ok events k f.sent f.unhandled room))
    by (Some k) e (x ∷ xs) is again =
        let w = run top events in
        let f = (finds_unhandled w).found k e in
        let both = sym (next_delivered top n w k e) ∙ is in
        let first : Deliver k ≡ x = cc in
        let others : deliveries top n (step top w (Deliver k)) ≡ xs ++ Deliver next ∷ rest = cc in
        let allowed = deliveries_are_allowed top ok events k f.sent f.unhandled room in
        let fewer = deliveries_leave_fewer top ok events k f.sent f.unhandled allowed in
        let longer : length (step top w (Deliver k)).events ≡ length w.events + 1 =
        ap length (allowed_is_added top w (Deliver k) allowed) ∙ length-append w.events (Deliver k ∷ []) in
        let more : run top (events ++ Deliver k ∷ []) ≡ step top w (Deliver k) = run_after top (opening top) events (Deliver k ∷ []) in
        let left : length (step top w (Deliver k)).events + deliveries_left top (step top w (Deliver k)) < 2 ^ 48 = omega arith in
        subst (λ ys. refusal_of top (run top ys) (Deliver next) ≡ None) (append_assoc events (Deliver k ∷ []) xs ∙ ap (λ y. events ++ y ∷ xs) first)
        (again k xs (subst (λ v. length v.events + deliveries_left top v < 2 ^ 48) (sym more) left)
        (subst (λ v. deliveries top n v ≡ xs ++ Deliver next ∷ rest) (sym more) others))

pub memory_alone : (top : TopologyValue) (before after : List RunEvent) (e : Fault) → is_topology top.dcs top.shards top.homes ≡ true → IsDrainedUntil top before after e → HasRoom top before → e ≡ Memory
memory_alone top before after e ok d room =
    let allowed = next_allowed top ok 1000000 before d.done d.rest d.next room.clocks d.drain in
    elim (d.refused) [
      | inl memory ↦ memory
      | inr refused ↦ (let clash = sym allowed ∙ (ap (λ xs. refusal_of top (run top xs) (Deliver d.next)) (sym d.happened) ∙ refused) in absurd (none_some clash))
    ]
  where
    none_some : {X : Type 0} {x : X} → None ≡ Some x → ⊥
    none_some q = absurd (cc)
