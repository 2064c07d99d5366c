-- What is told of events that are allowed, one after the other.
use Rattle.std.proofs.Common.{◌≡◌, ◌∙◌, ℕ, ◌+◌, List, [], ◌∷◌, ◌++◌, Some, None, Ok, Err, ap, sym}
use Rattle.logical_time.specs.declared.fault.Fault.{Fault}
use Rattle.messages.specs.Topology.{TopologyValue}
use Rattle.world.specs.declared.run_event.RunEvent.{RunEvent}
use Rattle.world.specs.declared.run_event.RunEvent.TheVariants.{Deliver}
use Rattle.world.specs.Run.{Run, step, continued}
use Rattle.world.specs.Refusals.{Refused, refusal_of}
use Rattle.workload.specs.Simulation.{ended_between, told_if, told_of, then_told, told}
use Rattle.drains.specs.Drain.{AreAllowed}
use Rattle.workload.proofs.Told.{none_ended, ended_after, told_after}

-- of an event that is allowed what ended by it is told
pub one_told : (top : TopologyValue) (w : Run) (x : RunEvent) → refusal_of top w x ≡ None → told_of top w x ≡ Ok (ended_between w (step top w x))
one_told top w x q = ap (λ o. told_if o w x (step top w x)) q

-- and so of several
pub allowed_told : (top : TopologyValue) (w : Run) (xs : List RunEvent) → AreAllowed top w xs → told top w xs ≡ Ok (ended_between w (continued top w xs))
allowed_told top w [] all = ap Ok (sym (none_ended w))
allowed_told top w (x ∷ xs) all =
    let v = step top w x in
    ap (λ r. then_told r (told top v xs)) (one_told top w x all.0)
    ∙ ap (then_told (Ok (ended_between w v))) (allowed_told top v xs all.1)
    ∙ ap Ok (sym (ended_after top w (x ∷ []) xs))

-- an event that is refused after them ends what is told
pub refused_told : (top : TopologyValue) (w : Run) (done : List RunEvent) (k : ℕ) (rest : List RunEvent) (e : Fault) → AreAllowed top w done
    → refusal_of top (continued top w done) (Deliver k) ≡ Some (Refused e) → told top w (done ++ Deliver k ∷ rest) ≡ Err e
refused_told top w done k rest e all q =
    let v = continued top w done in
    told_after top w done (Deliver k ∷ rest)
    ∙ ap (λ r. then_told r (told top v (Deliver k ∷ rest))) (allowed_told top w done all)
    ∙ ap (λ o. then_told (Ok (ended_between w v)) (then_told (told_if o v (Deliver k) (step top v (Deliver k))) (told top (step top v (Deliver k)) rest))) q
