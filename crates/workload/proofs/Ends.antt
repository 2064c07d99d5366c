-- What ends a script: a clock that is spent, or an event that names what isn't there.
use Rattle.std.proofs.Common.{◌≡◌, ℕ, List, [], ◌∷◌, Option, Some, None, Result, Ok, Err, ◌⊎◌, inl, inr, refl, ap}
use Rattle.logical_time.specs.declared.fault.Fault.{Fault}
use Rattle.logical_time.specs.declared.fault.Fault.TheVariants.{ClockSpent, Script as NoScript}
use Rattle.messages.specs.Topology.{TopologyValue}
use Rattle.world.specs.declared.run_event.RunEvent.{RunEvent}
use Rattle.world.specs.declared.run_event.RunEvent.TheVariants.{Submit, Deliver, Collect}
use Rattle.world.specs.Run.{Run, opening, step}
use Rattle.world.specs.Refusals.{Refusal, Refused, NotSent, NoSuchActor, refusal_of}
use Rattle.world.proofs.steps.Refusals.{have_reasons}
use Rattle.workload.specs.declared.script.Script.{Script}
use Rattle.workload.specs.declared.transcript.Entry.{Entry}
use Rattle.workload.specs.Simulation.{submission_refused, refused_as, told_if, told_of, then_told, told, events_of, simulated}

-- the fault of a script that ends early
abbrev pub EndsEarly : Fault → Type 0
EndsEarly e = (e ≡ ClockSpent) ⊎ (e ≡ NoScript)

submission_ends : (node : ℕ) (f e : Fault) → submission_refused node f ≡ Err e → EndsEarly e
submission_ends node ClockSpent e h = inl cc
submission_ends node f e h = absurd cc

module _ (top : TopologyValue) (w : Run) where
  refused_ends : (x : RunEvent) (r : Refusal) (e : Fault) → refusal_of top w x ≡ Some r → refused_as x r ≡ Err e → EndsEarly e
  refused_ends (Submit node o) (Refused f) e q h = submission_ends node f e h
  refused_ends (Deliver k) (Refused f) e q h = let spent = ((have_reasons top w).deliveries k f q).3 in inl cc
  refused_ends (Collect node time) (Refused f) e q h = let spent = ((have_reasons top w).collections node time f q).1 in inl cc
  refused_ends (Submit node o) NotSent e q h = inr cc
  refused_ends (Submit node o) NoSuchActor e q h = inr cc
  refused_ends (Deliver k) NotSent e q h = inr cc
  refused_ends (Deliver k) NoSuchActor e q h = inr cc
  refused_ends (Collect node time) NotSent e q h = inr cc
  refused_ends (Collect node time) NoSuchActor e q h = inr cc

  one_ends : (x : RunEvent) (o : Option Refusal) (e : Fault) → refusal_of top w x ≡ o → told_if o w x (step top w x) ≡ Err e → EndsEarly e
  one_ends x None e q h = absurd cc
  one_ends x (Some r) e q h = refused_ends x r e q h

either_ends : (r s : Result (List Entry) Fault) (e : Fault) → then_told r s ≡ Err e → (r ≡ Err e) ⊎ (s ≡ Err e)
either_ends (Ok a) (Ok b) e h = absurd cc
either_ends (Ok a) (Err f) e h = let same : f ≡ e = cc in inr (ap Err same)
either_ends (Err f) s e h = inl h

told_ends : (top : TopologyValue) (w : Run) (xs : List RunEvent) (e : Fault) → told top w xs ≡ Err e → EndsEarly e
told_ends top w [] e h = absurd cc
told_ends top w (x ∷ xs) e h = by (told_ends top (step top w x) xs e) (either_ends (told_of top w x) (told top (step top w x) xs) e h)
  where
    by : (told top (step top w x) xs ≡ Err e → EndsEarly e) → (told_of top w x ≡ Err e) ⊎ (told top (step top w x) xs ≡ Err e) → EndsEarly e
    by rest (inl here) = one_ends top w x (refusal_of top w x) e refl here
    by rest (inr later) = rest later

pub script_ends : (s : Script) (e : Fault) → simulated s ≡ Err e → (e ≡ ClockSpent) ⊎ (e ≡ NoScript)
script_ends s e h = told_ends s.topology (opening s.topology) (events_of s) e h
