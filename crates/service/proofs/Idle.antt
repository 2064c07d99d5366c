-- Where no operation is open a submission is not refused as busy.
use Rattle.std.proofs.Common.{◌≡◌, ◌∙◌, ℕ, ◌<◌, Bool, true, false, Option, Some, None, refl, ap, sym, arith}
use Rattle.std.specs.Prelude.{◌==◌, nat_lt, if◌then◌else◌}
use Rattle.logical_time.specs.declared.fault.Fault.{Fault}
use Rattle.logical_time.specs.declared.fault.Fault.TheVariants.{Busy, ClockSpent}
use Rattle.logical_time.specs.Fault.{number_of}
use Rattle.planner.specs.Checks.{batch_fault, read_fault}
use Rattle.planner.proofs.Requests.{IsOfRequest, batch_low, read_low}
use Rattle.messages.specs.declared.op.Op.{Op}
use Rattle.messages.specs.declared.op.Op.TheVariants as op
use Rattle.messages.specs.Topology.{TopologyValue, is_session}
use Rattle.messages.specs.Clock.{ticked, on_clock}
use Rattle.messages.specs.Session.{SessionState, Idle, is_idle}
use Rattle.messages.specs.Submitting.{begun, busy_or, move_fault_if, plan_fault, submit_fault, submit_if, session_submit}
use Rattle.world.specs.declared.run_event.RunEvent.TheVariants.{Submit}
use Rattle.world.specs.Run.{Run}
use Rattle.world.specs.Refusals.{Refused, NoSuchActor, refused_by, refusal_of}

-- what an operation asks is refused otherwise
abbrev IsOther : Option Fault → Type 0
IsOther None = Unit {0}
IsOther (Some f) = f ≡ Busy → ⊥

of_request : (f : Option Fault) → IsOfRequest f → IsOther f
of_request None low = tt
of_request (Some f) low = busy f low
  where
    busy : (e : Fault) → number_of e < 20 → e ≡ Busy → ⊥
    busy e lt same = let n = ap number_of same in absurd (omega arith)

of_move : (there same : Bool) → IsOther (move_fault_if there same)
of_move false same = λ e. absurd cc
of_move true true = λ e. absurd cc
of_move true false = tt

plan_other : (top : TopologyValue) (home : ℕ) (o : Op) → IsOther (plan_fault top home o)
plan_other top home (op.Batch batch) = of_request (batch_fault top.schema batch) (batch_low top.schema batch)
plan_other top home (op.Read read) = of_request (read_fault top.schema read) (read_low top.schema read)
plan_other top home (op.Move dc) = of_move (nat_lt dc top.dcs) (dc == home)

module _ (top : TopologyValue) (w : Run) (node : ℕ) (o : Op) where
  abbrev a : SessionState
  a = w.sessions node

  refusals : (f : Option Fault) (c : Option ℕ) → IsOther f → refused_by (submit_if f top node a o) ≡ Some (Refused Busy)
      → ticked a.clock a.clock ≡ c → ⊥
  refusals (Some f) c other is q = other cc
  refusals None None other is q = no_spent (sym (ap (λ z. refused_by (on_clock z (λ n. begun top node n a o))) q) ∙ is)
    where
      no_spent : Some (Refused ClockSpent) ≡ Some (Refused Busy) → ⊥
      no_spent h = cc
  refusals None (Some n) other is q = no_refusal (sym (ap (λ z. refused_by (on_clock z (λ m. begun top node m a o))) q) ∙ is)
    where
      no_refusal : None ≡ Some (Refused Busy) → ⊥
      no_refusal h = cc

  as_session : (b : Bool) → (if b then refused_by (session_submit top node a o) else Some NoSuchActor) ≡ Some (Refused Busy) → refused_by (session_submit top node a o) ≡ Some (Refused Busy)
  as_session true is = is
  as_session false is = absurd cc

  pub not_busy : a.current ≡ Idle → refusal_of top w (Submit node o) ≡ Some (Refused Busy) → ⊥
  not_busy idle is =
      let fault : submit_fault top a o ≡ plan_fault top a.home o = ap (λ c. busy_or (is_idle c) (plan_fault top a.home o)) idle in
      let here = as_session (is_session top node) is in
      refusals (plan_fault top a.home o) (ticked a.clock a.clock) (plan_other top a.home o) (sym (ap (λ f. refused_by (submit_if f top node a o)) fault) ∙ here) refl
