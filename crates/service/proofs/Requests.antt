-- Operations that are submitted, turned away, or left open.
use Rattle.std.proofs.Common.{◌≡◌, ◌∙◌, ℕ, ◌+◌, ◌<◌, ◌≤◌, Bool, true, false, List, Option, Some, None, ◌⊎◌, inl, inr, refl, ap, sym, subst, arith}
use Rattle.std.specs.Prelude.{nat_lt}
use Rattle.std.proofs.lemmas.Bool.Decides.{nat_tests}
use Rattle.logical_time.specs.declared.fault.Fault.{Fault}
use Rattle.logical_time.specs.declared.fault.Fault.TheVariants.{Busy}
use Rattle.messages.specs.declared.op.Op.{Op}
use Rattle.messages.specs.declared.outcome.Outcome.{Outcome}
use Rattle.messages.specs.declared.outcome.Outcome.TheVariants as outcome
use Rattle.messages.specs.Topology.{TopologyValue}
use Rattle.world.specs.declared.run_event.RunEvent.{RunEvent}
use Rattle.world.specs.declared.run_event.RunEvent.TheVariants.{Submit}
use Rattle.world.specs.Run.{run}
use Rattle.world.specs.Refusals.{Refusal, Refused}
use Rattle.world.specs.World.{WorldValue, run_of, refusal_in, Takes, IsRefusedAs}
use Rattle.drains.specs.Drain.{IsDrained, IsDrainedUntil, LeavesNothing}
use Rattle.service.specs.Port.{refused_at, IsReady, IsFull, IsSubmitted, IsTurnedAway, IsOpen, CameTo, HasNoCopy, IsHandled, IsStopped, IsAnswered, IsUncopied, IsLeftOpen}
use Rattle.service.proofs.Idle.{not_busy}
use Rattle.service.proofs.Meant.{handled_listed}

-- ## Before a submission

-- a drain that delivered fewer messages than it may has made the world ready
pub ready_now : (v w : WorldValue) (count : ℕ) → IsDrained v.top v.events w.events count → (count < 1000000 → LeavesNothing w.top w.events) → w.top ≡ v.top → count < 1000000
    → IsReady v.top v.events w.events
ready_now v w count drained nothing same few = record { count = count; drained = drained; left = subst (λ t. LeavesNothing t w.events) same (nothing few) }

pub full_now : (v w : WorldValue) (count : ℕ) → IsDrained v.top v.events w.events count → 1000000 ≤ count → IsFull v.top v.events Busy w.events
full_now v w count drained most = record { count = count; drained = drained; most = most; busy = refl }

-- why the world isn't ready is why nothing is submitted
pub unready_now : (top : TopologyValue) (session : ℕ) (op : Op) (before after : List RunEvent) (f : Fault) → IsDrainedUntil top before after f ⊎ IsFull top before f after
    → IsTurnedAway top session op before f after
unready_now top session op before after f (inl stopped) = inl stopped
unready_now top session op before after f (inr full) = inr (inl full)

-- ## Submissions

pub submitted_after : (v s w : WorldValue) (session : ℕ) (op : Op) (number : ℕ) → IsReady v.top v.events s.events → s.top ≡ v.top → Takes s (Submit session op) w
    → number ≡ ((run_of s).sessions session).count + 1 → IsSubmitted v.top session op v.events number w.events
submitted_after v s w session op number ready same takes numbered = record {
  ready = s.events;
  is_ready = ready;
  allowed = subst (λ t. refused_at t session op s.events ≡ None) same takes.allowed;
  numbered = numbered ∙ ap (λ t. ((run t s.events).sessions session).count + 1) same;
  happened = ap (λ (x : WorldValue). x.events) takes.happened;
}

busy_refusal : (r : Option Refusal) → IsRefusedAs r Busy → r ≡ Some (Refused Busy)
busy_refusal None refused = absurd cc
busy_refusal (Some r) refused = ap Some refused

-- where all is done no refusal is for an open operation
pub not_busy_then : (top : TopologyValue) (session : ℕ) (op : Op) (before ready : List RunEvent) (f : Fault) → IsReady top before ready → IsRefusedAs (refused_at top session op ready) f → f ≡ Busy → ⊥
not_busy_then top session op before ready f is_ready refused is =
    not_busy top (run top ready) session op (is_ready.left.settled.idle session)
    (busy_refusal (refused_at top session op ready) (subst (λ (e : Fault). IsRefusedAs (refused_at top session op ready) e) is refused))

pub declined_after : (v s x : WorldValue) (session : ℕ) (op : Op) (f : Fault) → IsReady v.top v.events s.events → s.top ≡ v.top → IsRefusedAs (refusal_in s (Submit session op)) f → x ≡ s
    → IsTurnedAway v.top session op v.events f x.events
declined_after v s x session op f ready same refused stays =
    let at : IsRefusedAs (refused_at v.top session op s.events) f = subst (λ t. IsRefusedAs (refused_at t session op s.events) f) same refused in
    subst (λ (y : WorldValue). IsTurnedAway v.top session op v.events f y.events) (sym stays)
    (inr (inr (record { is_ready = ready; refused = at; other = not_busy_then v.top session op v.events s.events f ready at })))

-- ## An operation that is still open

still_open : (top : TopologyValue) (session : ℕ) (op : Op) (before submitted after : List RunEvent) (number count : ℕ) → 0 < top.shards → IsSubmitted top session op before number submitted
    → IsDrained top submitted after count → (count < 1000000 → LeavesNothing top after) → IsOpen (run top after) session number → (b : Bool) → nat_lt count 1000000 ≡ b → 1000000 ≤ count
still_open top session op before submitted after number count some is_submitted drained nothing still true is =
    let l = handled_listed top session some op before number after (record { submitted = submitted; is_submitted = is_submitted; count = count; drained = drained }) in
    let s = l.submission in
    let w = run top after in
    let out = (nothing (grind (arith, nat_tests))).settled.outcomes s l.among in
    let c = out.0 in
    absurd (still c (record { listed = out.1.ended; node = out.1.node ∙ l.session_is; numbered = out.1.number ∙ l.numbered }))
still_open top session op before submitted after number count some is_submitted drained nothing still false is = grind (arith, nat_tests)

-- ## What came of a request

module _ (v s w x : WorldValue) (session : ℕ) (op : Op) (number : ℕ) (ts : s.top ≡ v.top) (is_submitted : IsSubmitted v.top session op v.events number s.events) where
  pub stopped_now : (f : Fault) → IsDrainedUntil s.top s.events w.events f → IsStopped v.top session op v.events f w.events
  stopped_now f stopped = record { number = number; submitted = s.events; is_submitted = is_submitted; stopped = subst (λ t. IsDrainedUntil t s.events w.events f) ts stopped }

  module _ (count : ℕ) (tw : w.top ≡ s.top) (drained : IsDrained s.top s.events w.events count) (same : x ≡ w) where
    t : x.top ≡ v.top
    t = ap (λ (y : WorldValue). y.top) same ∙ (tw ∙ ts)

    abbrev handled_now : IsHandled v.top session op v.events number x.events
    handled_now = record {
      submitted = s.events;
      is_submitted = is_submitted;
      count = count;
      drained = subst (λ (y : WorldValue). IsDrained v.top s.events y.events count) (sym same) (subst (λ y. IsDrained y s.events w.events count) ts drained);
    }

    came_now : (o : Option Outcome) → CameTo (run_of w) session number o → CameTo (run v.top x.events) session number o
    came_now o came = subst (λ y. CameTo (run y x.events) session number o) t (subst (λ y. CameTo (run_of y) session number o) (sym same) came)

    pub answered_now : (o : Outcome) → CameTo (run_of w) session number (Some o) → IsAnswered v.top session op v.events o x.events
    answered_now o came = record { number = number; handled = handled_now; ended = came_now (Some o) came }

    pub uncopied_now : (f : Fault) → HasNoCopy (run_of w) session number f → IsUncopied v.top session op v.events f x.events
    uncopied_now f none = record {
      number = number;
      handled = handled_now;
      time = none.time;
      answer = none.answer;
      ended = came_now (Some (outcome.Read none.time none.answer)) none.ended;
      memory = none.memory;
    }

    pub left_open_now : 0 < v.top.shards → (count < 1000000 → LeavesNothing w.top w.events) → CameTo (run_of w) session number None → IsLeftOpen v.top session op v.events Busy x.events
    left_open_now some nothing still =
        let h = handled_now in
        let opened = came_now None still in
        let leaves : count < 1000000 → LeavesNothing v.top x.events =
        λ lt. subst (λ y. LeavesNothing y x.events) t (subst (λ (y : WorldValue). LeavesNothing y.top y.events) (sym same) (nothing lt)) in
        record {
          number = number;
          handled = h;
          still = opened;
          most = still_open v.top session op v.events s.events x.events number count some is_submitted h.drained leaves opened (nat_lt count 1000000) refl;
          busy = refl;
        }
