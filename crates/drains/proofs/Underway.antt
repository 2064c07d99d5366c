-- A drain, delivery by delivery.
use Rattle.std.proofs.Common.{◌≡◌, ◌∙◌, ℕ, zero, suc, ◌+◌, ◌<◌, List, [], ◌∷◌, ◌++◌, length, Option, Some, None, ◌⊎◌, inl, inr, refl, ap, sym, subst, arith, append_assoc, append-nil}
use Rattle.std.proofs.lemmas.List.{length-append}
use Rattle.logical_time.specs.declared.fault.Fault.{Fault}
use Rattle.logical_time.specs.declared.fault.Fault.TheVariants.{Memory}
use Rattle.messages.specs.Topology.{TopologyValue}
use Rattle.world.specs.declared.run_event.RunEvent.{RunEvent}
use Rattle.world.specs.declared.run_event.RunEvent.TheVariants.{Deliver}
use Rattle.world.specs.Run.{Run, opening, step, continued, run}
use Rattle.world.specs.Refusals.{Refusal, Refused, refusal_of}
use Rattle.world.specs.Lookups.{first_unhandled}
use Rattle.world.specs.World.{WorldValue, run_of, refusal_in, Takes, IsRefusedAs}
use Rattle.world.proofs.safety.Runs.{run_after}
use Rattle.world.proofs.quiet.Unhandled.{finds_unhandled}
use Rattle.drains.specs.Drain.{deliveries, AreAllowed, IsDrained, IsDrainedUntil}

-- ## Events that are allowed, or not

-- a refusal is the run's, or for want of memory
pub by_memory_or_run : (r : Option Refusal) (e : Fault) → IsRefusedAs r e → (e ≡ Memory) ⊎ (r ≡ Some (Refused e))
by_memory_or_run None e is = inl is
by_memory_or_run (Some r) e is = inr (ap Some is)

pub allowed_more : (top : TopologyValue) (w : Run) (xs : List RunEvent) (x : RunEvent) → AreAllowed top w xs → refusal_of top (continued top w xs) x ≡ None → AreAllowed top w (xs ++ x ∷ [])
allowed_more top w [] x all last = (last, tt)
allowed_more top w (y ∷ ys) x all last = (all.0, allowed_more top (step top w y) ys x all.1 last)

-- ## What a drain delivers

-- where all is handled a drain delivers nothing
pub none_delivered : (top : TopologyValue) (n : ℕ) (w : Run) → first_unhandled w ≡ None → deliveries top n w ≡ []
unfolding deliveries
none_delivered top zero w e = refl
none_delivered top (suc n) w e = rw e refl

pub next_delivered : (top : TopologyValue) (n : ℕ) (w : Run) (k : ℕ) → first_unhandled w ≡ Some k
    → deliveries top (suc n) w ≡ Deliver k ∷ deliveries top n (step top w (Deliver k))
unfolding deliveries
next_delivered top n w k e = rw e refl

pub all_delivered : (top : TopologyValue) (w : Run) → deliveries top 0 w ≡ []
unfolding deliveries
all_delivered top w = refl

-- ## A drain so far

-- this many of the deliveries were made
pub record IsUnderway (top : TopologyValue) (before after : List RunEvent) (count left : ℕ) : Type 0 where
  pub done : List RunEvent
  pub happened : after ≡ before ++ done
  pub number : length done ≡ count
  pub allowed : AreAllowed top (run top before) done
  pub drain : deliveries top (count + left) (run top before) ≡ done ++ deliveries top left (run top after)

pub not_begun : (top : TopologyValue) (before : List RunEvent) (left : ℕ) → IsUnderway top before before 0 left
not_begun top before left =
    record {
      done = [];
      happened = sym (append-nil before);
      number = refl;
      allowed = tt;
      drain = ap (λ n. deliveries top n (run top before)) (omega arith);
    }

-- the run after them goes on from the run before them
pub from_there : (top : TopologyValue) (before after done : List RunEvent) → after ≡ before ++ done → run top after ≡ continued top (run top before) done
from_there top before after done e = ap (run top) e ∙ run_after top (opening top) before done

pub one_more : (top : TopologyValue) (before after later : List RunEvent) (count left k : ℕ) → IsUnderway top before after count (suc left)
    → first_unhandled (run top after) ≡ Some k → refusal_of top (run top after) (Deliver k) ≡ None → later ≡ after ++ Deliver k ∷ []
    → IsUnderway top before later (count + 1) left
one_more top before after later count left k u first allowed is =
    let now : run top later ≡ step top (run top after) (Deliver k) = from_there top after later (Deliver k ∷ []) is in
    let here : refusal_of top (continued top (run top before) u.done) (Deliver k) ≡ None =
    ap (λ w. refusal_of top w (Deliver k)) (sym (from_there top before after u.done u.happened)) ∙ allowed in
    record {
      done = u.done ++ Deliver k ∷ [];
      happened = is ∙ ap (λ xs. xs ++ Deliver k ∷ []) u.happened ∙ append_assoc before u.done (Deliver k ∷ []);
      number = length-append u.done (Deliver k ∷ []) ∙ ap (λ n. n + 1) u.number;
      allowed = allowed_more top (run top before) u.done (Deliver k) u.allowed here;
      drain =
          ap (λ n. deliveries top n (run top before)) (omega arith)
          ∙ u.drain
          ∙ ap (λ xs. u.done ++ xs) (next_delivered top left (run top after) k first ∙ ap (λ w. Deliver k ∷ deliveries top left w) (sym now))
          ∙ sym (append_assoc u.done (Deliver k ∷ []) (deliveries top left (run top later)));
    }

-- no more is to be delivered
pub nothing_left : (top : TopologyValue) (before after : List RunEvent) (count left : ℕ) → IsUnderway top before after count left → count + left ≡ 1000000
    → deliveries top left (run top after) ≡ [] → IsDrained top before after count
nothing_left top before after count left u whole none =
    let all : deliveries top 1000000 (run top before) ≡ u.done =
    ap (λ n. deliveries top n (run top before)) (sym whole) ∙ u.drain ∙ ap (λ xs. u.done ++ xs) none ∙ append-nil u.done in
    record {
      happened = u.happened ∙ ap (λ xs. before ++ xs) (sym all);
      number = sym u.number ∙ ap (λ (xs : List RunEvent). length xs) (sym all);
      allowed = subst (AreAllowed top (run top before)) (sym all) u.allowed;
    }

pub all_handled : (top : TopologyValue) (before after : List RunEvent) (count left : ℕ) → IsUnderway top before after count left → count + left ≡ 1000000
    → first_unhandled (run top after) ≡ None → IsDrained top before after count
all_handled top before after count left u whole none = nothing_left top before after count left u whole (none_delivered top left (run top after) none)

pub all_made : (top : TopologyValue) (before after : List RunEvent) (count : ℕ) → IsUnderway top before after count 0 → count + 0 ≡ 1000000 → IsDrained top before after count
all_made top before after count u whole = nothing_left top before after count 0 u whole (all_delivered top (run top after))

-- the next one is refused
pub next_refused : (top : TopologyValue) (before after : List RunEvent) (count left k : ℕ) (e : Fault) → IsUnderway top before after count (suc left) → count + suc left ≡ 1000000
    → first_unhandled (run top after) ≡ Some k → (e ≡ Memory) ⊎ (refusal_of top (run top after) (Deliver k) ≡ Some (Refused e)) → IsDrainedUntil top before after e
next_refused top before after count left k e u whole first refused =
    record {
      done = u.done;
      next = k;
      rest = deliveries top left (step top (run top after) (Deliver k));
      drain =
          ap (λ n. deliveries top n (run top before)) (sym whole) ∙ u.drain
          ∙ ap (λ xs. u.done ++ xs) (next_delivered top left (run top after) k first);
      happened = u.happened;
      allowed = u.allowed;
      refused = refused;
    }

-- ## A drain of a world

-- a message that was not handled was sent
pub sent_unhandled : (w : Run) (k : ℕ) → first_unhandled w ≡ Some k → k < length w.sent
sent_unhandled w k first = ((finds_unhandled w).found k first).sent

module _ (start w : WorldValue) (same : w.top ≡ start.top) (count left : ℕ) where
  pub taken_more : (v : WorldValue) (k : ℕ) → IsUnderway start.top start.events w.events count (suc left) → first_unhandled (run_of w) ≡ Some k → Takes w (Deliver k) v
      → IsUnderway start.top start.events v.events (count + 1) left
  taken_more v k u first takes =
      one_more start.top start.events w.events v.events count left k u (ap (λ t. first_unhandled (run t w.events)) (sym same) ∙ first)
      (ap (λ t. refusal_of t (run t w.events) (Deliver k)) (sym same) ∙ takes.allowed) (ap (λ (z : WorldValue). z.events) takes.happened)

  pub whole_drain : IsUnderway start.top start.events w.events count left → count + left ≡ 1000000 → first_unhandled (run_of w) ≡ None
      → IsDrained start.top start.events w.events count
  whole_drain u whole none = all_handled start.top start.events w.events count left u whole (ap (λ t. first_unhandled (run t w.events)) (sym same) ∙ none)

  pub refused_drain : (k : ℕ) (e : Fault) → IsUnderway start.top start.events w.events count (suc left) → count + suc left ≡ 1000000 → first_unhandled (run_of w) ≡ Some k
      → IsRefusedAs (refusal_in w (Deliver k)) e → IsDrainedUntil start.top start.events w.events e
  refused_drain k e u whole first refused =
      next_refused start.top start.events w.events count left k e u whole (ap (λ t. first_unhandled (run t w.events)) (sym same) ∙ first)
      (subst (λ t. (e ≡ Memory) ⊎ (refusal_of t (run t w.events) (Deliver k) ≡ Some (Refused e))) same (by_memory_or_run (refusal_in w (Deliver k)) e refused))
