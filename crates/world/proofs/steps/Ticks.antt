-- What a session sends in an event, and the clock of an actor's step.
use Rattle.std.proofs.Common.{◌≡◌, ◌∷◌, ℕ, ◌+◌, ◌<◌, ◌^◌, max, sym, ap, refl, subst, arith, Bool, true, false, cond, map, Option, Some, None}
use Rattle.std.specs.Prelude.{nat_lt}
use Rattle.std.proofs.lemmas.Bool.Decides.{nat_tests}
use Rattle.logical_time.specs.declared.fault.Fault.{Fault}
use Rattle.planner.specs.Plan.{cohorts_of, shards_asked}
use Rattle.messages.specs.declared.op.Op.{Op}
use Rattle.messages.specs.declared.body.Body.{Body}
use Rattle.messages.specs.declared.body.Body.TheVariants.{Read as ReadNow}
use Rattle.messages.specs.declared.envelope.Envelope.{Envelope}
use Rattle.messages.specs.Topology.{TopologyValue}
use Rattle.messages.specs.Words.{envelope}
use Rattle.messages.specs.Clock.{ticked, on_clock}
use Rattle.messages.specs.Shard.{ShardState, ShardStep}
use Rattle.messages.specs.Session.{SessionState, SessionStep}
use Rattle.messages.specs.ShardEvents.{handled, collected}
use Rattle.messages.specs.Submitting.{home_node, begin_of, prepare_of, share_of, check_of, begun, submit_fault, submit_if as submitted_if}
use Rattle.messages.specs.SessionEvents.{read_at_of, heard, session_taken}
use Rattle.messages.specs.declared.event.ActorEvent.{ActorEvent}
use Rattle.messages.specs.declared.event.ActorEvent.TheVariants.{Submit as SubmitHere, Handle, Collect as CollectHere}
use Rattle.messages.specs.Actors.{ActorState, OfShard, OfSession, clock_of, ActorStep, of_shard, of_session, actor_step}
use Rattle.world.specs.Journals.{Ticks, KeepsTime}
use Rattle.world.proofs.steps.HeardCases.{heard_cases}
use Rattle.world.proofs.steps.BegunCases.{begun_cases}
use Rattle.world.proofs.steps.OwnSends.{AreOwn, IsOwn, none, first, each, handled_own}

-- the clock after a session's step, and what it sends
abbrev pub IsOwnHere : ℕ → ℕ → SessionStep → Type 0
IsOwnHere me n st = (st.state.clock ≡ n) × AreOwn me n st.sends

-- ## A session

pub heard_own : (top : TopologyValue) (me n : ℕ) (a : SessionState) (from : ℕ) (b : Body) → IsOwnHere me n (heard top me n a from b)
heard_own top me n a from b =
    heard_cases top me n a from b (IsOwnHere me n)
    (record {
      still = λ ignored. (refl, none);
      wrote = λ coordinator t commit stamp k. (refl, none);
      kept = λ read hs rows k some. (refl, none);
      second = λ read hs rows k all s ss e. (refl, each (read_at_of me n a read _ _) (s ∷ ss) (λ z. (refl, refl)));
      ends = λ read hs rows k all e. (refl, none);
      kept_at = λ read time first hs rows k some. (refl, none);
      ends_at = λ read time first hs rows k all. (refl, none);
      gives_up = λ read time first hs k. (refl, none);
      counted = λ dc left floor dependency commit k u us e. (refl, none);
      arrives = λ dc left floor dependency commit k e. (refl, none);
    })

pub begun_own : (top : TopologyValue) (me n : ℕ) (a : SessionState) (o : Op) → IsOwnHere me n (begun top me n a o)
begun_own top me n a o =
    begun_cases top me n a (λ o st. IsOwnHere me n st)
    (record {
      writes = λ batch. (
        refl,
        first (begin_of top me n a batch) (map (prepare_of top me n a batch) (cohorts_of top.shards batch)) (refl, refl)
            (each (prepare_of top me n a batch) (cohorts_of top.shards batch) (λ s. (refl, refl))),
      );
      reads = λ read. (
        refl,
        each (λ s. envelope me (home_node top a s) n (ReadNow (a.count + 1) (share_of top read s))) (shards_asked top.shards read.keys) (λ s. (refl, refl)),
      );
      moves = λ dc k ks e. (refl, each (check_of top me n a dc) a.dependencies (λ k. (refl, refl)));
      at_once = λ dc e. (refl, none);
    }) o

-- ## The clock of a step

ticked_is : (c t n : ℕ) → ticked c t ≡ Some n → (c < n) × (t < n) × (n < 2 ^ 48)
ticked_is c t n e = go (nat_lt (max c t + 1) (2 ^ 48)) refl e
  where
    go : (b : Bool) → nat_lt (max c t + 1) (2 ^ 48) ≡ b → cond b (Some (max c t + 1)) None ≡ Some n → (c < n) × (t < n) × (n < 2 ^ 48)
    go true f q =
        let is : max c t + 1 ≡ n = cc in
        let lt : max c t + 1 < 2 ^ 48 = grind (arith, nat_tests) in
        (omega arith, omega arith, subst (λ z. z < 2 ^ 48) is lt)
    go false f q = absurd (cc)

-- a step at this clock is that of the event
ticks_at : (me : ℕ) (a : ActorState) (x : ActorEvent) (s : ActorStep) (time n : ℕ) → ticked (clock_of a) time ≡ Some n → clock_of s.state ≡ n
    → AreOwn me n s.sends
    → ((e : Envelope) → x ≡ Handle e → e.time ≡ time) → Ticks me a x s
ticks_at me a x s time n q is own of =
    let k = ticked_is (clock_of a) time n q in
    record {
      rises = subst (λ z. clock_of a < z) (sym is) k.0;
      bounded = subst (λ z. z < 2 ^ 48) (sym is) k.2;
      sends = λ e has. subst (λ z. AreOwn me z s.sends) (sym is) own e has;
      handled = λ e f. subst (λ z. e.time < z) (sym is) (subst (λ z. z < n) (sym (of e f)) k.1);
    }

shard_clocked : (me : ℕ) (a : ShardState) (x : ActorEvent) (s : ActorStep) (time : ℕ) (f : ℕ → ShardStep) → ((n : ℕ) → IsOwn me n (f n))
    → ((e : Envelope) → x ≡ Handle e → e.time ≡ time) → of_shard (on_clock (ticked a.clock time) f) ≡ Some s → Ticks me (OfShard a) x s
shard_clocked me a x s time f own of e = go (ticked a.clock time) refl e
  where
    go : (o : Option ℕ) → ticked a.clock time ≡ o → of_shard (on_clock o f) ≡ Some s → Ticks me (OfShard a) x s
    go None q h = absurd (cc)
    go (Some n) q h =
        let is : record { state = OfShard (f n).state; sends = (f n).sends; finishes = None } ≡ s = cc in
        subst (λ z. Ticks me (OfShard a) x z) is
        (ticks_at me (OfShard a) x (record { state = OfShard (f n).state; sends = (f n).sends; finishes = None }) time n q (own n).0 (own n).1 of)

session_clocked : (me : ℕ) (a : SessionState) (x : ActorEvent) (s : ActorStep) (time : ℕ) (f : ℕ → SessionStep) → ((n : ℕ) → IsOwnHere me n (f n))
    → ((e : Envelope) → x ≡ Handle e → e.time ≡ time) → of_session (on_clock (ticked a.clock time) f) ≡ Some s → Ticks me (OfSession a) x s
session_clocked me a x s time f own of e = go (ticked a.clock time) refl e
  where
    go : (o : Option ℕ) → ticked a.clock time ≡ o → of_session (on_clock o f) ≡ Some s → Ticks me (OfSession a) x s
    go None q h = absurd (cc)
    go (Some n) q h =
        let is : record { state = OfSession (session_taken (f n).state); sends = (f n).sends; finishes = (f n).state.untaken } ≡ s = cc in
        subst (λ z. Ticks me (OfSession a) x z) is
        (ticks_at me (OfSession a) x (record { state = OfSession (session_taken (f n).state); sends = (f n).sends; finishes = (f n).state.untaken }) time n q (own n).0 (own n).1 of)

same_time : (e f : Envelope) → Handle e ≡ Handle f → f.time ≡ e.time
same_time e f q = let is : e ≡ f = cc in sym (ap (λ (z : Envelope). z.time) is)

pub step_ticks : (top : TopologyValue) (me : ℕ) (a : ActorState) (x : ActorEvent) (s : ActorStep) → actor_step top me a x ≡ Some s → Ticks me a x s
step_ticks top me (OfShard a) (SubmitHere o) s e = absurd (cc)
step_ticks top me (OfShard a) (Handle f) s e =
    shard_clocked me a (Handle f) s f.time (λ n. handled top me n a f.from f.body) (λ n. handled_own top me n a f.from f.body) (same_time f) e
step_ticks top me (OfShard a) (CollectHere time) s e =
    shard_clocked me a (CollectHere time) s a.clock (λ n. collected n a time) (λ n. (refl, none)) (λ g q. absurd (cc)) e
step_ticks top me (OfSession a) (SubmitHere o) s e = go (submit_fault top a o) e
  where
    go : (f : Option Fault) → of_session (submitted_if f top me a o) ≡ Some s → Ticks me (OfSession a) (SubmitHere o) s
    go (Some fault) h = absurd (cc)
    go None h = session_clocked me a (SubmitHere o) s a.clock (λ n. begun top me n a o) (λ n. begun_own top me n a o) (λ g q. absurd (cc)) h
step_ticks top me (OfSession a) (Handle f) s e =
    session_clocked me a (Handle f) s f.time (λ n. heard top me n a f.from f.body) (λ n. heard_own top me n a f.from f.body) (same_time f) e
step_ticks top me (OfSession a) (CollectHere time) s e = absurd (cc)

pub steps_keep_time : (top : TopologyValue) (node : ℕ) → KeepsTime top node
steps_keep_time top node = step_ticks top node
