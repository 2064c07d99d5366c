-- The clock of an actor is told by its journal alone.
use Rattle.std.proofs.Common.{append-nil, ◌≡◌, ◌∙◌, ℕ, zero, suc, ◌+◌, ◌<◌, ◌≤◌, ◌^◌, max, Bool, true, false, cond, List, [], ◌∷◌, ◌++◌, length, take, Option, Some, None, refl, sym, ap, arith, le_refl}
use Rattle.std.specs.Prelude.{nat_lt}
use Rattle.std.proofs.lemmas.Bool.Decides.{nat_tests}
use Rattle.logical_time.specs.declared.fault.Fault.{Fault}
use Rattle.messages.specs.declared.event.ActorEvent.{ActorEvent}
use Rattle.messages.specs.declared.event.ActorEvent.TheVariants.{Submit as SubmitHere, Handle, Collect as CollectHere}
use Rattle.messages.specs.Topology.{TopologyValue, is_shard}
use Rattle.messages.specs.Clock.{ticked, on_clock}
use Rattle.messages.specs.Shard.{ShardState, ShardStep}
use Rattle.messages.specs.Session.{SessionState, SessionStep}
use Rattle.messages.specs.ShardEvents.{handled, collected}
use Rattle.messages.specs.SessionEvents.{heard, session_taken}
use Rattle.messages.specs.Submitting.{begun, submit_fault, submit_if as submitted_if}
use Rattle.messages.specs.Actors.{ActorState, OfShard, OfSession, clock_of, opening_actor, ActorStep, of_shard, of_session, actor_step, Replayed, replay, replay_of}
use Rattle.world.proofs.steps.OwnSends.{handled_own}
use Rattle.world.proofs.steps.Ticks.{begun_own, heard_own}
use Rattle.world.proofs.replays.Replays.{unfolds}
use Rattle.actors.specs.Shown.{clock_with, clock_from, clock_after}

-- ## Steps

ticked_to : (c t n : ℕ) → ticked c t ≡ Some n → n ≡ max c t + 1
ticked_to c t n e = go (nat_lt (max c t + 1) (2 ^ 48)) e
  where
    go : (b : Bool) → cond b (Some (max c t + 1)) None ≡ Some n → n ≡ max c t + 1
    go true q = let is : max c t + 1 ≡ n = cc in sym is
    go false q = absurd (cc)

shard_clock : (a : ShardState) (time : ℕ) (f : ℕ → ShardStep) (s : ActorStep) → ((n : ℕ) → (f n).state.clock ≡ n)
    → of_shard (on_clock (ticked a.clock time) f) ≡ Some s → clock_of s.state ≡ max a.clock time + 1
shard_clock a time f s at e = go (ticked a.clock time) refl e
  where
    go : (o : Option ℕ) → ticked a.clock time ≡ o → of_shard (on_clock o f) ≡ Some s → clock_of s.state ≡ max a.clock time + 1
    go None q h = absurd (cc)
    go (Some n) q h =
        let is : record { state = OfShard (f n).state; sends = (f n).sends; finishes = None } ≡ s = cc in
        ap (λ (z : ActorStep). clock_of z.state) (sym is) ∙ at n ∙ ticked_to a.clock time n q

session_clock : (a : SessionState) (time : ℕ) (f : ℕ → SessionStep) (s : ActorStep) → ((n : ℕ) → (f n).state.clock ≡ n)
    → of_session (on_clock (ticked a.clock time) f) ≡ Some s → clock_of s.state ≡ max a.clock time + 1
session_clock a time f s at e = go (ticked a.clock time) refl e
  where
    go : (o : Option ℕ) → ticked a.clock time ≡ o → of_session (on_clock o f) ≡ Some s → clock_of s.state ≡ max a.clock time + 1
    go None q h = absurd (cc)
    go (Some n) q h =
        let is : record { state = OfSession (session_taken (f n).state); sends = (f n).sends; finishes = (f n).state.untaken } ≡ s = cc in
        ap (λ (z : ActorStep). clock_of z.state) (sym is) ∙ at n ∙ ticked_to a.clock time n q

same_max : (c : ℕ) → max c c + 1 ≡ c + 1
same_max c = omega arith

pub step_clock : (top : TopologyValue) (me : ℕ) (a : ActorState) (x : ActorEvent) (s : ActorStep) → actor_step top me a x ≡ Some s
    → clock_of s.state ≡ clock_with (clock_of a) x
step_clock top me (OfShard a) (SubmitHere o) s e = absurd (cc)
step_clock top me (OfShard a) (Handle f) s e =
    shard_clock a f.time (λ n. handled top me n a f.from f.body) s (λ n. (handled_own top me n a f.from f.body).0) e
step_clock top me (OfShard a) (CollectHere time) s e = shard_clock a a.clock (λ n. collected n a time) s (λ n. refl) e ∙ same_max a.clock
step_clock top me (OfSession a) (SubmitHere o) s e = go (submit_fault top a o) e
  where
    go : (f : Option Fault) → of_session (submitted_if f top me a o) ≡ Some s → clock_of s.state ≡ a.clock + 1
    go (Some fault) h = absurd (cc)
    go None h = session_clock a a.clock (λ n. begun top me n a o) s (λ n. (begun_own top me n a o).0) h ∙ same_max a.clock
step_clock top me (OfSession a) (Handle f) s e =
    session_clock a f.time (λ n. heard top me n a f.from f.body) s (λ n. (heard_own top me n a f.from f.body).0) e
step_clock top me (OfSession a) (CollectHere time) s e = absurd (cc)

-- ## Journals

pub replay_clock : (top : TopologyValue) (me : ℕ) (a : ActorState) (xs : List ActorEvent) (r : Replayed) → replay top me a xs ≡ Some r
    → clock_of r.state ≡ clock_from (clock_of a) xs
replay_clock top me a [] r e =
    let is : record { state = a; sent = []; finished = [] } ≡ r = cc in
    ap (λ (z : Replayed). clock_of z.state) (sym is)
replay_clock top me a (x ∷ xs) r e =
    let u = unfolds top me a x xs r e in
    ap (λ (z : Replayed). clock_of z.state) (sym u.whole) ∙ replay_clock top me u.step.state xs u.rest u.replays
    ∙ ap (λ c. clock_from c xs) (step_clock top me a x u.step u.takes)

opening_clock : (top : TopologyValue) (node : ℕ) → clock_of (opening_actor top node) ≡ 0
opening_clock top node = by (is_shard top node) refl
  where
    by : (b : Bool) → is_shard top node ≡ b → clock_of (opening_actor top node) ≡ 0
    by true q = grind (arith)
    by false q = grind (arith)

-- the clock to which a journal's replay leads
pub clock_told : (top : TopologyValue) (node : ℕ) (journal : List ActorEvent) (r : Replayed) → replay_of top node journal ≡ Some r
    → clock_of r.state ≡ clock_from 0 journal
clock_told top node journal r e =
    replay_clock top node (opening_actor top node) journal r e ∙ ap (λ c. clock_from c journal) (opening_clock top node)

pub clock_with_rises : (c : ℕ) (x : ActorEvent) → c < clock_with c x
clock_with_rises c (SubmitHere o) = omega arith
clock_with_rises c (Handle e) = omega arith
clock_with_rises c (CollectHere time) = omega arith

pub clock_from_push : (c : ℕ) (xs : List ActorEvent) (x : ActorEvent) → clock_from c (xs ++ x ∷ []) ≡ clock_with (clock_from c xs) x
clock_from_push c [] x = refl
clock_from_push c (y ∷ xs) x = clock_from_push (clock_with c y) xs x

clock_never_falls : (c : ℕ) (xs : List ActorEvent) → c ≤ clock_from c xs
clock_never_falls c [] = le_refl c
clock_never_falls c (x ∷ xs) =
    let up = clock_with_rises c x in
    let on = clock_never_falls (clock_with c x) xs in
    omega arith

-- what comes after a beginning comes not before its next event
pub clock_past : (c : ℕ) (done : List ActorEvent) (x : ActorEvent) (more : List ActorEvent) (k : ℕ) → length done ≤ k
    → clock_with (clock_from c done) x ≤ clock_from c (take (suc k) (done ++ x ∷ more))
clock_past c [] x more k le = clock_never_falls (clock_with c x) (take k more)
clock_past c (y ∷ done) x more zero le = absurd (omega arith)
clock_past c (y ∷ done) x more (suc k) le = clock_past (clock_with c y) done x more k (omega arith)

-- The next event is above this clock.
abbrev pub IsAbove : ℕ → ℕ → List ActorEvent → Type 0
IsAbove limit clock [] = Unit {0}
IsAbove limit clock (x ∷ xs) = limit < clock_with clock x

pub starts_above : (clock : ℕ) (xs : List ActorEvent) → IsAbove clock clock xs
starts_above clock [] = tt
starts_above clock (x ∷ xs) = clock_with_rises clock x

pub above_less : (limit less clock : ℕ) (xs : List ActorEvent) → less ≤ limit → IsAbove limit clock xs → IsAbove less clock xs
above_less limit less clock [] le up = tt
above_less limit less clock (x ∷ xs) le up = omega arith

-- what is up to the limit is among what was done
pub done_up_to : (limit : ℕ) (done left : List ActorEvent) (k : ℕ) → IsAbove limit (clock_from 0 done) left → k < length (done ++ left)
    → clock_after (done ++ left) (suc k) ≤ limit → k < length done
done_up_to limit done left k up within le = by left (nat_lt k (length done)) refl up within le
  where
    by : (l : List ActorEvent) (b : Bool) → nat_lt k (length done) ≡ b → IsAbove limit (clock_from 0 done) l → k < length (done ++ l)
        → clock_after (done ++ l) (suc k) ≤ limit → k < length done
    by l true q up within le = grind (arith, nat_tests)
    by [] false q up within le =
        let past : length done ≤ k = grind (arith, nat_tests) in
        let same : length (done ++ []) ≡ length done = ap length (append-nil done) in
        absurd (omega arith)
    by (x ∷ more) false q up within le =
        let past : length done ≤ k = grind (arith, nat_tests) in
        let on = clock_past 0 done x more k past in
        absurd (omega arith)
