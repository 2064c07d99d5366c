-- A session counts the operations that it accepts, and nothing else changes its count.
use Rattle.std.proofs.Common.{◌≡◌, ◌∙◌, ℕ, ◌+◌, sym, ap, refl, arith, List, [], ◌∷◌, length, Option, Some, None, Result, Ok, Err}
use Rattle.std.specs.Prelude.{filter_map}
use Rattle.logical_time.specs.declared.fault.Fault.{Fault}
use Rattle.messages.specs.declared.op.Op.{Op}
use Rattle.messages.specs.declared.body.Body.{Body}
use Rattle.messages.specs.Topology.{TopologyValue}
use Rattle.messages.specs.Clock.{ticked, on_clock}
use Rattle.messages.specs.Shard.{ShardStep}
use Rattle.messages.specs.Session.{SessionState, SessionStep}
use Rattle.messages.specs.ShardEvents.{shard_handle, shard_collect}
use Rattle.messages.specs.Submitting.{begun, submit_fault, submit_if as submitted_if}
use Rattle.messages.specs.SessionEvents.{heard}
use Rattle.messages.specs.declared.event.ActorEvent.{ActorEvent}
use Rattle.messages.specs.declared.event.ActorEvent.TheVariants.{Submit as SubmitHere, Handle, Collect as CollectHere}
use Rattle.messages.specs.Actors.{ActorState, OfShard, OfSession, ActorStep, of_shard, of_session, actor_step}
use Rattle.world.specs.Threads.{op_in}
use Rattle.world.proofs.steps.Moves.{op_count, shard_took, session_took}
use Rattle.world.proofs.steps.HeardCases.{heard_kinds}
use Rattle.world.proofs.steps.BegunCases.{begun_cases}

-- ## A session

heard_count : (top : TopologyValue) (me n : ℕ) (a : SessionState) (from : ℕ) (b : Body) → (heard top me n a from b).state.count ≡ a.count
heard_count top me n a from b =
    heard_kinds top me n a from b (λ st. st.state.count ≡ a.count)
    (record { still = refl; goes_on = λ o sends busy open_still. refl; over = λ floor dependencies o busy. refl })

begun_count : (top : TopologyValue) (me n : ℕ) (a : SessionState) (o : Op) → (begun top me n a o).state.count ≡ a.count + 1
begun_count top me n a o =
    begun_cases top me n a (λ o st. st.state.count ≡ a.count + 1)
    (record { writes = λ batch. refl; reads = λ read. refl; moves = λ dc k ks e. refl; at_once = λ dc e. refl }) o

-- ## An actor

-- the operations of a journal
abbrev pub ops_of : List ActorEvent → List Op
ops_of journal = filter_map op_in journal

shard_count_kept : (r : Result ShardStep Fault) (s : ActorStep) → of_shard r ≡ Some s → op_count s.state ≡ 0
shard_count_kept (Err fault) s e = absurd (cc)
shard_count_kept (Ok st) s e =
    let is : shard_took st ≡ s = cc in ap (λ (z : ActorStep). op_count z.state) (sym is)

session_count : (o : Option ℕ) (f : ℕ → SessionStep) (k : ℕ) (s : ActorStep) → ((n : ℕ) → (f n).state.count ≡ k) → of_session (on_clock o f) ≡ Some s
    → op_count s.state ≡ k
session_count None f k s c e = absurd (cc)
session_count (Some n) f k s c e =
    let is : session_took (f n) ≡ s = cc in ap (λ (z : ActorStep). op_count z.state) (sym is) ∙ c n

pub step_count : (top : TopologyValue) (me : ℕ) (a : ActorState) (x : ActorEvent) (s : ActorStep) → actor_step top me a x ≡ Some s
    → op_count s.state ≡ op_count a + length (ops_of (x ∷ []))
step_count top me (OfShard a) (SubmitHere o) s e = absurd (cc)
step_count top me (OfShard a) (Handle f) s e = shard_count_kept (shard_handle top me a f) s e
step_count top me (OfShard a) (CollectHere time) s e = shard_count_kept (shard_collect a time) s e
step_count top me (OfSession a) (SubmitHere o) s e = go (submit_fault top a o) e
  where
    go : (f : Option Fault) → of_session (submitted_if f top me a o) ≡ Some s → op_count s.state ≡ a.count + 1
    go (Some fault) h = absurd (cc)
    go None h = session_count (ticked a.clock a.clock) (λ n. begun top me n a o) (a.count + 1) s (λ n. begun_count top me n a o) h
step_count top me (OfSession a) (Handle f) s e =
    let same = session_count (ticked a.clock f.time) (λ n. heard top me n a f.from f.body) a.count s (λ n. heard_count top me n a f.from f.body) e in
    omega arith
step_count top me (OfSession a) (CollectHere time) s e = absurd (cc)
