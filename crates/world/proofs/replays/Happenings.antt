-- What an actor can do next is an event of the run.
use Rattle.std.proofs.Common.{◌≡◌, ℕ, ◌<◌, Bool, true, false, Some, Result, Ok, Err, refl, sym, subst, slice_get}
use Rattle.std.specs.Prelude.{if◌then◌else◌, Contains}
use Rattle.logical_time.specs.declared.fault.Fault.{Fault}
use Rattle.messages.specs.declared.op.Op.{Op}
use Rattle.messages.specs.declared.envelope.Envelope.{Envelope}
use Rattle.messages.specs.declared.event.ActorEvent.{ActorEvent}
use Rattle.messages.specs.declared.event.ActorEvent.TheVariants.{Submit as SubmitHere, Handle, Collect as CollectHere}
use Rattle.messages.specs.Topology.{TopologyValue, is_shard, is_session, node_count}
use Rattle.messages.specs.Shard.{ShardStep}
use Rattle.messages.specs.Session.{SessionStep}
use Rattle.messages.specs.ShardEvents.{shard_handle, shard_collect}
use Rattle.messages.specs.SessionEvents.{session_handle}
use Rattle.messages.specs.Submitting.{session_submit}
use Rattle.messages.specs.Actors.{OfShard, OfSession, ActorStep, of_shard, of_session, actor_step}
use Rattle.world.specs.Run.{Run, RunEvent, Submit, Deliver, Collect, after_shard, after_session, after_submission, submit_if, deliver_if, deliver_for, collect_if, step}
use Rattle.world.specs.Journals.{actor_in}
use Rattle.world.proofs.steps.Moves.{Moves, shard_took, session_took, counts_session, handle_moves, hear_moves, submit_moves, collect_moves}
use Rattle.world.proofs.lists.Members.{contains_at}

abbrev pub Happens : TopologyValue → Run → ℕ → ActorEvent → ActorStep → Type 0
Happens top w n x s = (ev : RunEvent) × Moves top w (step top w ev) ev n x s

module _ (top : TopologyValue) (w : Run) where
  handle_to : (k : ℕ) (e : Envelope) (s : ActorStep) → slice_get w.sent k ≡ Some e → e.to < node_count top
      → (b : Bool) → is_shard top e.to ≡ b → actor_step top e.to (if b then OfShard (w.shards e.to) else OfSession (w.sessions e.to)) (Handle e) ≡ Some s
      → Moves top w (deliver_if b (is_session top e.to) top w (Deliver k) e) (Deliver k) e.to (Handle e) s
  handle_to k e s sent lt true is takes = shard_at (shard_handle top e.to (w.shards e.to) e) refl takes
    where
      shard_at : (r : Result ShardStep Fault) → shard_handle top e.to (w.shards e.to) e ≡ r → of_shard r ≡ Some s
          → Moves top w (after_shard r w (Deliver k) e.to) (Deliver k) e.to (Handle e) s
      shard_at (Err fault) q h = absurd (cc)
      shard_at (Ok st) q h =
          let is' : shard_took st ≡ s = cc in
          subst (λ z. Moves top w (after_shard (Ok st) w (Deliver k) e.to) (Deliver k) e.to (Handle e) z) is' (handle_moves top w k e st sent is q)
  handle_to k e s sent lt false away takes =
      subst (λ t. Moves top w (deliver_if false t top w (Deliver k) e) (Deliver k) e.to (Handle e) s) (sym (counts_session top e.to lt away))
      (at (session_handle top e.to (w.sessions e.to) e) refl takes)
    where
      at : (r : Result SessionStep Fault) → session_handle top e.to (w.sessions e.to) e ≡ r → of_session r ≡ Some s
          → Moves top w (after_session r w (Deliver k) e.to) (Deliver k) e.to (Handle e) s
      at (Err fault) q h = absurd (cc)
      at (Ok st) q h =
          let is : session_took st ≡ s = cc in
          subst (λ z. Moves top w (after_session (Ok st) w (Deliver k) e.to) (Deliver k) e.to (Handle e) z) is
          (hear_moves top w k e st sent (counts_session top e.to lt away) q)

  pub handle_happens : (n : ℕ) (e : Envelope) (s : ActorStep) → e.to ≡ n → Contains w.sent e → n < node_count top
      → actor_step top n (actor_in top w n) (Handle e) ≡ Some s → Happens top w n (Handle e) s
  handle_happens n e s to m lt takes =
      let k = contains_at w.sent e m in (
        Deliver k.0,
        subst (λ o. Moves top w (deliver_for o top w (Deliver k.0)) (Deliver k.0) n (Handle e) s) (sym k.1)
            (subst (λ z. z < node_count top → actor_step top z (actor_in top w z) (Handle e) ≡ Some s
            → Moves top w (deliver_for (Some e) top w (Deliver k.0)) (Deliver k.0) z (Handle e) s) to
            (λ l t. handle_to k.0 e s k.1 l (is_shard top e.to) refl t) lt takes),
      )

  pub submit_happens : (n : ℕ) (o : Op) (s : ActorStep) → n < node_count top
      → actor_step top n (actor_in top w n) (SubmitHere o) ≡ Some s → Happens top w n (SubmitHere o) s
  submit_happens n o s lt takes = (Submit n o, by (is_shard top n) refl takes)
    where
      at : is_session top n ≡ true → (r : Result SessionStep Fault) → session_submit top n (w.sessions n) o ≡ r → of_session r ≡ Some s
          → Moves top w (after_submission r w n o) (Submit n o) n (SubmitHere o) s
      at is (Err fault) q h = absurd (cc)
      at is (Ok st) q h =
          let same : session_took st ≡ s = cc in
          subst (λ z. Moves top w (after_submission (Ok st) w n o) (Submit n o) n (SubmitHere o) z) same (submit_moves top w n o st is q)

      by : (b : Bool) → is_shard top n ≡ b → actor_step top n (if b then OfShard (w.shards n) else OfSession (w.sessions n)) (SubmitHere o) ≡ Some s
          → Moves top w (submit_if (is_session top n) top w n o) (Submit n o) n (SubmitHere o) s
      by true is h = absurd (cc)
      by false away h =
          let is = counts_session top n lt away in
          subst (λ t. Moves top w (submit_if t top w n o) (Submit n o) n (SubmitHere o) s) (sym is)
          (at is (session_submit top n (w.sessions n) o) refl h)

  pub collect_happens : (n time : ℕ) (s : ActorStep) → n < node_count top
      → actor_step top n (actor_in top w n) (CollectHere time) ≡ Some s → Happens top w n (CollectHere time) s
  collect_happens n time s lt takes = (Collect n time, by (is_shard top n) refl takes)
    where
      at : is_shard top n ≡ true → (r : Result ShardStep Fault) → shard_collect (w.shards n) time ≡ r → of_shard r ≡ Some s
          → Moves top w (after_shard r w (Collect n time) n) (Collect n time) n (CollectHere time) s
      at is (Err fault) q h = absurd (cc)
      at is (Ok st) q h =
          let same : shard_took st ≡ s = cc in
          subst (λ z. Moves top w (after_shard (Ok st) w (Collect n time) n) (Collect n time) n (CollectHere time) z) same (collect_moves top w n time st is q)

      by : (b : Bool) → is_shard top n ≡ b → actor_step top n (if b then OfShard (w.shards n) else OfSession (w.sessions n)) (CollectHere time) ≡ Some s
          → Moves top w (collect_if b w n time) (Collect n time) n (CollectHere time) s
      by true is h = at is (shard_collect (w.shards n) time) refl h
      by false away h = absurd (cc)
