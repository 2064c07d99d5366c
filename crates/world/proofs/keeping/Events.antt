-- Each event keeps all, and the run grows by it.
use Rattle.std.proofs.Common.{◌≡◌, ℕ, ◌<◌, Bool, true, false, Option, Some, None, refl, le_of_lt, slice_get}
use Rattle.std.specs.Prelude.{Contains}
use Rattle.logical_time.specs.declared.fault.Fault.{Fault}
use Rattle.messages.specs.declared.op.Op.{Op}
use Rattle.messages.specs.declared.envelope.Envelope.{Envelope}
use Rattle.messages.specs.Topology.{TopologyValue, is_shard, is_session}
use Rattle.messages.specs.Clock.{ticked, on_clock}
use Rattle.messages.specs.Session.{is_idle}
use Rattle.messages.specs.Submitting.{begun, busy_or, plan_fault, submit_fault, submit_if as session_submit_if}
use Rattle.messages.specs.SessionEvents.{heard, session_handle}
use Rattle.messages.specs.ShardEvents.{handled, shard_handle, collected}
use Rattle.shard.proofs.steps.Handles.{ticked_above}
use Rattle.world.specs.Run.{Run, RunEvent, Submit, Deliver, Collect, after_shard, after_session, after_submission, submit_if, deliver_if, deliver_for, collect_if, step}
use Rattle.world.proofs.lists.Members.{contains_get}
use Rattle.world.proofs.growing.Growth.{Grows}
use Rattle.world.proofs.safety.Invariant.{Inv}
use Rattle.world.proofs.keeping.ShardSteps.{shard_run_grows}
use Rattle.world.proofs.keeping.HandlesKept.{handle_able, handle_kept, collect_able, collect_kept}
use Rattle.world.proofs.keeping.SessionSteps.{session_run_grows, session_step_kept}
use Rattle.world.proofs.safety.Ables.{same_run}
use Rattle.world.proofs.keeping.SessionsKept.{heard_able}
use Rattle.world.proofs.keeping.Submissions.{begun_kept, begun_grows}
use Rattle.world.proofs.steps.SessionSends.{heard_sends}
use Rattle.world.proofs.shards.RightAnswers.{hears}

-- all holds of the run after it, and the run grew
abbrev pub StaysSound : TopologyValue → Run → Run → Type 0
StaysSound top w x = Inv top x × Grows top w x

same_kept : (top : TopologyValue) (w : Run) → Inv top w → StaysSound top w w
same_kept top w inv = (inv, same_run top w)

-- what a session accepts isn't refused for what it asks
pub accepted : (fault : Option Fault) (b : Bool) → busy_or b fault ≡ None → fault ≡ None
accepted fault true e = e
accepted fault false e = absurd (cc)

module _ (top : TopologyValue) (w : Run) (some : 0 < top.shards) (inv : Inv top w) where
  -- ## A message comes

  shard_hears : (e : Envelope) (x : RunEvent) → Contains w.sent e → StaysSound top w (after_shard (shard_handle top e.to (w.shards e.to) e) w x e.to)
  shard_hears e x m = go (ticked (w.shards e.to).clock e.time) refl
    where
      go : (o : Option ℕ) → ticked (w.shards e.to).clock e.time ≡ o
          → StaysSound top w (after_shard (on_clock o (λ n. handled top e.to n (w.shards e.to) e.from e.body)) w x e.to)
      go None q = same_kept top w inv
      go (Some n) q =
          let above = ticked_above (w.shards e.to).clock e.time n q in
          let st = handled top e.to n (w.shards e.to) e.from e.body in (
            handle_kept top w e n x some inv m q,
            shard_run_grows top w e.to st x (handle_able top w e.to n e.from e.time e.body some inv above.0 above.1 (inv.sent e m)).grows,
          )

  session_hears : (e : Envelope) (x : RunEvent) → Contains w.sent e → StaysSound top w (after_session (session_handle top e.to (w.sessions e.to) e) w x e.to)
  session_hears e x m = go (ticked (w.sessions e.to).clock e.time) refl
    where
      go : (o : Option ℕ) → ticked (w.sessions e.to).clock e.time ≡ o
          → StaysSound top w (after_session (on_clock o (λ n. heard top e.to n (w.sessions e.to) e.from e.body)) w x e.to)
      go None q = same_kept top w inv
      go (Some n) q =
          let above = ticked_above (w.sessions e.to).clock e.time n q in
          let st = heard top e.to n (w.sessions e.to) e.from e.body in
          let able = heard_able top w e.to n some inv (le_of_lt above.0) e.from e.time e.body (le_of_lt above.1) (hears top w inv e m) in
          (session_step_kept top w e.to st x inv able (heard_sends top e.to n (w.sessions e.to) e.from e.body), session_run_grows top w e.to st x able.grows)

  deliver_go : (shard session : Bool) (e : Envelope) (x : RunEvent) → Contains w.sent e → StaysSound top w (deliver_if shard session top w x e)
  deliver_go true session e x m = shard_hears e x m
  deliver_go false true e x m = session_hears e x m
  deliver_go false false e x m = same_kept top w inv

  message_go : (o : Option Envelope) (x : RunEvent) → ((e : Envelope) → o ≡ Some e → Contains w.sent e) → StaysSound top w (deliver_for o top w x)
  message_go None x m = same_kept top w inv
  message_go (Some e) x m = deliver_go (is_shard top e.to) (is_session top e.to) e x (m e refl)

  -- ## A collection

  collect_go : (b : Bool) (node time : ℕ) → StaysSound top w (collect_if b w node time)
  collect_go false node time = same_kept top w inv
  collect_go true node time = go (ticked (w.shards node).clock (w.shards node).clock) refl
    where
      go : (o : Option ℕ) → ticked (w.shards node).clock (w.shards node).clock ≡ o
          → StaysSound top w (after_shard (on_clock o (λ n. collected n (w.shards node) time)) w (Collect node time) node)
      go None q = same_kept top w inv
      go (Some n) q =
          let above = ticked_above (w.shards node).clock (w.shards node).clock n q in
          let st = collected n (w.shards node) time in
          (collect_kept top w node n time (Collect node time) inv q, shard_run_grows top w node st (Collect node time) (collect_able top w node n time inv above.0).grows)

  -- ## A submission

  submit_go : (b : Bool) (node : ℕ) (o : Op) → StaysSound top w (submit_if b top w node o)
  submit_go false node o = same_kept top w inv
  submit_go true node o = by (submit_fault top (w.sessions node) o) refl
    where
      go : plan_fault top (w.sessions node).home o ≡ None → (c : Option ℕ) → ticked (w.sessions node).clock (w.sessions node).clock ≡ c
          → StaysSound top w (after_submission (on_clock c (λ n. begun top node n (w.sessions node) o)) w node o)
      go plan None q = same_kept top w inv
      go plan (Some n) q =
          let above = ticked_above (w.sessions node).clock (w.sessions node).clock n q in
          (begun_kept top w node n o some inv above.0 plan, begun_grows top w node n o inv above.0)

      by : (f : Option Fault) → submit_fault top (w.sessions node) o ≡ f
          → StaysSound top w (after_submission (session_submit_if f top node (w.sessions node) o) w node o)
      by (Some e) q = same_kept top w inv
      by None q = go (accepted (plan_fault top (w.sessions node).home o) (is_idle (w.sessions node).current) q) (ticked (w.sessions node).clock (w.sessions node).clock) refl

  -- ## Every event

  pub event_kept : (x : RunEvent) → StaysSound top w (step top w x)
  event_kept (Submit node o) = submit_go (is_session top node) node o
  event_kept (Deliver k) = message_go (slice_get w.sent k) (Deliver k) (contains_get w.sent k)
  event_kept (Collect node time) = collect_go (is_shard top node) node time
