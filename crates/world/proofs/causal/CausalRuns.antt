-- Every run keeps causal order.
use Rattle.std.proofs.Common.{Ok, List, [], ◌∷◌, ◌++◌, ◌≡◌, ℕ, ◌<◌, Bool, true, false, Option, Some, None, refl, subst, le_of_lt, slice_get}
use Rattle.std.specs.Prelude.{Contains}
use Rattle.logical_time.specs.declared.fault.Fault.{Fault}
use Rattle.messages.specs.declared.op.Op.{Op}
use Rattle.messages.specs.declared.envelope.Envelope.{Envelope}
use Rattle.messages.specs.Topology.{TopologyValue, is_shard, is_session}
use Rattle.messages.specs.Clock.{ticked, on_clock}
use Rattle.messages.specs.Submitting.{write_begun, read_begun, begun, plan_fault, submit_fault, submit_if as session_submit_if}
use Rattle.messages.specs.SessionEvents.{heard, session_handle}
use Rattle.messages.specs.ShardEvents.{handled, shard_handle, collected}
use Rattle.world.specs.Run.{Run, RunEvent, Submit, Deliver, Collect, after_shard, after_session, after_submission, submit_if, deliver_if, deliver_for, collect_if, step}
use Rattle.world.proofs.lists.Members.{none_in_empty, contains_get}
use Rattle.world.proofs.safety.Invariant.{Inv}
use Rattle.world.proofs.keeping.HandlesKept.{handle_able, collect_able}
use Rattle.world.proofs.keeping.SessionsKept.{heard_able}
use Rattle.world.proofs.keeping.Events.{accepted}
use Rattle.world.proofs.keeping.Submissions.{move_open_grows, move_open_kept, at_once_able, begun_grows}
use Rattle.world.proofs.steps.BegunCases.{move_opened, moved_at_once, begun_cases, opened_run, move_open, ends_at_once}
use Rattle.world.proofs.growing.Growth.{Grows}
use Rattle.messages.specs.Session.{SessionStep, Moving, moved, is_idle}
use Rattle.messages.specs.declared.op.Op.TheVariants as op
use Rattle.world.specs.Run.{opening, continued, run}
use Rattle.shard.proofs.steps.Handles.{ticked_above}
use Rattle.world.proofs.safety.Runs.{opening_holds, step_kept}
use Rattle.world.proofs.causal.Causal.{Causal}
use Rattle.world.proofs.causal.CausalKept.{shard_causal, session_causal, submission_causal}
use Rattle.world.proofs.shards.RightAnswers.{hears}

module _ (top : TopologyValue) (w : Run) (some : 0 < top.shards) (inv : Inv top w) (k : Causal top w) where
  shard_hears : (e : Envelope) (x : RunEvent) → Contains w.sent e → Causal top (after_shard (shard_handle top e.to (w.shards e.to) e) w x e.to)
  shard_hears e x m = go (ticked (w.shards e.to).clock e.time) refl
    where
      go : (o : Option ℕ) → ticked (w.shards e.to).clock e.time ≡ o → Causal top (after_shard (on_clock o (λ n. handled top e.to n (w.shards e.to) e.from e.body)) w x e.to)
      go None q = k
      go (Some n) q =
          let above = ticked_above (w.shards e.to).clock e.time n q in
          shard_causal top w e.to (handled top e.to n (w.shards e.to) e.from e.body) x (handle_able top w e.to n e.from e.time e.body some inv above.0 above.1 (inv.sent e m)).grows k

  session_hears : (e : Envelope) (x : RunEvent) → Contains w.sent e → Causal top (after_session (session_handle top e.to (w.sessions e.to) e) w x e.to)
  session_hears e x m = go (ticked (w.sessions e.to).clock e.time) refl
    where
      go : (o : Option ℕ) → ticked (w.sessions e.to).clock e.time ≡ o → Causal top (after_session (on_clock o (λ n. heard top e.to n (w.sessions e.to) e.from e.body)) w x e.to)
      go None q = k
      go (Some n) q =
          let above = ticked_above (w.sessions e.to).clock e.time n q in
          session_causal top w e.to (heard top e.to n (w.sessions e.to) e.from e.body) x inv (heard_able top w e.to n some inv (le_of_lt above.0) e.from e.time e.body (le_of_lt above.1) (hears top w inv e m)) k

  deliver_go : (shard session : Bool) (e : Envelope) (x : RunEvent) → Contains w.sent e → Causal top (deliver_if shard session top w x e)
  deliver_go true session e x m = shard_hears e x m
  deliver_go false true e x m = session_hears e x m
  deliver_go false false e x m = k

  message_go : (o : Option Envelope) (x : RunEvent) → ((e : Envelope) → o ≡ Some e → Contains w.sent e) → Causal top (deliver_for o top w x)
  message_go None x m = k
  message_go (Some e) x m = deliver_go (is_shard top e.to) (is_session top e.to) e x (m e refl)

  collect_go : (b : Bool) (node time : ℕ) → Causal top (collect_if b w node time)
  collect_go false node time = k
  collect_go true node time = go (ticked (w.shards node).clock (w.shards node).clock) refl
    where
      go : (o : Option ℕ) → ticked (w.shards node).clock (w.shards node).clock ≡ o → Causal top (after_shard (on_clock o (λ n. collected n (w.shards node) time)) w (Collect node time) node)
      go None q = k
      go (Some n) q =
          let above = ticked_above (w.shards node).clock (w.shards node).clock n q in
          shard_causal top w node (collected n (w.shards node) time) (Collect node time) (collect_able top w node n time inv above.0).grows k

  -- a submission that leaves its operation open
  opened_causal : (node n : ℕ) (o : Op) (st : SessionStep) → (w.sessions node).clock < n → Grows top w (opened_run (w.events ++ Submit node o ∷ []) w node n o st.state.current st.sends)
      → Causal top (opened_run (w.events ++ Submit node o ∷ []) w node n o st.state.current st.sends)
  opened_causal node n o st lt g = submission_causal top w (w.events ++ Submit node o ∷ []) node n o inv lt st.state.current st.sends k g

  -- a move that ends at once is opened with nothing left, and then ends
  at_once_causal : (node n dc : ℕ) → (w.sessions node).clock < n → (w.sessions node).dependencies ≡ [] → plan_fault top (w.sessions node).home (op.Move dc) ≡ None
      → Causal top (after_submission (Ok (moved_at_once n (w.sessions node) dc)) w node (op.Move dc))
  at_once_causal node n dc lt none plan =
      let x = move_open w node n dc in
      let open_inv = move_open_kept top w node n dc inv lt plan none in
      let open_causal = submission_causal top w w.events node n (op.Move dc) inv lt (Moving dc [] 0) [] k (move_open_grows top w node n dc inv lt plan none) in
      subst (Causal top) (ends_at_once w node n dc)
      (session_causal top x node (moved n (x.sessions node) dc 0) (Submit node (op.Move dc)) open_inv (at_once_able top w node n dc inv lt plan none) open_causal)

  begun_causal : (node n : ℕ) (o : Op) → (w.sessions node).clock < n → plan_fault top (w.sessions node).home o ≡ None
      → Causal top (after_submission (Ok (begun top node n (w.sessions node) o)) w node o)
  begun_causal node n o lt plan =
      let a = w.sessions node in
      begun_cases top node n a
      (λ o st. plan_fault top a.home o ≡ None → Grows top w (after_submission (Ok st) w node o) → Causal top (after_submission (Ok st) w node o))
      (record {
        writes = λ batch plan g. opened_causal node n (op.Batch batch) (write_begun top node n a batch) lt g;
        reads = λ read plan g. opened_causal node n (op.Read read) (read_begun top node n a read) lt g;
        moves = λ dc d ds e plan g. opened_causal node n (op.Move dc) (move_opened top node n a dc) lt g;
        at_once = λ dc none plan g. at_once_causal node n dc lt none plan;
      }) o plan (begun_grows top w node n o inv lt)

  submit_go : (b : Bool) (node : ℕ) (o : Op) → Causal top (submit_if b top w node o)
  submit_go false node o = k
  submit_go true node o = by (submit_fault top (w.sessions node) o) refl
    where
      go : plan_fault top (w.sessions node).home o ≡ None → (c : Option ℕ) → ticked (w.sessions node).clock (w.sessions node).clock ≡ c
          → Causal top (after_submission (on_clock c (λ n. begun top node n (w.sessions node) o)) w node o)
      go plan None q = k
      go plan (Some n) q = begun_causal node n o (ticked_above (w.sessions node).clock (w.sessions node).clock n q).0 plan

      by : (f : Option Fault) → submit_fault top (w.sessions node) o ≡ f → Causal top (after_submission (session_submit_if f top node (w.sessions node) o) w node o)
      by (Some e) q = k
      by None q =
          go (accepted (plan_fault top (w.sessions node).home o) (is_idle (w.sessions node).current) q) (ticked (w.sessions node).clock (w.sessions node).clock) refl

  pub step_causal : (x : RunEvent) → Causal top (step top w x)
  step_causal (Submit node o) = submit_go (is_session top node) node o
  step_causal (Deliver i) = message_go (slice_get w.sent i) (Deliver i) (contains_get w.sent i)
  step_causal (Collect node time) = collect_go (is_shard top node) node time

opening_causal : (top : TopologyValue) → Causal top (opening top)
opening_causal top =
    record {
      fits = λ c m. absurd (none_in_empty c m);
      ended = λ c m. absurd (none_in_empty c m);
      floor = λ c m h. absurd (none_in_empty c m);
      ordered = λ c d m. absurd (none_in_empty c m);
      number = λ c m. absurd (none_in_empty c m);
      closed = λ c m. absurd (none_in_empty c m);
      early = λ c m. absurd (none_in_empty c m);
      begun = λ b c m. absurd (none_in_empty b m);
      once = tt;
      named = tt;
      one = λ c d m. absurd (none_in_empty c m);
    }

run_causal : (top : TopologyValue) (w : Run) (events : List RunEvent) → 0 < top.shards → Inv top w → Causal top w → Causal top (continued top w events)
run_causal top w [] some inv k = k
run_causal top w (x ∷ xs) some inv k = run_causal top (step top w x) xs some (step_kept top w x some inv) (step_causal top w some inv k x)

pub every_causal : (top : TopologyValue) (events : List RunEvent) → 0 < top.shards → Causal top (run top events)
every_causal top events some = run_causal top (opening top) events some (opening_holds top) (opening_causal top)
