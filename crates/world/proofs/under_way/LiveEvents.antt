-- Every event keeps what is under way, and so does every run.
use Rattle.std.proofs.Common.{◌≡◌, ℕ, Bool, true, false, List, [], ◌∷◌, slice_get, Option, Some, None, Ok, refl, sym, ap, ◌∙◌, subst, le_of_lt}
use Rattle.std.specs.Prelude.{Contains}
use Rattle.std.proofs.lemmas.Bool.{false≢true}
use Rattle.logical_time.specs.declared.fault.Fault.{Fault}
use Rattle.messages.specs.declared.op.Op.{Op}
use Rattle.messages.specs.declared.body.Body.{Body}
use Rattle.messages.specs.declared.body.Body.TheVariants.{Done, PartNow, PartAt}
use Rattle.messages.specs.declared.envelope.Envelope.{Envelope}
use Rattle.messages.specs.Topology.{TopologyValue, is_topology, is_shard, is_session}
use Rattle.messages.specs.Clock.{ticked, on_clock}
use Rattle.messages.specs.Shard.{ShardState, KeptBallot}
use Rattle.messages.specs.Session.{is_idle}
use Rattle.messages.specs.Submitting.{begun, busy_or, plan_fault, submit_fault, submit_if as session_submit_if}
use Rattle.messages.specs.SessionEvents.{heard, session_handle}
use Rattle.messages.specs.ShardEvents.{handled, shard_handle, collected}
use Rattle.world.specs.Run.{Run, Submission, RunEvent, Submit, Deliver, Collect, opening, after_shard, after_session, after_submission, submit_if, deliver_if, deliver_for, collect_if, step, continued, run}
use Rattle.world.proofs.lists.Members.{none_in_empty, contains_get}
use Rattle.world.proofs.safety.Invariant.{Says, Inv}
use Rattle.world.proofs.keeping.HandlesKept.{handle_kept}
use Rattle.shard.proofs.steps.Handles.{ticked_above}
use Rattle.shard.proofs.steps.Within.{handled_within, collected_within}
use Rattle.world.proofs.safety.Runs.{opening_holds, step_kept}
use Rattle.world.proofs.envelopes.About.{OfRead, kind_of}
use Rattle.world.proofs.under_way.Underway.{FirstHas, SecondHas, SaysLive, Acted, Live}
use Rattle.world.proofs.under_way.LiveGrow.{acted_on}
use Rattle.world.proofs.under_way.HandledWaits.{handled_wait, collected_wait}
use Rattle.world.proofs.under_way.LiveHandled.{is_for_session, handled_left, collected_left}
use Rattle.world.proofs.under_way.LiveHeard.{is_for_shard, heard_left}
use Rattle.world.proofs.envelopes.Stations.{Stations, step_stations, opening_stations}
use Rattle.world.proofs.envelopes.Addresses.{Stands, stands, shard_no_session, to_shard, done_session}
use Rattle.world.proofs.under_way.SteppedLive.{Delivers, shard_onward, shard_here, shard_step_live, session_comes, session_step_live}
use Rattle.world.proofs.under_way.SubmittedLive.{begun_live}
use Rattle.world.proofs.shards.RightAnswers.{hears}

-- a delivery is of the message of its number
delivers_it : (top : TopologyValue) (w x : Run) (j : ℕ) (e : Envelope) → slice_get w.sent j ≡ Some e → Acted top x e.from e.to (kind_of e.body)
    → Delivers top w x (Deliver j)
delivers_it top w x j e is a i q = let same : j ≡ i = cc in (e, subst (λ z. slice_get w.sent z ≡ Some e) same is, a)

module _ (top : TopologyValue) (ok : Stands top) (w : Run) (inv : Inv top w) (live : Live top w) (stations : Stations top w) where
  -- ## A message comes

  -- of what is for a session, nothing but an answer comes to a shard, which has no read open
  at_shard : (from to time : ℕ) (b : Body) → is_for_session (kind_of b) ≡ true → is_shard top to ≡ true → Says top w from to time b
      → SaysLive top w from to (kind_of b) → Acted top w from to (kind_of b)
  at_shard from to time (Done t commit stamp) e is s k =
      absurd (false≢true (sym (shard_no_session top to is) ∙ done_session top w ok.some inv live stations from to time t commit stamp s k))
  at_shard from to time (PartNow number rows) e is s k =
      record { number = k; round = λ q. subst (λ o. FirstHas top (w.sessions to) o from) (sym (stations.sessions to (shard_no_session top to is))) tt }
  at_shard from to time (PartAt number bound answer) e is s k =
      record { number = k.number; round = λ q. subst (λ o. SecondHas top (w.sessions to) o from) (sym (stations.sessions to (shard_no_session top to is))) tt }
  at_shard from to time _ e is s k = absurd (false≢true e)

  shard_hears : (j : ℕ) (e : Envelope) → slice_get w.sent j ≡ Some e → is_shard top e.to ≡ true
      → Live top (after_shard (shard_handle top e.to (w.shards e.to) e) w (Deliver j) e.to)
  shard_hears j e found is = go (ticked (w.shards e.to).clock e.time) refl
    where
      go : (o : Option ℕ) → ticked (w.shards e.to).clock e.time ≡ o
          → Live top (after_shard (on_clock o (λ n. handled top e.to n (w.shards e.to) e.from e.body)) w (Deliver j) e.to)
      go None q = live
      go (Some n) q =
          let m = contains_get w.sent j e found in
          let above = ticked_above (w.shards e.to).clock e.time n q in
          let st = handled top e.to n (w.shards e.to) e.from e.body in
          let ev = Deliver j in
          let x = after_shard (Ok st) w ev e.to in
          let on = handled_within top e.to n (w.shards e.to) e.from e.body in
          let ws = handled_wait top e.to n (w.shards e.to) e.from e.body in
          let g = shard_onward top w e.to e.from (kind_of e.body) st ev on ws in
          let later = handle_kept top w e n ev ok.some inv m q in
          let l = handled_left top w x n ok.some inv later g live e m no_session (shard_here top w e.to e.from (kind_of e.body) st ev on ws) in
          let acted = by (is_for_session (kind_of e.body)) refl x (λ f. l.1 f) (λ a. acted_on top e.from e.to g (kind_of e.body) a) m in
          shard_step_live top w e.to e.from (kind_of e.body) st ev on ws live (λ number time r. (subst (λ z. SaysLive top w e.from e.to z) r
          (live.sent e m)).0) l.0 stations.handled
          (delivers_it top w x j e found acted)
        where
          no_session : (b : Submission) → Contains w.submitted b → b.session ≡ e.to → ⊥
          no_session b m own = false≢true (sym (shard_no_session top e.to is) ∙ sym (ap (is_session top) own) ∙ stations.submitted b m)

          by : (b : Bool) → is_for_session (kind_of e.body) ≡ b → (x : Run)
              → (is_for_session (kind_of e.body) ≡ false → Acted top x e.from e.to (kind_of e.body))
              → (Acted top w e.from e.to (kind_of e.body) → Acted top x e.from e.to (kind_of e.body)) → Contains w.sent e
              → Acted top x e.from e.to (kind_of e.body)
          by false f x one other m = one f
          by true f x one other m = other (at_shard e.from e.to e.time e.body f is (inv.sent e m) (live.sent e m))

  session_hears : (j : ℕ) (e : Envelope) → slice_get w.sent j ≡ Some e → is_shard top e.to ≡ false
      → Live top (after_session (session_handle top e.to (w.sessions e.to) e) w (Deliver j) e.to)
  session_hears j e found is = go (ticked (w.sessions e.to).clock e.time) refl
    where
      no_ballot : (r : KeptBallot) → Contains (w.shards e.to).kept_ballots r → ⊥
      no_ballot r m = none_in_empty r (subst (λ (a : ShardState). Contains a.kept_ballots r) (stations.shards e.to is) m)

      no_shard : (b : Bool) → is_for_shard (kind_of e.body) ≡ b → is_for_shard (kind_of e.body) ≡ false
      no_shard false f = f
      no_shard true f =
          let m = contains_get w.sent j e found in
          absurd (false≢true (sym is ∙ to_shard top w ok.some inv live stations e.from e.to e.time e.body (inv.sent e m) (live.sent e m) f))

      go : (o : Option ℕ) → ticked (w.sessions e.to).clock e.time ≡ o
          → Live top (after_session (on_clock o (λ n. heard top e.to n (w.sessions e.to) e.from e.body)) w (Deliver j) e.to)
      go None q = live
      go (Some n) q =
          let m = contains_get w.sent j e found in
          let above = ticked_above (w.sessions e.to).clock e.time n q in
          let st = heard top e.to n (w.sessions e.to) e.from e.body in
          let ev = Deliver j in
          let x = after_session (Ok st) w ev e.to in
          let r = heard_left top w x e.to n ok.some inv (le_of_lt above.0) live no_ballot e.from e.time e.body (no_shard _ refl)
          (le_of_lt above.1) (hears top w inv e m) (live.sent e m) (session_comes top w e.to st ev) in
          session_step_live top w e.to st ev live r.0 stations.handled (delivers_it top w x j e found r.1)

  deliver_go : (shard session : Bool) (j : ℕ) (e : Envelope) → is_shard top e.to ≡ shard → slice_get w.sent j ≡ Some e
      → Live top (deliver_if shard session top w (Deliver j) e)
  deliver_go true session j e is found = shard_hears j e found is
  deliver_go false true j e is found = session_hears j e found is
  deliver_go false false j e is found = live

  message_go : (j : ℕ) (o : Option Envelope) → slice_get w.sent j ≡ o → Live top (deliver_for o top w (Deliver j))
  message_go j None q = live
  message_go j (Some e) q = deliver_go (is_shard top e.to) (is_session top e.to) j e refl q

  -- ## A collection

  collect_go : (b : Bool) (node time : ℕ) → Live top (collect_if b w node time)
  collect_go false node time = live
  collect_go true node time = go (ticked (w.shards node).clock (w.shards node).clock)
    where
      go : (o : Option ℕ) → Live top (after_shard (on_clock o (λ n. collected n (w.shards node) time)) w (Collect node time) node)
      go None = live
      go (Some n) =
          let st = collected n (w.shards node) time in
          let ev = Collect node time in
          let x = after_shard (Ok st) w ev node in
          let on = collected_within n (w.shards node) time in
          let ws = collected_wait node n 0 (OfRead 0) (w.shards node) time in
          let g = shard_onward top w node 0 (OfRead 0) st ev on ws in
          shard_step_live top w node 0 (OfRead 0) st ev on ws live (λ number bound r. absurd (cc))
          (collected_left top w x node n time g live) stations.handled (λ i e. absurd (cc))

  -- ## A submission

  accepted : (home : ℕ) (o : Op) (b : Bool) → busy_or b (plan_fault top home o) ≡ None → (b ≡ true) × (plan_fault top home o ≡ None)
  accepted home o true e = (refl, e)
  accepted home o false e = absurd (cc)

  submit_go : (b : Bool) (node : ℕ) (o : Op) → Live top (submit_if b top w node o)
  submit_go false node o = live
  submit_go true node o = by (submit_fault top (w.sessions node) o) refl
    where
      go : (is_idle (w.sessions node).current ≡ true) × (plan_fault top (w.sessions node).home o ≡ None) → (c : Option ℕ)
          → Live top (after_submission (on_clock c (λ n. begun top node n (w.sessions node) o)) w node o)
      go plan None = live
      go plan (Some n) = begun_live top w node n ok.some live plan.0 stations.handled o plan.1

      by : (f : Option Fault) → submit_fault top (w.sessions node) o ≡ f
          → Live top (after_submission (session_submit_if f top node (w.sessions node) o) w node o)
      by (Some e) q = live
      by None q = go (accepted (w.sessions node).home o (is_idle (w.sessions node).current) q) (ticked (w.sessions node).clock (w.sessions node).clock)

  -- ## Every event

  pub step_live : (x : RunEvent) → Live top (step top w x)
  step_live (Submit node o) = submit_go (is_session top node) node o
  step_live (Deliver k) = message_go k (slice_get w.sent k) refl
  step_live (Collect node time) = collect_go (is_shard top node) node time

-- ## Every run

pub opening_live : (top : TopologyValue) → Stands top → Live top (opening top)
opening_live top ok =
    record {
      shards = λ node.
          record {
            entries =
                record {
                  prepared = λ p m. absurd (none_in_empty p m);
                  ballots = λ u m. absurd (none_in_empty u m);
                  kept_parts = λ k m. absurd (none_in_empty k m);
                  kept_ballots = λ r m. absurd (none_in_empty r m);
                  early = λ v m. absurd (none_in_empty v m);
                  votes = λ v m. absurd (none_in_empty v m);
                  notices = λ v m. absurd (none_in_empty v m);
                  decided = λ d m. absurd (none_in_empty d m);
                  applied = λ v m. absurd (none_in_empty v m);
                  askers = λ k m. absurd (none_in_empty k m);
                  told = λ k d m. absurd (none_in_empty k m);
                };
            counted = λ u v m. absurd (none_in_empty u m);
            voted = λ u m. absurd (none_in_empty u m);
            ready = λ r m. absurd (none_in_empty r m);
          };
      sent = λ e m. absurd (none_in_empty e m);
      acted = λ k e m. absurd (none_in_empty k m);
      submitted = λ b batch m. absurd (none_in_empty b m);
      earlier = tt;
      dependencies = λ node k m. absurd (none_in_empty k m);
      homes = ok.home;
      current = λ node. tt;
      waiting = λ node y m. absurd (none_in_empty y m);
      rounds = λ node y m. absurd (none_in_empty y m);
      ends = λ b m. absurd (none_in_empty b m);
    }

continued_live : (top : TopologyValue) → Stands top → (events : List RunEvent) (w : Run) → Inv top w → Live top w → Stations top w
    → Live top (continued top w events)
continued_live top ok [] w inv live stations = live
continued_live top ok (x ∷ xs) w inv live stations =
    continued_live top ok xs (step top w x) (step_kept top w x ok.some inv) (step_live top ok w inv live stations x) (step_stations top w stations x)

pub run_live : (top : TopologyValue) (events : List RunEvent) → is_topology top.dcs top.shards top.homes ≡ true → Live top (run top events)
run_live top events e =
    let ok = stands top e in continued_live top ok events (opening top) (opening_holds top) (opening_live top ok) (opening_stations top)
