-- A submission that a session accepts is taken by the run.
use Rattle.std.proofs.Common.{◌≡◌, ◌∙◌, ℕ, ◌+◌, ◌<◌, true, List, [], ◌∷◌, ◌++◌, length, slice_get, Option, Some, None, Ok, refl, sym, ap, subst}
use Rattle.std.specs.Prelude.{slice_set, if◌then◌else◌, option_and_then}
use Rattle.logical_time.specs.declared.fault.Fault.{Fault}
use Rattle.messages.specs.declared.op.Op.{Op}
use Rattle.messages.specs.declared.op.Op.TheVariants as op
use Rattle.messages.specs.declared.outcome.Outcome.TheVariants as outcome
use Rattle.messages.specs.Topology.{TopologyValue, is_session, shard_count}
use Rattle.messages.specs.Words.{is_same_txn}
use Rattle.messages.specs.Clock.{ticked, on_clock}
use Rattle.messages.specs.Session.{SessionState, SessionStep, Finished}
use Rattle.messages.specs.Submitting.{begun, submit_fault, submit_if as submitted_if, session_submit}
use Rattle.messages.specs.SessionEvents.{session_taken}
use Rattle.client.specs.Represents as session
use Rattle.world.specs.declared.actors.Actors.{Actors}
use Rattle.world.specs.declared.station.Station.{Station}
use Rattle.world.specs.Run.{Run, RunEvent, Submit, Submission, submission_of, submission_by, completed_of, after_submission, submit_if, step, run}
use Rattle.world.specs.Refusals.{NoSuchActor, refused_by, refusal_of}
use Rattle.world.specs.Holds.{IsOpOf, IsRunning, HasTaken, ended_as}
use Rattle.world.specs.World.{IsRefusedAs}
use Rattle.world.specs.Steps.{DidSession, DidSubmitOf}
use Rattle.world.proofs.lists.Members.{same_txn_self}
use Rattle.world.proofs.safety.Invariant.{Inv}
use Rattle.world.proofs.keeping.ShardSteps.{actor_same}
use Rattle.world.proofs.safety.Runs.{every_run}
use Rattle.world.proofs.envelopes.Addresses.{stands}
use Rattle.world.proofs.steps.Begun.{Begins, begins}
use Rattle.world.proofs.safety.Numbers.{found_still, found_last, number_is_new}
use Rattle.world.proofs.in_code.Running.{ended_alike, session_goes_on}
use Rattle.world.proofs.in_code.Taking.{session_at, at_node, refused_session}

-- ## The step

module _ (top : TopologyValue) (w : Run) (i node n : ℕ) (o : Op) (inv : Inv top w) where
  abbrev st : SessionStep
  st = begun top node n (w.sessions node) o

  abbrev sub : Submission
  sub = submission_by w node o (begun top node n (w.sessions node) o)

  abbrev v : Run
  v = after_submission (Ok (begun top node n (w.sessions node) o)) w node o

  k : Begins (w.sessions node) (begun top node n (w.sessions node) o)
  k = begins top node n (w.sessions node) o

  now_is : v.sessions node ≡ session_taken (begun top node n (w.sessions node) o).state
  now_is = actor_same w.sessions node (session_taken st.state)

  found : submission_of (w.submitted ++ sub ∷ []) (record { session = node; number = st.state.count }) ≡ Some sub
  found =
      found_last (λ (s : Submission). is_same_txn (record { session = s.session; number = s.number }) (record { session = node; number = st.state.count })) w.submitted sub
      (same_txn_self (record { session = node; number = st.state.count })) (number_is_new top w node n o inv)

  own_op : (w.sessions node).home ≡ st.state.home → IsOpOf v node (Some o)
  own_op at =
      record {
        submission = sub;
        found = ap (λ (z : SessionState). submission_of (w.submitted ++ sub ∷ []) (record { session = node; number = z.count })) now_is ∙ found;
        op = refl;
        home = at ∙ sym (ap (λ (z : SessionState). z.home) now_is);
      }

  -- what ended at once is this operation
  alike : (u : Option Finished) → st.state.untaken ≡ u
      → option_and_then (completed_of (w.submitted ++ sub ∷ []) node) u ≡ ended_as node (w.sessions node).home (Some o) u
  alike None e = refl
  alike (Some f) e =
      ended_alike (w.submitted ++ sub ∷ []) node (w.sessions node).home f sub (Some o)
      (ap (λ m. submission_of (w.submitted ++ sub ∷ []) (record { session = node; number = m })) (k.number f e ∙ sym k.count) ∙ found) refl refl

  pub after_submission_step : (a b : Actors) (s t : Station) → IsRunning top w a → node ≡ shard_count top + i
      → slice_get a.stations.items i ≡ Some s → i < length a.stations.items → b.stations.items ≡ slice_set a.stations.items i t
      → DidSession top (begun top node n (w.sessions node) o) (record s { op = Some o }) t a.network.sent b.network.sent a.transcript.items b.transcript.items
      → b.topology ≡ a.topology → b.shards.items ≡ a.shards.items → IsRunning top v b
  after_submission_step a b s t r is at lt set did topology shards =
      session_goes_on top w (Submit node o) (w.submitted ++ sub ∷ []) i node st a b s t (Some o) r is at lt set did topology shards
      (alike st.state.untaken refl) (λ busy. let q = k.busy busy in (q.0, own_op (sym q.1))) (λ p z e. found_still p w.submitted (sub ∷ []) z e)

-- ## For the code

pub submission_step : (top : TopologyValue) (w : Run) (node : ℕ) (o : Op) → is_session top node ≡ true
    → step top w (Submit node o) ≡ after_submission (session_submit top node (w.sessions node) o) w node o
submission_step top w node o is = ap (λ b. submit_if b top w node o) is

pub submission_refusal : (top : TopologyValue) (w : Run) (node : ℕ) (o : Op) → is_session top node ≡ true
    → refusal_of top w (Submit node o) ≡ refused_by (session_submit top node (w.sessions node) o)
submission_refusal top w node o is = ap (λ b. if b then refused_by (session_submit top node (w.sessions node) o) else Some NoSuchActor) is

station_submitted : (top : TopologyValue) (events : List RunEvent) (i node : ℕ) (o : Op) (a b : Actors) (s t : Station) (f : Option Fault) (c : Option ℕ) → IsRunning top (run top events) a
    → node ≡ shard_count top + i → slice_get a.stations.items i ≡ Some s → i < length a.stations.items → b.stations.items ≡ slice_set a.stations.items i t
    → submit_fault top ((run top events).sessions node) o ≡ f → ticked ((run top events).sessions node).clock ((run top events).sessions node).clock ≡ c
    → DidSubmitOf top (session_submit top node ((run top events).sessions node) o) o s t a.network.sent b.network.sent a.transcript.items b.transcript.items
    → b.topology ≡ a.topology → b.shards.items ≡ a.shards.items → HasTaken top events (Submit node o) b
station_submitted top events i node o a b s t (Some e) c is to at lt set fault clock did topology shards =
    absurd
    (subst (λ r. DidSubmitOf top r o s t a.network.sent b.network.sent a.transcript.items b.transcript.items) (ap (λ z. submitted_if z top node ((run top events).sessions node) o) fault) did)
station_submitted top events i node o a b s t None None is to at lt set fault clock did topology shards =
    absurd
    (subst (λ r. DidSubmitOf top r o s t a.network.sent b.network.sent a.transcript.items b.transcript.items)
    (ap (λ z. submitted_if z top node ((run top events).sessions node) o) fault ∙ ap (λ z. on_clock z (λ n. begun top node n ((run top events).sessions node) o)) clock) did)
station_submitted top events i node o a b s t None (Some n) is to at lt set fault clock did topology shards =
    let w = run top events in
    let some = (stands top is.sound).some in
    let kind = session_at top node i to (subst (λ z. i < z) is.stations.len lt) in
    let r : session_submit top node (w.sessions node) o ≡ Ok (begun top node n (w.sessions node) o) =
    ap (λ z. submitted_if z top node (w.sessions node) o) fault ∙ ap (λ z. on_clock z (λ n. begun top node n (w.sessions node) o)) clock in
    record {
      allowed = submission_refusal top w node o kind.1 ∙ ap refused_by r;
      running =
          subst (λ v. IsRunning top v b) (sym (submission_step top w node o kind.1 ∙ ap (λ z. after_submission z w node o) r))
          (after_submission_step top w i node n o (every_run top events some) a b s t is to at lt set
          (subst (λ r. DidSubmitOf top r o s t a.network.sent b.network.sent a.transcript.items b.transcript.items) r did) topology shards);
    }

pub station_submits : (top : TopologyValue) (events : List RunEvent) (i node : ℕ) (o kept : Op) (a b : Actors) (s t : Station) → IsRunning top (run top events) a
    → node ≡ length a.shards.items + i → slice_get a.stations.items i ≡ Some s → i < length a.stations.items → b.stations.items ≡ slice_set a.stations.items i t → kept ≡ o
    → ((top' : TopologyValue) (z : SessionState) → session.Represents s.session top' z
    → DidSubmitOf top' (session_submit top' s.session.node z o) kept s t a.network.sent b.network.sent a.transcript.items b.transcript.items)
    → b.topology ≡ a.topology → b.shards.items ≡ a.shards.items → HasTaken top events (Submit node o) b
station_submits top events i node o kept a b s t is to at lt set same did topology shards =
    let w = run top events in
    let n = at_node top events i a s node is at to in
    station_submitted top events i node o a b s t (submit_fault top (w.sessions node) o) (ticked (w.sessions node).clock (w.sessions node).clock) is n.0 at lt set refl refl
    (subst (λ z. DidSubmitOf top (session_submit top z (w.sessions node) o) o s t a.network.sent b.network.sent a.transcript.items b.transcript.items) n.1
    (subst (λ z. DidSubmitOf top (session_submit top s.session.node (w.sessions node) o) z s t a.network.sent b.network.sent a.transcript.items b.transcript.items) same (did top (w.sessions node) n.2)))
    topology shards

pub submit_refuses : (top : TopologyValue) (events : List RunEvent) (i node : ℕ) (o : Op) (a : Actors) (s : Station) (f : Fault) → IsRunning top (run top events) a
    → node ≡ length a.shards.items + i → slice_get a.stations.items i ≡ Some s → i < length a.stations.items
    → ((top' : TopologyValue) (z : SessionState) → session.Represents s.session top' z → session.IsRefusalOf (session_submit top' s.session.node z o) f)
    → IsRefusedAs (refusal_of top (run top events) (Submit node o)) f
submit_refuses top events i node o a s f is to at lt refused =
    let w = run top events in
    let n = at_node top events i a s node is at to in
    let kind = session_at top node i n.0 (subst (λ z. i < z) is.stations.len lt) in
    refused_session top events (refusal_of top w (Submit node o)) (session_submit top node (w.sessions node) o) f (submission_refusal top w node o kind.1)
    (subst (λ z. session.IsRefusalOf (session_submit top z (w.sessions node) o) f) n.1 (refused top (w.sessions node) n.2))

-- the number that the session gives is the next one of the run's session
pub submit_number : (top : TopologyValue) (events : List RunEvent) (i node : ℕ) (a : Actors) (s : Station) → IsRunning top (run top events) a
    → node ≡ length a.shards.items + i → slice_get a.stations.items i ≡ Some s → s.session.count ≡ ((run top events).sessions node).count
submit_number top events i node a s is to at =
    let n = at_node top events i a s node is at to in
    ap (λ (z : SessionState). z.count) (sym n.2.state)
