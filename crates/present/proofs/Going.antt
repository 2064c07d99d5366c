-- What is kept goes on to be the present of the run, with each event.
use Rattle.std.proofs.Common.{◌≡◌, ◌∙◌, ℕ, ◌+◌, ◌<◌, true, false, List, [], ◌∷◌, ◌++◌, length, slice_get, Option, Some, None, Result, Ok, Err, refl, sym, ap, subst, le_of_lt, append-nil}
use Rattle.std.specs.Prelude.{if◌then◌else◌, IsOk}
use Rattle.logical_time.specs.declared.fault.Fault.{Fault}
use Rattle.store.specs.Keeps.{AreApart}
use Rattle.messages.specs.declared.op.Op.{Op}
use Rattle.messages.specs.declared.outcome.Outcome.{Outcome}
use Rattle.messages.specs.declared.envelope.Envelope.{Envelope}
use Rattle.messages.specs.Topology.{TopologyValue, is_shard, is_session, shard_count}
use Rattle.messages.specs.Clock.{ticked, on_clock}
use Rattle.messages.specs.Shard.{ShardState, ShardStep}
use Rattle.messages.specs.Session.{SessionState, SessionStep, Finished}
use Rattle.messages.specs.ShardEvents.{shard_handle, shard_collect}
use Rattle.messages.specs.SessionEvents.{heard, session_handle, session_taken}
use Rattle.messages.specs.Submitting.{begun, submit_fault, submit_if as submitted_if, session_submit}
use Rattle.messages.specs.Actors.{of_session}
use Rattle.shard.specs.Kept as shard
use Rattle.shard.proofs.steps.Handles.{ticked_above}
use Rattle.client.specs.declared.kept.SessionKept.{SessionKept}
use Rattle.client.specs.Represents as session
use Rattle.world.specs.declared.run_event.RunEvent.{RunEvent}
use Rattle.world.specs.declared.run_event.RunEvent.TheVariants.{Submit, Deliver, Collect}
use Rattle.world.specs.Run.{Run, Submission, submission_by, with_actor, with_session, after_shard, after_session, after_submission, collect_if, step, run}
use Rattle.world.specs.Refusals.{NoSuchActor, Refused, refused_by, refusal_of}
use Rattle.world.specs.Holds.{AreShards}
use Rattle.world.specs.Steps.{StaysApart, DidShard}
use Rattle.world.specs.World.{IsRefusedAs}
use Rattle.world.proofs.lists.Members.{contains_get}
use Rattle.world.proofs.keeping.ShardSteps.{actor_same}
use Rattle.world.proofs.keeping.SessionsKept.{heard_able}
use Rattle.world.proofs.safety.Invariant.{Inv}
use Rattle.world.proofs.safety.Runs.{every_run, step_kept}
use Rattle.world.proofs.envelopes.Addresses.{stands}
use Rattle.world.proofs.shards.RightAnswers.{hears, parts_apart}
use Rattle.world.proofs.steps.Moves.{session_took as stepped}
use Rattle.world.proofs.in_code.Listed.{Found, told_is_found, submission_is_found}
use Rattle.world.proofs.in_code.Taking.{below_count, session_at, shard_step, shard_refusal, session_step, session_refusal, refused_so, refused_session}
use Rattle.world.proofs.in_code.Opened.{submission_step, submission_refusal}
use Rattle.present.specs.declared.actors.Actors.{Actors}
use Rattle.present.specs.declared.waiting.Waiting.{Waiting}
use Rattle.present.specs.Past.{next_number}
use Rattle.present.specs.Waiting.{waiting_of}
use Rattle.present.specs.Present.{AreSessions, DidSession, ended_of, AreLeft, IsPresentOf, HasTaken, Holds, IsEnd}
use Rattle.present.proofs.Waits.{behind}
use Rattle.present.proofs.Left.{next_is, next_stands, left_after, left_with}
use Rattle.present.proofs.Sessions.{told_end}

none_refused : {X : Type 0} (r : Result X Fault) → IsOk r → refused_by r ≡ None
none_refused (Ok s) is = refl
none_refused (Err e) is = absurd cc

module _ (top : TopologyValue) (events : List RunEvent) (a b : Actors) (h : Holds top events a) where
  some : 0 < top.shards
  some = (stands top h.present.sound).some

  inv : Inv top (run top events)
  inv = every_run top events some

  -- a shard's step that the run does is allowed, and what is kept goes on
  shard_took : (x : RunEvent) (node : ℕ) (before : List Envelope) (r : Result ShardStep Fault) → step top (run top events) x ≡ after_shard r (run top events) x node
      → refusal_of top (run top events) x ≡ refused_by r → (StaysApart r → DidShard top (run top events).shards node r b.shards.items before b.waiting.sent.sent)
      → ((s : ShardStep) → b.waiting.sent.sent ≡ before ++ s.sends → AreLeft (after_shard (Ok s) (run top events) x node) (waiting_of b.waiting))
      → b.topology ≡ a.topology → b.sessions.items ≡ a.sessions.items
      → HasTaken top events x b × IsEnd (run top events) (step top (run top events) x) None
  shard_took x node before (Err f) steps refuses did left topology sessions = absurd (did tt)
  shard_took x node before (Ok s) steps refuses did left topology sessions =
      let apart : AreApart s.state.applied =
      subst (λ (z : ShardState). AreApart z.applied) (ap (λ (v : Run). v.shards node) steps ∙ actor_same (run top events).shards node s.state)
      (parts_apart top (step top (run top events) x) (step_kept top (run top events) x some inv) node) in
      let d = did apart in (
        record {
          allowed = refuses;
          present =
              subst (λ v. IsPresentOf top v b) (sym steps)
              (record {
                topology = topology ∙ h.present.topology;
                sound = h.present.sound;
                shards = d.0;
                count = ap (λ (l : List SessionKept). length l) sessions ∙ h.present.count;
                sessions = subst (AreSessions top (shard_count top) (run top events).sessions) (sym sessions) h.present.sessions;
                left = left s d.1;
              });
        },
        ap (λ (v : Run). v.transcript) steps,
      )

  -- so of a session's
  session_took : (x : RunEvent) (node place : ℕ) (before : List Envelope) (submitted : List Submission) (st : SessionStep) (told : Option (ℕ × Outcome)) → node ≡ shard_count top + place
      → step top (run top events) x ≡ with_session (run top events) x node submitted st → refusal_of top (run top events) x ≡ None
      → DidSession top (shard_count top) (run top events).sessions place (Ok st) b.sessions.items before b.waiting.sent.sent told
      → length b.sessions.items ≡ length a.sessions.items
      → (b.waiting.sent.sent ≡ before ++ st.sends → AreLeft (with_session (run top events) x node submitted st) (waiting_of b.waiting))
      → ((f : Finished) → st.state.untaken ≡ Some f → Found submitted node f)
      → b.topology ≡ a.topology → b.shards.items ≡ a.shards.items
      → HasTaken top events x b × IsEnd (run top events) (step top (run top events) x) (ended_of node told)
  session_took x node place before submitted st told is steps allowed did long left found topology shards = (
    record {
      allowed = allowed;
      present =
          subst (λ v. IsPresentOf top v b) (sym steps)
          (record {
            topology = topology ∙ h.present.topology;
            sound = h.present.sound;
            shards = subst (AreShards top (run top events).shards) (sym shards) h.present.shards;
            count = long ∙ h.present.count;
            sessions = subst (λ n. AreSessions top (shard_count top) (with_actor (run top events).sessions n (session_taken st.state)) b.sessions.items) (sym is) did.0;
            left = left did.1;
          });
    },
    subst (λ v. IsEnd (run top events) v (ended_of node told)) (sym steps) (told_end (run top events) x node submitted st told did.2 found),
  )

  -- ## A delivery

  module _ (e : Envelope) (rest : Waiting) (waits : waiting_of a.waiting ≡ e ∷ waiting_of rest) where
    is_left : AreLeft (run top events) (e ∷ waiting_of rest)
    is_left = subst (AreLeft (run top events)) waits h.present.left

    its_number : next_number events ≡ length is_left.past
    its_number = next_is (run top events) events (e ∷ waiting_of rest) h.events is_left

    there : slice_get (run top events).sent (next_number events) ≡ Some e
    there = ap (slice_get (run top events).sent) its_number ∙ next_stands (run top events) e (waiting_of rest) is_left

    left_then : (v : Run) (sends : List Envelope) → v.events ≡ (run top events).events ++ Deliver (next_number events) ∷ [] → v.sent ≡ (run top events).sent ++ sends
        → b.waiting.held ≡ rest.held → b.waiting.turn.items ≡ rest.turn.items → b.waiting.sent.sent ≡ rest.sent.sent ++ sends → AreLeft v (waiting_of b.waiting)
    left_then v sends added sent held turn now =
        subst (AreLeft v) (sym (behind b.waiting rest sends held turn now))
        (left_after (run top events) v e (waiting_of rest) sends is_left (added ∙ ap (λ n. (run top events).events ++ Deliver n ∷ []) its_number) sent)

    pub shard_delivered : (place : ℕ) → e.to ≡ place → place < length a.shards.items
        → ((t : TopologyValue) (states : ℕ → ShardState) → AreShards t states a.shards.items → StaysApart (shard_handle t place (states place) e)
        → DidShard t states place (shard_handle t place (states place) e) b.shards.items rest.sent.sent b.waiting.sent.sent)
        → b.topology ≡ a.topology → b.sessions.items ≡ a.sessions.items → b.waiting.held ≡ rest.held → b.waiting.turn.items ≡ rest.turn.items
        → HasTaken top events (Deliver (next_number events)) b × IsEnd (run top events) (step top (run top events) (Deliver (next_number events))) None
    shard_delivered place to lt did topology sessions held turn =
        let near : is_shard top e.to ≡ true = subst (λ z. is_shard top z ≡ true) (sym to) (below_count top a.shards.items place h.present.shards.len lt) in
        shard_took (Deliver (next_number events)) e.to rest.sent.sent (shard_handle top e.to ((run top events).shards e.to) e)
        (shard_step top (run top events) (next_number events) e there near)
        (shard_refusal top (run top events) (next_number events) e there near)
        (subst (λ z. StaysApart (shard_handle top z ((run top events).shards z) e) → DidShard top (run top events).shards z (shard_handle top z ((run top events).shards z) e) b.shards.items rest.sent.sent b.waiting.sent.sent) (sym to)
        (did top (run top events).shards h.present.shards))
        (λ s now. left_then (after_shard (Ok s) (run top events) (Deliver (next_number events)) e.to) s.sends refl refl held turn now)
        topology sessions

    heard_so : (t : Option ℕ) (place : ℕ) (told : Option (ℕ × Outcome)) → e.to ≡ shard_count top + place → is_shard top e.to ≡ false → is_session top e.to ≡ true
        → ticked ((run top events).sessions e.to).clock e.time ≡ t
        → DidSession top (shard_count top) (run top events).sessions place (on_clock t (λ n. heard top e.to n ((run top events).sessions e.to) e.from e.body)) b.sessions.items rest.sent.sent b.waiting.sent.sent told
        → length b.sessions.items ≡ length a.sessions.items → b.topology ≡ a.topology → b.shards.items ≡ a.shards.items → b.waiting.held ≡ rest.held → b.waiting.turn.items ≡ rest.turn.items
        → HasTaken top events (Deliver (next_number events)) b × IsEnd (run top events) (step top (run top events) (Deliver (next_number events))) (ended_of e.to told)
    heard_so None place told to far here clock did long topology shards held turn = absurd did
    heard_so (Some n) place told to far here clock did long topology shards held turn =
        let r : session_handle top e.to ((run top events).sessions e.to) e ≡ Ok (heard top e.to n ((run top events).sessions e.to) e.from e.body) =
        ap (λ z. on_clock z (λ q. heard top e.to q ((run top events).sessions e.to) e.from e.body)) clock in
        let above = ticked_above ((run top events).sessions e.to).clock e.time n clock in
        session_took (Deliver (next_number events)) e.to place rest.sent.sent (run top events).submitted (heard top e.to n ((run top events).sessions e.to) e.from e.body) told to
        (session_step top (run top events) (next_number events) e there far here
        ∙ ap (λ z. after_session z (run top events) (Deliver (next_number events)) e.to) r)
        (session_refusal top (run top events) (next_number events) e there far here ∙ ap refused_by r)
        did long
        (λ now. left_then (with_session (run top events) (Deliver (next_number events)) e.to (run top events).submitted (heard top e.to n ((run top events).sessions e.to) e.from e.body))
        (heard top e.to n ((run top events).sessions e.to) e.from e.body).sends refl refl held turn now)
        (λ f tells.
        told_is_found top (run top events) e.to (heard top e.to n ((run top events).sessions e.to) e.from e.body) inv
        (heard_able top (run top events) e.to n some inv (le_of_lt above.0) e.from e.time e.body (le_of_lt above.1)
        (hears top (run top events) inv e (contains_get (run top events).sent (next_number events) e there))) f tells)
        topology shards

    pub session_heard : (place : ℕ) (told : Option (ℕ × Outcome)) → e.to ≡ length a.shards.items + place → place < length a.sessions.items
        → ((t : TopologyValue) (from : ℕ) (states : ℕ → SessionState) → AreSessions t from states a.sessions.items
        → DidSession t from states place (session_handle t (from + place) (states (from + place)) e) b.sessions.items rest.sent.sent b.waiting.sent.sent told)
        → length b.sessions.items ≡ length a.sessions.items → b.topology ≡ a.topology → b.shards.items ≡ a.shards.items → b.waiting.held ≡ rest.held → b.waiting.turn.items ≡ rest.turn.items
        → HasTaken top events (Deliver (next_number events)) b × IsEnd (run top events) (step top (run top events) (Deliver (next_number events))) (ended_of e.to told)
    session_heard place told to lt did long topology shards held turn =
        let at : e.to ≡ shard_count top + place = to ∙ ap (λ z. z + place) h.present.shards.len in
        let kind = session_at top e.to place at (subst (λ z. place < z) h.present.count lt) in
        heard_so (ticked ((run top events).sessions e.to).clock e.time) place told at kind.0 kind.1 refl
        (subst (λ z. DidSession top (shard_count top) (run top events).sessions place (session_handle top z ((run top events).sessions z) e) b.sessions.items rest.sent.sent b.waiting.sent.sent told) (sym at)
        (did top (shard_count top) (run top events).sessions h.present.sessions))
        long topology shards held turn

    -- a refusal is the run's
    pub shard_refuses : (place : ℕ) (f : Fault) → e.to ≡ place → place < length a.shards.items
        → ((t : TopologyValue) (states : ℕ → ShardState) → AreShards t states a.shards.items → shard.IsRefusalOf (shard_handle t place (states place) e) f)
        → IsRefusedAs (refusal_of top (run top events) (Deliver (next_number events))) f
    shard_refuses place f to lt refused =
        let near : is_shard top e.to ≡ true = subst (λ z. is_shard top z ≡ true) (sym to) (below_count top a.shards.items place h.present.shards.len lt) in
        refused_so top events (refusal_of top (run top events) (Deliver (next_number events))) (shard_handle top e.to ((run top events).shards e.to) e) f
        (shard_refusal top (run top events) (next_number events) e there near)
        (subst (λ z. shard.IsRefusalOf (shard_handle top z ((run top events).shards z) e) f) (sym to) (refused top (run top events).shards h.present.shards))

    pub session_refuses : (place : ℕ) (f : Fault) → e.to ≡ length a.shards.items + place → place < length a.sessions.items
        → ((t : TopologyValue) (from : ℕ) (states : ℕ → SessionState) → AreSessions t from states a.sessions.items → session.IsRefusalOf (session_handle t (from + place) (states (from + place)) e) f)
        → IsRefusedAs (refusal_of top (run top events) (Deliver (next_number events))) f
    session_refuses place f to lt refused =
        let at : e.to ≡ shard_count top + place = to ∙ ap (λ z. z + place) h.present.shards.len in
        let kind = session_at top e.to place at (subst (λ z. place < z) h.present.count lt) in
        refused_session top events (refusal_of top (run top events) (Deliver (next_number events))) (session_handle top e.to ((run top events).sessions e.to) e) f
        (session_refusal top (run top events) (next_number events) e there kind.0 kind.1)
        (subst (λ z. session.IsRefusalOf (session_handle top z ((run top events).sessions z) e) f) (sym at) (refused top (shard_count top) (run top events).sessions h.present.sessions))

  -- ## What stays

  -- what is kept goes on to stand where its actors do, and what waits is the same
  pub still_holds : (t : TopologyValue) → t ≡ top → b.topology ≡ a.topology → AreShards top (run top events).shards b.shards.items → b.sessions.items ≡ a.sessions.items
      → waiting_of b.waiting ≡ waiting_of a.waiting → Holds top events b
  still_holds t same topology shards sessions left =
      record {
        events = h.events;
        present =
            record {
              topology = topology ∙ h.present.topology;
              sound = h.present.sound;
              shards = shards;
              count = ap (λ (l : List SessionKept). length l) sessions ∙ h.present.count;
              sessions = subst (AreSessions top (shard_count top) (run top events).sessions) (sym sessions) h.present.sessions;
              left = subst (AreLeft (run top events)) (sym left) h.present.left;
            };
      }

  -- ## A submission

  begun_so : (f : Option Fault) (t : Option ℕ) (node place number : ℕ) (o : Op) (told : Option (ℕ × Outcome)) → node ≡ shard_count top + place → is_session top node ≡ true
      → submit_fault top ((run top events).sessions node) o ≡ f → ticked ((run top events).sessions node).clock ((run top events).sessions node).clock ≡ t
      → DidSession top (shard_count top) (run top events).sessions place (submitted_if f top node ((run top events).sessions node) o) b.sessions.items a.waiting.sent.sent b.waiting.sent.sent told
      → length b.sessions.items ≡ length a.sessions.items → b.topology ≡ a.topology → b.shards.items ≡ a.shards.items → b.waiting.held ≡ a.waiting.held → b.waiting.turn.items ≡ a.waiting.turn.items
      → HasTaken top events (Submit node o) b × IsEnd (run top events) (step top (run top events) (Submit node o)) (ended_of node told)
  begun_so (Some e) t node place number o told to here fault clock did long topology shards held turn = absurd did
  begun_so None None node place number o told to here fault clock did long topology shards held turn =
      absurd (subst (λ z. DidSession top (shard_count top) (run top events).sessions place (on_clock z (λ n. begun top node n ((run top events).sessions node) o)) b.sessions.items a.waiting.sent.sent b.waiting.sent.sent told) clock did)
  begun_so None (Some n) node place number o told to here fault clock did long topology shards held turn =
      let r : session_submit top node ((run top events).sessions node) o ≡ Ok (begun top node n ((run top events).sessions node) o) =
      ap (λ z. submitted_if z top node ((run top events).sessions node) o) fault ∙ ap (λ z. on_clock z (λ n. begun top node n ((run top events).sessions node) o)) clock in
      session_took (Submit node o) node place a.waiting.sent.sent ((run top events).submitted ++ submission_by (run top events) node o (begun top node n ((run top events).sessions node) o) ∷ [])
      (begun top node n ((run top events).sessions node) o) told to
      (submission_step top (run top events) node o here ∙ ap (λ z. after_submission z (run top events) node o) r)
      (submission_refusal top (run top events) node o here ∙ ap refused_by r)
      (subst (λ z. DidSession top (shard_count top) (run top events).sessions place (on_clock z (λ n. begun top node n ((run top events).sessions node) o)) b.sessions.items a.waiting.sent.sent b.waiting.sent.sent told) clock did) long
      (λ now.
      let v = with_session (run top events) (Submit node o) node ((run top events).submitted ++ submission_by (run top events) node o (begun top node n ((run top events).sessions node) o) ∷ []) (begun top node n ((run top events).sessions node) o) in
      subst (AreLeft v) (sym (behind b.waiting a.waiting (begun top node n ((run top events).sessions node) o).sends held turn now))
      (left_with (run top events) v (Submit node o) (waiting_of a.waiting) (begun top node n ((run top events).sessions node) o).sends h.present.left refl refl refl))
      (λ f tells.
      submission_is_found top (run top events) node o (stepped (begun top node n ((run top events).sessions node) o)) (submission_by (run top events) node o (begun top node n ((run top events).sessions node) o)) inv
      (ap of_session r) refl refl f tells)
      topology shards

  pub session_begun : (node place number : ℕ) (o : Op) (told : Option (ℕ × Outcome)) → node ≡ length a.shards.items + place → place < length a.sessions.items
      → ((t : TopologyValue) (from : ℕ) (states : ℕ → SessionState) → AreSessions t from states a.sessions.items
      → DidSession t from states place (session_submit t (from + place) (states (from + place)) o) b.sessions.items a.waiting.sent.sent b.waiting.sent.sent told × (number ≡ (states (from + place)).count + 1))
      → length b.sessions.items ≡ length a.sessions.items → b.topology ≡ a.topology → b.shards.items ≡ a.shards.items → b.waiting.held ≡ a.waiting.held → b.waiting.turn.items ≡ a.waiting.turn.items
      → HasTaken top events (Submit node o) b × IsEnd (run top events) (step top (run top events) (Submit node o)) (ended_of node told) × (number ≡ ((run top events).sessions node).count + 1)
  session_begun node place number o told to lt did long topology shards held turn =
      let at : node ≡ shard_count top + place = to ∙ ap (λ z. z + place) h.present.shards.len in
      let kind = session_at top node place at (subst (λ z. place < z) h.present.count lt) in
      let d = did top (shard_count top) (run top events).sessions h.present.sessions in
      let r = begun_so (submit_fault top ((run top events).sessions node) o) (ticked ((run top events).sessions node).clock ((run top events).sessions node).clock) node place number o told at kind.1 refl refl
      (subst (λ z. DidSession top (shard_count top) (run top events).sessions place (session_submit top z ((run top events).sessions z) o) b.sessions.items a.waiting.sent.sent b.waiting.sent.sent told) (sym at) d.0)
      long topology shards held turn in
      (r.0, r.1, subst (λ z. number ≡ ((run top events).sessions z).count + 1) (sym at) d.1)

  pub submission_refuses : (node place : ℕ) (o : Op) (f : Fault) → node ≡ length a.shards.items + place → place < length a.sessions.items
      → ((t : TopologyValue) (from : ℕ) (states : ℕ → SessionState) → AreSessions t from states a.sessions.items → session.IsRefusalOf (session_submit t (from + place) (states (from + place)) o) f)
      → IsRefusedAs (refusal_of top (run top events) (Submit node o)) f
  submission_refuses node place o f to lt refused =
      let at : node ≡ shard_count top + place = to ∙ ap (λ z. z + place) h.present.shards.len in
      let kind = session_at top node place at (subst (λ z. place < z) h.present.count lt) in
      refused_session top events (refusal_of top (run top events) (Submit node o)) (session_submit top node ((run top events).sessions node) o) f
      (submission_refusal top (run top events) node o kind.1)
      (subst (λ z. session.IsRefusalOf (session_submit top z ((run top events).sessions z) o) f) (sym at) (refused top (shard_count top) (run top events).sessions h.present.sessions))

  -- what a session says of an operation that it would accept, or refuse, the run says too
  pub submission_allowed : (node place : ℕ) (o : Op) → node ≡ length a.shards.items + place → place < length a.sessions.items
      → ((t : TopologyValue) (from : ℕ) (states : ℕ → SessionState) → AreSessions t from states a.sessions.items → IsOk (session_submit t (from + place) (states (from + place)) o))
      → refusal_of top (run top events) (Submit node o) ≡ None
  submission_allowed node place o to lt allowed =
      let at : node ≡ shard_count top + place = to ∙ ap (λ z. z + place) h.present.shards.len in
      let kind = session_at top node place at (subst (λ z. place < z) h.present.count lt) in
      submission_refusal top (run top events) node o kind.1
      ∙ none_refused (session_submit top node ((run top events).sessions node) o)
      (subst (λ z. IsOk (session_submit top z ((run top events).sessions z) o)) (sym at) (allowed top (shard_count top) (run top events).sessions h.present.sessions))

  pub submission_would_refuse : (node place : ℕ) (o : Op) (f : Fault) → node ≡ length a.shards.items + place → place < length a.sessions.items
      → ((t : TopologyValue) (from : ℕ) (states : ℕ → SessionState) → AreSessions t from states a.sessions.items → session_submit t (from + place) (states (from + place)) o ≡ Err f)
      → refusal_of top (run top events) (Submit node o) ≡ Some (Refused f)
  submission_would_refuse node place o f to lt refused =
      let at : node ≡ shard_count top + place = to ∙ ap (λ z. z + place) h.present.shards.len in
      let kind = session_at top node place at (subst (λ z. place < z) h.present.count lt) in
      submission_refusal top (run top events) node o kind.1
      ∙ ap refused_by (subst (λ z. session_submit top z ((run top events).sessions z) o ≡ Err f) (sym at) (refused top (shard_count top) (run top events).sessions h.present.sessions))

  -- ## A collection

  pub shard_collected : (node place time : ℕ) → place ≡ node → node < length a.shards.items
      → ((t : TopologyValue) (states : ℕ → ShardState) → AreShards t states a.shards.items → StaysApart (shard_collect (states place) time)
      → DidShard t states place (shard_collect (states place) time) b.shards.items [] [])
      → b.topology ≡ a.topology → b.sessions.items ≡ a.sessions.items → b.waiting.held ≡ a.waiting.held → b.waiting.turn.items ≡ a.waiting.turn.items
      → b.waiting.sent.sent ≡ a.waiting.sent.sent → HasTaken top events (Collect node time) b
  shard_collected node place time same lt did topology sessions held turn sent =
      let near : is_shard top node ≡ true = below_count top a.shards.items node h.present.shards.len lt in
      (shard_took (Collect node time) node a.waiting.sent.sent (shard_collect ((run top events).shards node) time)
      (ap (λ z. collect_if z (run top events) node time) near) (ap (λ z. if z then refused_by (shard_collect ((run top events).shards node) time) else Some NoSuchActor) near)
      (λ apart. quietly (shard_collect ((run top events).shards node) time)
      (subst (λ z. StaysApart (shard_collect ((run top events).shards z) time) → DidShard top (run top events).shards z (shard_collect ((run top events).shards z) time) b.shards.items [] []) same (did top (run top events).shards h.present.shards) apart))
      (λ s now.
      let v = after_shard (Ok s) (run top events) (Collect node time) node in
      subst (AreLeft v) (sym (behind b.waiting a.waiting s.sends held turn now))
      (left_with (run top events) v (Collect node time) (waiting_of a.waiting) s.sends h.present.left refl refl refl))
      topology sessions).0
    where
      quietly : (r : Result ShardStep Fault) → DidShard top (run top events).shards node r b.shards.items [] [] → DidShard top (run top events).shards node r b.shards.items a.waiting.sent.sent b.waiting.sent.sent
      quietly (Err f) d = d
      quietly (Ok s) d = (d.0, sent ∙ sym (append-nil a.waiting.sent.sent) ∙ ap (λ l. a.waiting.sent.sent ++ l) d.1)

  pub collection_refuses : (node place time : ℕ) (f : Fault) → place ≡ node → node < length a.shards.items
      → ((t : TopologyValue) (states : ℕ → ShardState) → AreShards t states a.shards.items → shard.IsRefusalOf (shard_collect (states place) time) f)
      → IsRefusedAs (refusal_of top (run top events) (Collect node time)) f
  collection_refuses node place time f same lt refused =
      let near : is_shard top node ≡ true = below_count top a.shards.items node h.present.shards.len lt in
      refused_so top events (refusal_of top (run top events) (Collect node time)) (shard_collect ((run top events).shards node) time) f
      (ap (λ z. if z then refused_by (shard_collect ((run top events).shards node) time) else Some NoSuchActor) near)
      (subst (λ z. shard.IsRefusalOf (shard_collect ((run top events).shards z) time) f) same (refused top (run top events).shards h.present.shards))
