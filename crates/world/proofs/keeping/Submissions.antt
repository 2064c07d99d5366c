-- A submission keeps all: its messages are sound, and so is the operation that it opens.
use Rattle.std.proofs.Common.{◌≡◌, ℕ, ◌+◌, ◌<◌, ◌≤◌, Bool, true, false, List, [], ◌∷◌, ◌++◌, map, None, ◌⊎◌, inl, inr, refl, sym, ap, ◌∙◌, subst, arith, le_refl, le_trans, le_of_lt, eq-eqb, ltb-true, Ok}
use Rattle.std.specs.Prelude.{◌==◌, nat_lt, Contains}
use Rattle.std.proofs.lemmas.Bool.{false≢true}
use Rattle.logical_time.specs.Stamps.{WriterValue}
use Rattle.column_family.specs.declared.batch.Change.{Change}
use Rattle.column_family.specs.Places.{normal_of}
use Rattle.slice.specs.declared.read.Read.{Read}
use Rattle.planner.specs.Plan.{part_for, coordinator_of, cohorts_of, shards_asked}
use Rattle.messages.specs.declared.op.Op.{Op}
use Rattle.messages.specs.declared.op.Op.TheVariants as op
use Rattle.messages.specs.declared.body.Body.TheVariants as body
use Rattle.messages.specs.declared.envelope.Envelope.{Envelope}
use Rattle.messages.specs.Topology.{TopologyValue}
use Rattle.messages.specs.Words.{envelope}
use Rattle.messages.specs.Session.{SessionState, SessionStep, Open, Moving, moved}
use Rattle.messages.specs.SessionEvents.{session_taken}
use Rattle.messages.specs.Submitting.{next_txn, home_node, begin_of, prepare_of, write_begun, share_of, read_begun, check_of, begun, move_fault_if, move_fault, plan_fault}
use Rattle.messages.proofs.Numbering.{dc_of_shard, number_of_shard}
use Rattle.world.specs.Run.{Run, RunEvent, Submit, Submission, ended_by, after_submission}
use Rattle.world.proofs.lists.Members.{none_in_empty, contains_cases, Contains-push, last_or_old, Contains-append_left, Contains-append_cases, mapped_from}
use Rattle.world.proofs.growing.Growth.{AskedNow, SessionGrows, Grows}
use Rattle.world.proofs.safety.Facts.{txn_of, IsWritten, lead, IsDone}
use Rattle.world.proofs.safety.Invariant.{of_move, EnvelopeSound, IsOpen, MovingSound, OpenSound, SessionSound, SubmittedSound, Inv}
use Rattle.world.proofs.safety.Lasting.{same_shard_grows, done_grows}
use Rattle.world.proofs.safety.LastingAll.{says_grows, shard_grows, session_grows, completed_grows}
use Rattle.world.proofs.keeping.ShardSteps.{actor_same}
use Rattle.world.proofs.keeping.SessionSteps.{SessionAble, session_actor_grows, session_actor_sound, session_step_kept}
use Rattle.world.proofs.keeping.SessionEnds.{nothing_left_able}
use Rattle.world.proofs.steps.Transcripts.{old_stays}
use Rattle.world.proofs.steps.BegunCases.{move_opened, moved_at_once, begun_cases, its_submission, opened_state, opened_run, move_open, ends_at_once}
use Rattle.world.proofs.envelopes.Near.{coordinator_below, cohort_below}
use Rattle.world.proofs.envelopes.Asking.{asked_below}
use Rattle.world.proofs.steps.SessionSends.{IsOfSession, AreOfSession, begun_sends}
use Rattle.world.proofs.shards.Playing.{session_played}

-- what a session asked before is of an earlier number, so nothing that it opens now disagrees
later_grows : (top : TopologyValue) (a b : SessionState) → a.clock ≤ b.clock → b.count ≡ a.count + 1 → SessionGrows top a b
later_grows top a b clock count =
    record {
      clock = clock;
      count = omega arith;
      asked_now = λ number m asked k. record { number = let le = k.number in omega arith; round = λ q. absurd (let le = k.number in omega arith) };
      asked_at = λ number time m asked k. record { number = let le = k.number in omega arith; round = λ q. absurd (let le = k.number in omega arith) };
    }

-- What a submission opens, in a run with these events
module _ (top : TopologyValue) (w : Run) (es : List RunEvent) (node n : ℕ) (o : Op) (inv : Inv top w) (lt : (w.sessions node).clock < n) (current : Open) (sends : List Envelope) where
  -- the session after it, its submission, and the run after it
  abbrev state_then : SessionState
  state_then = opened_state w node n current

  abbrev sub : Submission
  sub = its_submission w node n o

  abbrev after : Run
  after = opened_run es w node n o current sends

  pub submission_grows : Grows top w after
  submission_grows =
      record {
        shards = λ m. same_shard_grows (w.shards m);
        sessions = session_actor_grows top w.sessions node state_then (later_grows top (w.sessions node) state_then (le_of_lt lt) refl);
        submitted = λ b m. Contains-append_left w.submitted (sub ∷ []) b m;
        transcript = λ c m. m;
      }

  at_node : after.sessions node ≡ state_then
  at_node = actor_same w.sessions node state_then

  is_open : IsOpen after node state_then.count state_then.home o
  is_open = record { submission = sub; among = Contains-push w.submitted sub; session = refl; number = refl; home = refl; op = refl }

  session_sound : OpenSound top after node state_then current → SessionSound top after node state_then
  session_sound sound =
      record {
        floor = le_trans (inv.sessions node).floor (le_of_lt lt);
        current = sound;
        dependencies = λ k m. done_grows submission_grows (le_refl _) ((inv.sessions node).dependencies k m);
        placed = (inv.sessions node).placed;
        taken = refl;
      }

  -- no earlier operation has its number
  old_below : (b : Submission) → Contains w.submitted b → txn_of b ≡ txn_of sub → ⊥
  old_below b m e =
      let le = inv.submitted.number b m in
      let numbers = ap (λ t. t.number) e in
      let counts = ap (λ t. (w.sessions t.session).count) e in
      omega arith

  one_go : (b c : Submission) → Contains w.submitted b ⊎ (b ≡ sub) → Contains w.submitted c ⊎ (c ≡ sub) → txn_of b ≡ txn_of c → b ≡ c
  one_go b c (inl i) (inl j) e = inv.submitted.one b c i j e
  one_go b c (inl i) (inr q) e = absurd (old_below b i (e ∙ ap txn_of q))
  one_go b c (inr p) (inl j) e = absurd (old_below c j (sym e ∙ ap txn_of p))
  one_go b c (inr p) (inr q) e = p ∙ sym q

  number_go : (b : Submission) → Contains w.submitted b ⊎ (b ≡ sub) → b.number ≤ (after.sessions b.session).count
  number_go b (inl i) = le_trans (inv.submitted.number b i) (submission_grows.sessions b.session).count
  number_go b (inr q) =
      subst (λ z. z.number ≤ (after.sessions z.session).count) (sym q) (subst (λ z. sub.number ≤ z.count) (sym at_node) (le_refl sub.number))

  submitted_sound : plan_fault top (w.sessions node).home o ≡ None → SubmittedSound top after
  submitted_sound accepted =
      record {
        accepted = λ b m. elim (last_or_old b sub w.submitted m) [ inl i ↦ inv.submitted.accepted b i | inr q ↦ ap (λ z. plan_fault top z.home z.op) q ∙ accepted ];
        number = λ b m. number_go b (last_or_old b sub w.submitted m);
        one = λ b c i j e. one_go b c (last_or_old b sub w.submitted i) (last_or_old c sub w.submitted j) e;
        placed = λ b k m i. elim (last_or_old b sub w.submitted m) [
          | inl j ↦ inv.submitted.placed b k j i
          | inr q ↦ (inv.sessions node).placed k (subst (λ ds. Contains ds k) (ap (λ z. z.dependencies) q) i)
        ];
      }

  pub opens_kept : plan_fault top (w.sessions node).home o ≡ None → OpenSound top after node state_then current → ((e : Envelope) → Contains sends e → EnvelopeSound top after e) → AreOfSession node sends → Inv top after
  opens_kept accepted sound send of =
      let gr = submission_grows in
      record {
        shards = λ m. shard_grows gr (inv.shards m);
        played = session_played top w after node sends (λ m. refl) refl of inv.played;
        sessions = session_actor_sound top after w.sessions node state_then (λ m. session_grows gr (inv.sessions m)) (session_sound sound);
        sent = λ e m. elim (Contains-append_cases w.sent sends e m) [ inl i ↦ says_grows top e.from e.to e.time gr e.body (inv.sent e i) | inr i ↦ send e i ];
        submitted = submitted_sound accepted;
        transcript = λ c m. completed_grows gr (inv.transcript c m);
      }

-- ## A batch

module _ (top : TopologyValue) (w : Run) (node n : ℕ) (batch : List Change) (some : 0 < top.shards) (inv : Inv top w) (lt : (w.sessions node).clock < n) where
  abbrev state : SessionState
  state = w.sessions node

  abbrev began : SessionStep
  began = write_begun top node n state batch

  abbrev written : Run
  written = after_submission (Ok began) w node (op.Batch batch)

  abbrev write_events : List RunEvent
  write_events = w.events ++ Submit node (op.Batch batch) ∷ []

  abbrev coordinator : ℕ
  coordinator = coordinator_of top.shards batch

  write_grows : Grows top w written
  write_grows = submission_grows top w write_events node n (op.Batch batch) inv lt began.state.current began.sends

  is_written : IsWritten written (next_txn node state) (its_submission w node n (op.Batch batch)) batch
  is_written = record { among = Contains-push w.submitted _; txn = refl; op = refl }

  begin_sound : EnvelopeSound top written (begin_of top node n state batch)
  begin_sound =
      let c = coordinator_below top.shards batch some in
      let here = dc_of_shard top state.home coordinator c in
      record {
        submission = its_submission w node n (op.Batch batch);
        batch = batch;
        written = is_written;
        here = ap (λ d. lead top d batch) (sym here);
        rows = ap (part_for top.shards (normal_of batch)) (sym (number_of_shard top state.home coordinator c));
        cohorts = refl;
        dependencies = refl;
        done = λ k m.
            subst (λ d. IsDone top written d k.txn n) (sym here)
            (done_grows write_grows (let le = (inv.sessions node).floor in omega arith) ((inv.sessions node).dependencies k m));
        begun = le_refl n;
        stamp = here;
      }

  prepare_sound : (s : ℕ) → Contains (cohorts_of top.shards batch) s → EnvelopeSound top written (prepare_of top node n state batch s)
  prepare_sound s m =
      let c = cohort_below top.shards batch s m in
      let number = number_of_shard top state.home s c in
      record {
        submission = its_submission w node n (op.Batch batch);
        batch = batch;
        written = is_written;
        coordinator = refl;
        rows = ap (part_for top.shards (normal_of batch)) (sym number);
        cohort = subst (λ z. Contains (cohorts_of top.shards batch) z) (sym number) m;
        origin = dc_of_shard top state.home s c;
      }

  write_sends : (e : Envelope) → Contains began.sends e → EnvelopeSound top written e
  write_sends e m = elim (contains_cases (begin_of top node n state batch) e (map (prepare_of top node n state batch) (cohorts_of top.shards batch)) m) [
    | inl q ↦ subst (λ z. EnvelopeSound top written z) (sym q) begin_sound
    | inr r ↦
        let q = mapped_from (prepare_of top node n state batch) (cohorts_of top.shards batch) e r in
        subst (λ z. EnvelopeSound top written z) (sym q.2) (prepare_sound q.0 q.1)
  ]

  write_kept : plan_fault top (w.sessions node).home (op.Batch batch) ≡ None → Inv top written
  write_kept accepted =
      let o = op.Batch batch in
      opens_kept top w write_events node n o inv lt began.state.current began.sends accepted
      (record { batch = batch; opened = is_open top w write_events node n o inv lt began.state.current began.sends; coordinator = refl }) write_sends (begun_sends top node n (w.sessions node) o)

-- ## A read

module _ (top : TopologyValue) (w : Run) (node n : ℕ) (read : Read) (inv : Inv top w) (lt : (w.sessions node).clock < n) where
  abbrev starts : SessionStep
  starts = read_begun top node n (w.sessions node) read

  abbrev asking : Run
  asking = after_submission (Ok starts) w node (op.Read read)

  abbrev read_events : List RunEvent
  read_events = w.events ++ Submit node (op.Read read) ∷ []

  read_sound : (s : ℕ) → Contains (shards_asked top.shards read.keys) s
      → AskedNow top (asking.sessions node) starts.state.count (home_node top (w.sessions node) s) (share_of top read s)
  read_sound s m =
      let number = number_of_shard top (w.sessions node).home s (asked_below top.shards read.keys s m) in
      subst (λ z. AskedNow top z starts.state.count (home_node top (w.sessions node) s) (share_of top read s)) (sym (actor_same w.sessions node starts.state))
      (record { number = le_refl starts.state.count; round = λ q. ap (share_of top read) (sym number) })

  read_sends : (e : Envelope) → Contains starts.sends e → EnvelopeSound top asking e
  read_sends e m =
      let q = mapped_from (λ s. envelope node (home_node top (w.sessions node) s) n (body.Read starts.state.count (share_of top read s))) (shards_asked top.shards read.keys) e m in
      subst (λ z. EnvelopeSound top asking z) (sym q.2) (read_sound q.0 q.1)

  read_kept : plan_fault top (w.sessions node).home (op.Read read) ≡ None → Inv top asking
  unfolding is_open
  read_kept accepted =
      let o = op.Read read in
      opens_kept top w read_events node n o inv lt starts.state.current starts.sends accepted
      (record { opened = is_open top w read_events node n o inv lt starts.state.current starts.sends; depends = refl; heard = λ h m. absurd (none_in_empty h m) }) read_sends (begun_sends top node n (w.sessions node) o)

-- ## A move

-- a move that isn't refused is to a data centre that there is, and away from the present home
pub move_allowed : (top : TopologyValue) (home dc : ℕ) → move_fault top home dc ≡ None → (dc < top.dcs) × (dc ≡ home → ⊥)
move_allowed top home dc e = go (nat_lt dc top.dcs) (dc == home) refl refl e
  where
    go : (s t : Bool) → nat_lt dc top.dcs ≡ s → (dc == home) ≡ t → move_fault_if s t ≡ None → (dc < top.dcs) × (dc ≡ home → ⊥)
    go true false p q r = (ltb-true dc top.dcs p, λ same. false≢true (sym q ∙ eq-eqb dc home same))
    go true true p q r = absurd (cc)
    go false t p q r = absurd (cc)

module _ (top : TopologyValue) (w : Run) (node n dc : ℕ) (inv : Inv top w) (lt : (w.sessions node).clock < n) (accepted : plan_fault top (w.sessions node).home (op.Move dc) ≡ None) where
  abbrev leaving : SessionState
  leaving = w.sessions node

  moving_sound : (es : List RunEvent) (left : List WriterValue) (sends : List Envelope) → ((k : WriterValue) → Contains leaving.dependencies k → Contains left k)
      → MovingSound top (opened_run es w node n (op.Move dc) (Moving dc left 0) sends) node (opened_state w node n (Moving dc left 0)) dc left 0
  unfolding is_open
  moving_sound es left sends all =
      let allowed = move_allowed top leaving.home dc accepted in
      record {
        opened = is_open top w es node n (op.Move dc) inv lt (Moving dc left 0) sends;
        depends = refl;
        below = allowed.0;
        away = allowed.1;
        clock = omega arith;
        answered = λ k m. inl (all k m);
      }

  -- ## With dependencies

  abbrev departs : SessionStep
  departs = move_opened top node n leaving dc

  abbrev departed : Run
  departed = after_submission (Ok departs) w node (op.Move dc)

  -- each check goes to the data centre that the session moves to
  check_sound : (k : WriterValue) → Contains leaving.dependencies k → EnvelopeSound top departed (check_of top node n leaving dc k)
  check_sound k m =
      of_move (its_submission w node n (op.Move dc)) (Contains-push w.submitted _) refl refl (sym (dc_of_shard top dc k.shard ((inv.sessions node).placed k m)))

  check_sends : (e : Envelope) → Contains departs.sends e → EnvelopeSound top departed e
  check_sends e m =
      let q = mapped_from (check_of top node n leaving dc) leaving.dependencies e m in
      subst (λ z. EnvelopeSound top departed z) (sym q.2) (check_sound q.0 q.1)

  checks_own : AreOfSession node departs.sends
  checks_own e m =
      let q = mapped_from (check_of top node n leaving dc) leaving.dependencies e m in
      subst (λ (z : Envelope). (z.from ≡ node) × IsOfSession z.body) (sym q.2) (refl, tt)

  pub move_kept : Inv top departed
  move_kept =
      let es = w.events ++ Submit node (op.Move dc) ∷ [] in
      opens_kept top w es node n (op.Move dc) inv lt departs.state.current departs.sends accepted
      (moving_sound es leaving.dependencies departs.sends (λ k m. m)) check_sends checks_own

  -- ## Without

  module _ (none : leaving.dependencies ≡ []) where
    pub move_open_grows : Grows top w (move_open w node n dc)
    move_open_grows = submission_grows top w w.events node n (op.Move dc) inv lt (Moving dc [] 0) []

    pub move_open_kept : Inv top (move_open w node n dc)
    move_open_kept =
        opens_kept top w w.events node n (op.Move dc) inv lt (Moving dc [] 0) [] accepted
        (moving_sound w.events [] [] (λ k m. subst (λ ds. Contains ds k) none m)) (λ e m. absurd (none_in_empty e m)) (λ e m. absurd (none_in_empty e m))

    -- what is open ends at the same clock
    pub at_once_able : SessionAble top (move_open w node n dc) node (moved n ((move_open w node n dc).sessions node) dc 0)
    at_once_able =
        let at = actor_same w.sessions node (opened_state w node n (Moving dc [] 0)) in
        nothing_left_able top (move_open w node n dc) node n move_open_kept (subst (λ z. z.clock ≤ n) (sym at) (le_refl n)) dc 0 (ap (λ z. z.current) at)

    pub at_once_kept : Inv top (after_submission (Ok (moved_at_once n leaving dc)) w node (op.Move dc))
    at_once_kept =
        let x = move_open w node n dc in
        subst (Inv top) (ends_at_once w node n dc)
        (session_step_kept top x node (moved n (x.sessions node) dc 0) (Submit node (op.Move dc)) move_open_kept at_once_able (λ e m. absurd (none_in_empty e m)))

at_once_grows : (top : TopologyValue) (w : Run) (node n dc : ℕ) → (w.sessions node).clock < n
    → Grows top w (after_submission (Ok (moved_at_once n (w.sessions node) dc)) w node (op.Move dc))
at_once_grows top w node n dc lt =
    let st = moved_at_once n (w.sessions node) dc in
    record {
      shards = λ m. same_shard_grows (w.shards m);
      sessions = session_actor_grows top w.sessions node (session_taken st.state) (later_grows top (w.sessions node) (session_taken st.state) (le_of_lt lt) refl);
      submitted = λ b m. Contains-append_left w.submitted (its_submission w node n (op.Move dc) ∷ []) b m;
      transcript = λ c m. old_stays c w.transcript (ended_by (w.submitted ++ its_submission w node n (op.Move dc) ∷ []) node st) m;
    }

-- ## Every operation

pub begun_kept : (top : TopologyValue) (w : Run) (node n : ℕ) (o : Op) → 0 < top.shards → Inv top w → (w.sessions node).clock < n
    → plan_fault top (w.sessions node).home o ≡ None → Inv top (after_submission (Ok (begun top node n (w.sessions node) o)) w node o)
begun_kept top w node n o some inv lt =
    begun_cases top node n (w.sessions node) (λ o st. plan_fault top (w.sessions node).home o ≡ None → Inv top (after_submission (Ok st) w node o))
    (record {
      writes = λ batch accepted. write_kept top w node n batch some inv lt accepted;
      reads = λ read accepted. read_kept top w node n read inv lt accepted;
      moves = λ dc k ks e accepted. move_kept top w node n dc inv lt accepted;
      at_once = λ dc none accepted. at_once_kept top w node n dc inv lt accepted none;
    }) o

pub begun_grows : (top : TopologyValue) (w : Run) (node n : ℕ) (o : Op) → Inv top w → (w.sessions node).clock < n
    → Grows top w (after_submission (Ok (begun top node n (w.sessions node) o)) w node o)
begun_grows top w node n o inv lt =
    begun_cases top node n (w.sessions node) (λ o st. Grows top w (after_submission (Ok st) w node o))
    (record {
      writes = λ batch. opened_grows (op.Batch batch) (write_begun top node n (w.sessions node) batch);
      reads = λ read. opened_grows (op.Read read) (read_begun top node n (w.sessions node) read);
      moves = λ dc k ks e. opened_grows (op.Move dc) (move_opened top node n (w.sessions node) dc);
      at_once = λ dc none. at_once_grows top w node n dc lt;
    }) o
  where
    opened_grows : (o : Op) (st : SessionStep) → Grows top w (opened_run (w.events ++ Submit node o ∷ []) w node n o st.state.current st.sends)
    opened_grows o st = submission_grows top w (w.events ++ Submit node o ∷ []) node n o inv lt st.state.current st.sends
