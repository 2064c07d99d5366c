-- A submission keeps what is under way: its messages are sent, what it depends on was submitted before it, and it is open or
-- has ended.
use Rattle.std.proofs.Common.{◌≡◌, ℕ, ◌+◌, ◌<◌, ◌≤◌, Bool, true, false, cond, List, [], ◌∷◌, ◌++◌, map, length, Option, Some, None, Ok, ◌⊎◌, inl, inr, refl, sym, ap, ◌∙◌, subst, eqb-true, ltb-true, le_refl}
use Rattle.std.specs.Prelude.{◌==◌, nat_lt, option_map, option_and_then, Contains}
use Rattle.std.specs.Option.{option_or}
use Rattle.std.proofs.lemmas.Bool.{false≢true}
use Rattle.logical_time.specs.declared.fault.Fault.{Fault}
use Rattle.logical_time.specs.declared.fault.Fault.TheVariants.{EmptyRead}
use Rattle.logical_time.specs.Stamps.{WriterValue}
use Rattle.column_family.specs.declared.batch.Change.{Change}
use Rattle.slice.specs.declared.read.Read.{Read}
use Rattle.planner.specs.Checks.{unless, read_fault}
use Rattle.planner.specs.Partition.{shard_of as shard_of_key}
use Rattle.planner.specs.Plan.{cohorts_of, shards_asked}
use Rattle.planner.proofs.Asked.{asked_shard}
use Rattle.messages.specs.declared.op.Op.{Op}
use Rattle.messages.specs.declared.op.Op.TheVariants as op
use Rattle.messages.specs.declared.outcome.Outcome.{Outcome}
use Rattle.messages.specs.declared.outcome.Outcome.TheVariants as outcome
use Rattle.messages.specs.declared.body.Body.TheVariants as body
use Rattle.messages.specs.declared.envelope.Envelope.{Envelope}
use Rattle.messages.specs.Topology.{TopologyValue, dc_of, shard_node}
use Rattle.messages.specs.Words.{is_same_txn, envelope}
use Rattle.messages.specs.Session.{SessionState, SessionStep, FirstRound, Moving, Finished, is_idle}
use Rattle.messages.specs.SessionEvents.{session_taken}
use Rattle.messages.specs.Submitting.{next_txn, home_node, begin_of, prepare_of, write_begun, share_of, read_begun, check_of, begun, move_fault_if, move_fault, plan_fault}
use Rattle.messages.specs.Rounds.{asked_nodes}
use Rattle.messages.proofs.Numbering.{dc_of_shard, number_of_shard}
use Rattle.world.specs.Run.{Run, Submit, Submission, Completed, submission_of, completed_of, ended_by, after_submission, submission_by}
use Rattle.world.specs.Quiet.{handled}
use Rattle.world.proofs.lists.Members.{none_in_empty, contains_first, contains_rest, contains_cases, Contains-push, last_or_old, Contains-append_left, Contains-append_right, Contains-append_cases, contains_map, mapped_from, any_false, find_none, same_txn_self}
use Rattle.world.proofs.safety.Facts.{txn_of, IsWritten, lead}
use Rattle.world.proofs.envelopes.Near.{coordinator_below, cohort_below}
use Rattle.world.proofs.envelopes.Asking.{asked_below, missing_asked}
use Rattle.world.proofs.keeping.ShardSteps.{actor_same}
use Rattle.world.proofs.steps.BegunCases.{move_opened, moved_at_once, begun_cases}
use Rattle.world.proofs.steps.Transcripts.{old_stays, ended_is_last}
use Rattle.world.proofs.envelopes.About.{OfRead, OfDepCheck, kind_of, Sent}
use Rattle.world.proofs.under_way.Underway.{of_moving, Leads, Placed, Aside, AtOrigin, Onward, SaysLive, SubmissionLive, Earlier, HasEnded, OpenLive, StillOpen, Live}
use Rattle.world.proofs.under_way.LiveGrow.{placed_on, shard_on, round_on, ended_on, open_on, says_on, submission_on, same_shard_on}
use Rattle.world.proofs.under_way.OpenReads.{next_onward, first_missing}
use Rattle.world.proofs.under_way.SteppedLive.{session_actor_on, acted_after}

-- one more submission, whose dependencies were submitted before it
earlier_more : (before bs : List Submission) (b : Submission) → Earlier before bs
    → ((k : WriterValue) → Contains b.dependencies k → (c : Submission) × (Contains before c ⊎ Contains bs c) × (txn_of c ≡ k.txn))
    → Earlier before (bs ++ b ∷ [])
earlier_more before [] b e f = (λ k m. let r = f k m in (r.0, elim (r.1) [ inl i ↦ i | inr i ↦ absurd (none_in_empty r.0 i) ], r.2), tt)
earlier_more before (c ∷ cs) b e f = (
  e.0,
  earlier_more (before ++ c ∷ []) cs b e.1
      (λ k m. let r = f k m in (
        r.0,
        elim (r.1) [
          | inl i ↦ inl (Contains-append_left before (c ∷ []) r.0 i)
          | inr i ↦ elim (contains_cases c r.0 cs i) [
            | inl q ↦ inl (subst (Contains (before ++ c ∷ [])) (sym q) (Contains-push before c))
            | inr o ↦ inr o
          ]
        ],
        r.2,
      )),
)

module _ (top : TopologyValue) (w : Run) (node : ℕ) (o : Op) (live : Live top w) (idle : is_idle (w.sessions node).current ≡ true)
    (below : (k : ℕ) → Contains (handled w) k → k < length w.sent) (st : SessionStep) (count : st.state.count ≡ (w.sessions node).count + 1)
    (depends : st.state.dependencies ≡ (w.sessions node).dependencies) (there : st.state.home < top.dcs) where
  -- the submission, and the run after the session's step
  abbrev sub : Submission
  sub = submission_by w node o st

  abbrev after : Run
  after = after_submission (Ok st) w node o

  -- what the step ended, if it ended the operation at once
  abbrev at_once : Option Completed
  at_once = ended_by (w.submitted ++ sub ∷ []) node st

  pub submission_onward : Onward top w after
  submission_onward =
      record {
        shards = λ m. same_shard_on (w.shards m);
        sessions = session_actor_on top w.sessions node (session_taken st.state) (next_onward top (w.sessions node) (session_taken st.state) count);
        waits = λ m y i. inl (y, i, refl, refl, refl);
        sent = λ e m. Contains-append_left w.sent st.sends e m;
        submitted = λ b m. Contains-append_left w.submitted (sub ∷ []) b m;
        transcript = λ c m. old_stays c w.transcript at_once m;
      }

  dependencies_go : (m : ℕ) (t : Bool) → (m == node) ≡ t → (k : WriterValue) → Contains (cond t (session_taken st.state) (w.sessions m)).dependencies k
      → Placed top after k
  dependencies_go m true e k i = placed_on submission_onward (live.dependencies node k (subst (λ l. Contains l k) depends i))
  dependencies_go m false e k i = placed_on submission_onward (live.dependencies m k i)

  home_go : (m : ℕ) (t : Bool) → (m == node) ≡ t → (cond t (session_taken st.state) (w.sessions m)).home < top.dcs
  home_go m true e = there
  home_go m false e = live.homes m

  current_go : OpenLive top after node (session_taken st.state) st.state.current → (m : ℕ) (t : Bool) → (m == node) ≡ t
      → OpenLive top after m (cond t (session_taken st.state) (w.sessions m)) (cond t (session_taken st.state) (w.sessions m)).current
  current_go f m true e = subst (λ z. OpenLive top after z (session_taken st.state) st.state.current) (sym (eqb-true m node e)) f
  current_go f m false e = open_on top m (w.sessions m) (w.sessions m).current submission_onward (live.current m)

  -- no operation of this session was open
  old_ends : (b : Submission) → StillOpen w b → (t : Bool) → (b.session == node) ≡ t → StillOpen after b
  old_ends b k false e =
      let is : after.sessions b.session ≡ w.sessions b.session = ap (λ t. cond t (session_taken st.state) (w.sessions b.session)) e in
      record { number = k.number ∙ ap (λ a. a.count) (sym is); current = ap (λ a. is_idle a.current) is ∙ k.current }
  old_ends b k true e = absurd (false≢true (sym k.current ∙ ap (λ i. is_idle (w.sessions i).current) (eqb-true b.session node e) ∙ idle))

  -- the new one is open, or it ended at once
  pub new_open : is_idle st.state.current ≡ false → StillOpen after sub
  new_open busy =
      record {
        number = ap (λ a. a.count) (sym (actor_same w.sessions node (session_taken st.state)));
        current = ap (λ a. is_idle a.current) (actor_same w.sessions node (session_taken st.state)) ∙ busy;
      }

  pub new_ended : (out : Outcome) → st.state.untaken ≡ Some (record { number = st.state.count; outcome = out }) → HasEnded after (txn_of sub)
  new_ended out told = go (submission_of (w.submitted ++ sub ∷ []) (txn_of sub)) refl
    where
      go : (s : Option Submission) → submission_of (w.submitted ++ sub ∷ []) (txn_of sub) ≡ s → HasEnded after (txn_of sub)
      go None e =
          absurd (false≢true (sym (any_false (λ (s : Submission). is_same_txn (txn_of s) (txn_of sub)) (w.submitted ++ sub ∷ [])
          (find_none (λ (s : Submission). is_same_txn (txn_of s) (txn_of sub)) (w.submitted ++ sub ∷ []) e) sub (Contains-push w.submitted sub))
          ∙ same_txn_self (txn_of sub)))
      go (Some s) e =
          let f : Finished = record { number = st.state.count; outcome = out } in
          let done : Completed = record { node = node; number = f.number; home = s.home; op = s.op; outcome = out } in
          let is : at_once ≡ Some done =
          ap (λ (z : Option Finished). option_and_then (completed_of (w.submitted ++ sub ∷ []) node) z) told
          ∙ ap (λ (z : Option Submission). option_map (λ s. record { node = node; number = f.number; home = s.home; op = s.op; outcome = f.outcome }) z) e in
          (done, ended_is_last done w.transcript at_once is, refl)

  depends_before : (k : WriterValue) → Contains sub.dependencies k → (c : Submission) × (Contains [] c ⊎ Contains w.submitted c) × (txn_of c ≡ k.txn)
  depends_before k m = let p = live.dependencies node k m in (p.submission, inr p.written.among, p.written.txn)

  pub opens_live : OpenLive top after node (session_taken st.state) st.state.current
      → ((e : Envelope) → Contains st.sends e → SaysLive top after e.from e.to (kind_of e.body))
      → ((batch : List Change) → o ≡ op.Batch batch → SubmissionLive top after sub batch) → StillOpen after sub ⊎ HasEnded after (txn_of sub)
      → Live top after
  opens_live f fine write new =
      let g = submission_onward in
      record {
        shards = λ m. shard_on g (live.shards m);
        sent = λ e m. elim (Contains-append_cases w.sent st.sends e m) [ inl i ↦ says_on top e.from e.to g (kind_of e.body) (live.sent e i) | inr i ↦ fine e i ];
        acted = acted_after top w after (Submit node o) st.sends refl refl g live below (λ j e. absurd (cc));
        submitted = λ b batch m e. elim (last_or_old b sub w.submitted m) [
          | inl i ↦ submission_on g (live.submitted b batch i e)
          | inr q ↦ subst (λ z. SubmissionLive top after z batch) (sym q) (write batch (ap (λ z. z.op) (sym q) ∙ e))
        ];
        earlier = earlier_more [] w.submitted sub live.earlier depends_before;
        dependencies = λ m. dependencies_go m (m == node) refl;
        homes = λ m. home_go m (m == node) refl;
        current = λ m. current_go f m (m == node) refl;
        waiting = live.waiting;
        rounds = λ m y i. round_on y.session y.number y.time g (live.rounds m y i);
        ends = λ b m. elim (last_or_old b sub w.submitted m) [
          | inl i ↦ elim (live.ends b i) [ inl k ↦ inl (old_ends b k (b.session == node) refl) | inr h ↦ inr (ended_on g h) ]
          | inr q ↦ subst (λ z. StillOpen after z ⊎ HasEnded after (txn_of z)) (sym q) new
        ];
      }

module _ (top : TopologyValue) (w : Run) (node n : ℕ) (some : 0 < top.shards) (live : Live top w)
    (idle : is_idle (w.sessions node).current ≡ true) (below : (k : ℕ) → Contains (handled w) k → k < length w.sent) where
  abbrev state : SessionState
  state = w.sessions node

  homed : state.home < top.dcs
  homed = live.homes node

  -- ## A batch

  module _ (batch : List Change) where
    abbrev began : SessionStep
    began = write_begun top node n state batch

    abbrev written : Run
    written = after_submission (Ok began) w node (op.Batch batch)

    abbrev this : Submission
    this = submission_by w node (op.Batch batch) began

    is_written : IsWritten written (next_txn node state) this batch
    is_written = record { among = Contains-push w.submitted this; txn = refl; op = refl }

    begin_fine : (e : Envelope) → Contains began.sends e → SaysLive top written e.from e.to (kind_of e.body)
    begin_fine e m = elim (contains_cases (begin_of top node n state batch) e (map (prepare_of top node n state batch) (cohorts_of top.shards batch)) m) [
      | inl q ↦ subst (λ z. SaysLive top written z.from z.to (kind_of z.body)) (sym q) tt
      | inr r ↦
          let q = mapped_from (prepare_of top node n state batch) (cohorts_of top.shards batch) e r in
          let lt = cohort_below top.shards batch q.0 q.1 in
          let aside : Aside top written (home_node top state q.0) (next_txn node state) =
          record {
            submission = this;
            batch = batch;
            written = is_written;
            cohort = subst (λ z. Contains (cohorts_of top.shards batch) z) (sym (number_of_shard top state.home q.0 lt)) q.1;
          } in
          let origin : AtOrigin top written (home_node top state q.0) (next_txn node state) =
          record { submission = this; batch = batch; written = is_written; here = dc_of_shard top state.home q.0 lt } in
          subst (λ z. SaysLive top written z.from z.to (kind_of z.body)) (sym q.2) (aside, origin)
    ]

    this_live : SubmissionLive top written this batch
    this_live =
        record {
          home = homed;
          begun = record { message = begin_of top node n state batch; among = Contains-append_right w.sent began.sends _ (contains_first (begin_of top node n state batch) (map (prepare_of top node n state batch) (cohorts_of top.shards batch))); by = refl; for = refl; is = refl };
          prepared = λ c m.
              record {
                message = prepare_of top node n state batch c;
                among = Contains-append_right w.sent began.sends _ (contains_rest (begin_of top node n state batch) _ (map (prepare_of top node n state batch) (cohorts_of top.shards batch)) (contains_map (prepare_of top node n state batch) (cohorts_of top.shards batch) c m));
                by = refl;
                for = refl;
                is = refl;
              };
          dependencies = λ k m. placed_on (submission_onward top w node (op.Batch batch) live idle below began refl refl homed) (live.dependencies node k m);
        }

    write_live : Live top written
    write_live =
        opens_live top w node (op.Batch batch) live idle below began refl refl homed tt begin_fine
        (λ other e. let same : batch ≡ other = cc in subst (λ z. SubmissionLive top written this z) same this_live)
        (inl (new_open top w node (op.Batch batch) live idle below began refl refl homed refl))

  -- ## A read

  module _ (read : Read) where
    abbrev starts : SessionStep
    starts = read_begun top node n state read

    abbrev asking : Run
    asking = after_submission (Ok starts) w node (op.Read read)

    abbrev asks : ℕ → Envelope
    asks s = envelope node (home_node top state s) n (body.Read (state.count + 1) (share_of top read s))

    ask_fine : (e : Envelope) → Contains starts.sends e → SaysLive top asking e.from e.to (kind_of e.body)
    ask_fine e m =
        let q = mapped_from asks (shards_asked top.shards read.keys) e m in
        let here = dc_of_shard top state.home q.0 (asked_below top.shards read.keys q.0 q.1) in
        subst (λ z. SaysLive top asking z.from z.to (kind_of z.body)) (sym q.2) (
          subst (λ a. state.count + 1 ≤ a.count) (sym (actor_same w.sessions node starts.state)) (le_refl (state.count + 1)),
          subst (λ d. d < top.dcs)
              (sym here) homed,
        )

    -- it asks some shard
    asks_one : (keys : List (List ℕ)) → read.keys ≡ keys → read_fault top.schema read ≡ None → (s : ℕ) × Contains (shards_asked top.shards read.keys) s
    asks_one [] e f = absurd (empty (ap (λ k. nat_lt 0 (length k)) e) f)
      where
        by : (b : Bool) → b ≡ false → (rest : Option Fault) → option_or (unless b EmptyRead) rest ≡ None → ⊥
        by false e rest q = absurd (cc)
        by true e rest q = absurd (false≢true (sym e))

        empty : nat_lt 0 (length read.keys) ≡ false → read_fault top.schema read ≡ None → ⊥
        empty e q = by (nat_lt 0 (length read.keys)) e _ q
    asks_one (key ∷ keys) e f =
        let s = shard_of_key top.shards key in (
          s,
          (asked_shard top.shards read.keys key some
              (subst (λ l. Contains l key) (sym e) (contains_first key keys))),
        )

    read_live : read_fault top.schema read ≡ None → Live top asking
    read_live f =
        let one = asks_one read.keys refl f in
        let open_it : OpenLive top asking node starts.state (FirstRound read []) =
        record {
          some = (
            home_node top state one.0,
            first_missing (asked_nodes top state read) (home_node top state one.0)
                (contains_map (home_node top state) (shards_asked top.shards read.keys) one.0 one.1),
          );
          asked = λ m i.
              let q = mapped_from (home_node top state) (shards_asked top.shards read.keys) m (missing_asked (asked_nodes top state read) [] m i) in
              subst (λ z. Sent asking.sent node z (OfRead (state.count + 1))) (sym q.2)
              (record {
                message = asks q.0;
                among = Contains-append_right w.sent starts.sends _ (contains_map asks (shards_asked top.shards read.keys) q.0 q.1);
                by = refl;
                for = refl;
                is = refl;
              });
        } in
        opens_live top w node (op.Read read) live idle below starts refl refl homed open_it ask_fine (λ batch e. absurd (cc))
        (inl (new_open top w node (op.Read read) live idle below starts refl refl homed refl))

  -- ## A move

  module _ (dc : ℕ) (there : dc < top.dcs) where
    abbrev move : Op
    move = op.Move dc

    abbrev leaves : SessionStep
    leaves = move_opened top node n state dc

    abbrev leaving : Run
    leaving = after_submission (Ok leaves) w node move

    abbrev that : Submission
    that = submission_by w node move leaves

    -- each dependency's coordinator is asked
    check_fine : (u : WriterValue) → Contains state.dependencies u → SaysLive top leaving node (shard_node top dc u.shard) (OfDepCheck u.txn (next_txn node state))
    check_fine u m =
        let p = live.dependencies node u m in
        let to = shard_node top dc u.shard in
        let lt : u.shard < top.shards = subst (λ z. z < top.shards) (sym p.coordinator) (coordinator_below top.shards p.batch some) in
        let here : dc_of top to ≡ dc = dc_of_shard top dc u.shard lt in
        let leads : Leads top leaving to u.txn =
        record {
          submission = p.submission;
          batch = p.batch;
          written = record { among = Contains-append_left w.submitted (that ∷ []) p.submission p.written.among; txn = p.written.txn; op = p.written.op };
          here = ap (shard_node top dc) p.coordinator ∙ ap (λ d. lead top d p.batch) (sym here);
        } in
        (leads, subst (λ d. d < top.dcs) (sym here) there, of_moving that (Contains-push w.submitted that) refl refl (sym here) u m refl)

    checks_fine : (e : Envelope) → Contains leaves.sends e → SaysLive top leaving e.from e.to (kind_of e.body)
    checks_fine e m =
        let q = mapped_from (check_of top node n state dc) state.dependencies e m in
        subst (λ z. SaysLive top leaving z.from z.to (kind_of z.body)) (sym q.2) (check_fine q.0 q.1)

    move_live : (k : WriterValue) (ks : List WriterValue) → state.dependencies ≡ k ∷ ks → Live top leaving
    move_live k ks all =
        let open_it : OpenLive top leaving node (session_taken leaves.state) (Moving dc state.dependencies 0) =
        record {
          there = there;
          some = (k, subst (λ l. Contains l k) (sym all) (contains_first k ks));
          asked = λ u m.
              record {
                message = check_of top node n state dc u;
                among = Contains-append_right w.sent leaves.sends _ (contains_map (check_of top node n state dc) state.dependencies u m);
                by = refl;
                for = refl;
                is = refl;
              };
        } in
        opens_live top w node move live idle below leaves refl refl homed open_it checks_fine (λ batch e. absurd (cc))
        (inl (new_open top w node move live idle below leaves refl refl homed refl))

    -- without dependencies it has ended
    moved_live : Live top (after_submission (Ok (moved_at_once n state dc)) w node move)
    moved_live =
        let st = moved_at_once n state dc in
        opens_live top w node move live idle below st refl refl there tt (λ e m. absurd (none_in_empty e m)) (λ batch e. absurd (cc))
        (inr (new_ended top w node move live idle below st refl refl there (outcome.Moved dc 0) refl))

  -- an accepted move is to a data centre that there is
  goes_there : (dc : ℕ) → move_fault top state.home dc ≡ None → dc < top.dcs
  goes_there dc e = go (nat_lt dc top.dcs) refl e
    where
      go : (b : Bool) → nat_lt dc top.dcs ≡ b → move_fault_if b (dc == state.home) ≡ None → dc < top.dcs
      go true q f = ltb-true dc top.dcs q
      go false q f = absurd (cc)

  -- ## Every operation

  pub begun_live : (o : Op) → plan_fault top state.home o ≡ None → Live top (after_submission (Ok (begun top node n state o)) w node o)
  begun_live =
      begun_cases top node n state (λ o st. plan_fault top state.home o ≡ None → Live top (after_submission (Ok st) w node o))
      (record {
        writes = λ batch f. write_live batch;
        reads = λ read f. read_live read f;
        moves = λ dc k ks all f. move_live dc (goes_there dc f) k ks all;
        at_once = λ dc none f. moved_live dc (goes_there dc f);
      })
