-- What a session kept of a first round stays with the read over a run: its effective time isn't below the earliest valid
-- time of any row that was kept.
use Rattle.std.proofs.Common.{◌≡◌, ◌∙◌, ℕ, ◌<◌, ap, sym, refl, subst, arith, Bool, true, false, cond, ◌&&◌, nat_le, nat_lt, inl, inr, List, [], ◌∷◌, ◌++◌, Option, Some, None, slice_get, eqb-true, eq-eqb}
use Rattle.std.specs.Prelude.{◌==◌, option_map, option_and_then, Contains}
use Rattle.std.proofs.lemmas.Bool.{false≢true}
use Rattle.std.proofs.lemmas.Bool.Decides.{nat_tests}
use Rattle.messages.specs.declared.body.Body.{Body}
use Rattle.messages.specs.declared.envelope.Envelope.{Envelope}
use Rattle.messages.specs.Topology.{TopologyValue, is_shard, is_session, shard_count, node_count}
use Rattle.messages.specs.Session.{SessionState, SessionStep, Open, Idle, FirstRound, HeardNow, Finished, is_idle}
use Rattle.messages.specs.Submitting.{begun}
use Rattle.messages.specs.Rounds.{asked_nodes, is_missing}
use Rattle.messages.specs.SessionEvents.{heard, session_taken}
use Rattle.world.specs.Run.{Run, RunEvent, Submit, Deliver, Submission, Completed, opening, submission_of, completed_of, ended_by, submission_by, with_actor, with_session, step, continued, run}
use Rattle.world.specs.Fresh.{IsKept}
use Rattle.world.proofs.steps.EventCases.{event_cases}
use Rattle.world.proofs.fresh.HeardFirst.{EndsTimely, Heard, StillHeard, part_now_heard, message_still, begun_still}
use Rattle.world.proofs.steps.Transcripts.{ended_or_old}
use Rattle.world.proofs.growing.Prefixes.{number_later, IsAccepted, not_both, splits, accepted}

-- ## Completed operations

-- what a step ended is what the session tells
pub record IsFinished (node : ℕ) (st : SessionStep) (c : Completed) : Type 0 where
  pub finished : Finished
  pub told : st.state.untaken ≡ Some finished
  pub node_is : c.node ≡ node
  pub number : c.number ≡ finished.number
  pub outcome : c.outcome ≡ finished.outcome

abbrev completion : ℕ → Finished → Submission → Completed
completion node f s = record { node = node; number = f.number; home = s.home; op = s.op; outcome = f.outcome }

finished_go : (node : ℕ) (st : SessionStep) (c : Completed) (f : Finished) → st.state.untaken ≡ Some f → (o : Option Submission)
    → option_map (completion node f) o ≡ Some c → IsFinished node st c
finished_go node st c f told None e = absurd (cc)
finished_go node st c f told (Some s) e =
    let same : completion node f s ≡ c = cc in
    record {
      finished = f;
      told = told;
      node_is = sym (ap (λ (z : Completed). z.node) same);
      number = sym (ap (λ (z : Completed). z.number) same);
      outcome = sym (ap (λ (z : Completed). z.outcome) same);
    }

pub ended_is_finished : (submitted : List Submission) (node : ℕ) (st : SessionStep) (c : Completed) → ended_by submitted node st ≡ Some c
    → IsFinished node st c
ended_is_finished submitted node st c e = go st.state.untaken refl e
  where
    go : (o : Option Finished) → st.state.untaken ≡ o → option_and_then (completed_of submitted node) o ≡ Some c → IsFinished node st c
    go None q h = absurd (cc)
    go (Some f) q h = finished_go node st c f q (submission_of submitted (record { session = node; number = f.number })) h

-- ## One actor changes

pub changed_actor : {X : Type 0} (P : X → Type 0) (f : ℕ → X) (node : ℕ) (b : X) (m : ℕ) → (m ≡ node → P b) → ((m == node) ≡ false → P (f m))
    → P (with_actor f node b m)
changed_actor {X} P f node b m new old = go (m == node) refl
  where
    go : (t : Bool) → (m == node) ≡ t → P (cond t b (f m))
    go true e = new (eqb-true m node e)
    go false e = old e

-- a node that is no session has nothing open
abbrev pub OnlySessions : TopologyValue → Run → Type 0
OnlySessions top w = (node : ℕ) → is_session top node ≡ false → (w.sessions node).current ≡ Idle

only_go : (top : TopologyValue) (w : Run) (node : ℕ) (b : SessionState) → OnlySessions top w → is_session top node ≡ true
    → (m : ℕ) → is_session top m ≡ false → (with_actor w.sessions node b m).current ≡ Idle
only_go top w node b k is m no_session =
    changed_actor (λ (a : SessionState). a.current ≡ Idle) w.sessions node b m
    (λ same. absurd (false≢true (sym no_session ∙ ap (λ (n : ℕ). is_session top n) same ∙ is))) (λ other. k m no_session)

only_step : (top : TopologyValue) (w : Run) (x : RunEvent) → OnlySessions top w → OnlySessions top (step top w x)
only_step top w x k =
    event_cases top w x (OnlySessions top)
    (record {
      nothing = k;
      handled = λ j e n is sent to. k;
      heard = λ j e n is sent other to. only_go top w e.to _ k to;
      begun = λ node o n is to. only_go top w node _ k to;
      collected = λ node time n is. k;
    })

only_later : (top : TopologyValue) (w : Run) (xs : List RunEvent) → OnlySessions top w → OnlySessions top (continued top w xs)
only_later top w [] k = k
only_later top w (x ∷ xs) k = only_later top (step top w x) xs (only_step top w x k)

pub only_sessions : (top : TopologyValue) (events : List RunEvent) → OnlySessions top (run top events)
only_sessions top events = only_later top (opening top) events (λ node no_session. refl)

-- ## What was heard, over a run

pub record RunHeard (w : Run) (session number : ℕ) (h : HeardNow) : Type 0 where
  pub heard : Heard (w.sessions session) number h
  pub ended : (c : Completed) → Contains w.transcript c → c.node ≡ session → c.number ≡ number → EndsTimely c.outcome h

-- a session's step, where these operations are accepted by then
session_after : (w : Run) (x : RunEvent) (node : ℕ) (submitted : List Submission) (st : SessionStep) (session number : ℕ) (h : HeardNow)
    → ((c : Completed) → Contains w.transcript c → c.node ≡ session → c.number ≡ number → EndsTimely c.outcome h)
    → (session ≡ node → StillHeard (w.sessions node) st.state number h) → ((session == node) ≡ false → Heard (w.sessions session) number h)
    → RunHeard (with_session w x node submitted st) session number h
session_after w x node submitted st session number h old own other =
    record {
      heard = changed_actor (λ (a : SessionState). Heard a number h) w.sessions node (session_taken st.state) session (λ same. (own same).kept) other;
      ended = λ c m p q. elim (ended_or_old c w.transcript (ended_by submitted node st) m) [
        | inl o ↦ old c o p q
        | inr new ↦ newly c new p q
      ];
    }
  where
    newly : (c : Completed) → ended_by submitted node st ≡ Some c → c.node ≡ session → c.number ≡ number → EndsTimely c.outcome h
    newly c m p q =
        let f = ended_is_finished submitted node st c m in
        subst (λ o. EndsTimely o h) (sym f.outcome) ((own (sym p ∙ f.node_is)).ended f.finished f.told (sym f.number ∙ q))

heard_step : (top : TopologyValue) (w : Run) (x : RunEvent) (session number : ℕ) (h : HeardNow) → RunHeard w session number h
    → RunHeard (step top w x) session number h
heard_step top w x session number h k =
    event_cases top w x (λ v. RunHeard v session number h)
    (record {
      nothing = k;
      handled = λ j e n is sent to. record { heard = k.heard; ended = k.ended };
      heard =
          λ j e n is sent other to.
          session_after w x e.to w.submitted _ session number h k.ended
          (λ same. message_still top e.to n (w.sessions e.to) e.from e.body number h (subst (λ z. Heard (w.sessions z) number h) same k.heard))
          (λ apart. k.heard);
      begun =
          λ node o n is to.
          session_after w (Submit node o) node (w.submitted ++ submission_by w node o (begun top node n (w.sessions node) o) ∷ []) (begun top node n (w.sessions node) o) session number h k.ended
          (λ same. begun_still top node n (w.sessions node) o number h (subst (λ z. Heard (w.sessions z) number h) same k.heard))
          (λ apart. k.heard);
      collected = λ node time n is. record { heard = k.heard; ended = k.ended };
    })

pub heard_later : (top : TopologyValue) (w : Run) (xs : List RunEvent) (session number : ℕ) (h : HeardNow) → RunHeard w session number h
    → RunHeard (continued top w xs) session number h
heard_later top w [] session number h k = k
heard_later top w (x ∷ xs) session number h k = heard_later top (step top w x) xs session number h (heard_step top w x session number h k)

-- ## The delivery

no_both : (top : TopologyValue) (node : ℕ) → is_shard top node ≡ true → is_session top node ≡ true → ⊥
no_both top node is also = by_count (shard_count top) (node_count top) node is also
  where
    by_count : (m n k : ℕ) → nat_lt k m ≡ true → (nat_le m k && nat_lt k n) ≡ true → ⊥
    by_count m n k p q = grind (arith, nat_tests)

not_open : (top : TopologyValue) (w : Run) (node : ℕ) (o : Open) → OnlySessions top w → (w.sessions node).current ≡ o → is_idle o ≡ false
    → is_shard top node ≡ true → ⊥
not_open top w node o only e busy is = by (is_session top node) refl
  where
    by : (b : Bool) → is_session top node ≡ b → ⊥
    by true to = no_both top node is to
    by false to = false≢true (sym busy ∙ ap is_idle (sym e ∙ only node to))

-- the session kept the message at this delivery
pub kept_at : (top : TopologyValue) (w : Run) (session number k : ℕ) (e : Envelope) (kept : IsKept top w session number k e)
    → OnlySessions top (run top kept.before)
    → ((run top kept.before).sessions e.to).untaken ≡ None
    → ((c : Completed) → Contains (run top kept.before).transcript c → is_idle ((run top kept.before).sessions c.node).current ≡ false
    → c.number < ((run top kept.before).sessions c.node).count)
    → ((f : Envelope) → slice_get (run top kept.before).sent k ≡ Some f → f ≡ e)
    → IsAccepted (run top kept.before) (Deliver k) (step top (run top kept.before) (Deliver k))
    → RunHeard (step top (run top kept.before) (Deliver k)) session number (record { from = e.from; rows = kept.rows })
kept_at top w session number k e kept only taken closed same =
    event_cases top u (Deliver k) (λ z. IsAccepted u (Deliver k) z → RunHeard z session number h)
    (record {
      nothing = λ now. absurd (not_both u (Deliver k) now);
      handled =
          λ j f n is sent to now.
          let one = same f (ap (slice_get u.sent) (delivered j is) ∙ sent) in
          absurd
          (not_open top u session (FirstRound kept.read kept.heard) only kept.first_round refl (ap (is_shard top) (sym (addressed f one)) ∙ to));
      heard =
          λ j f n is sent other to now.
          let one = same f (ap (slice_get u.sent) (delivered j is) ∙ sent) in
          session_after u (Deliver k) f.to u.submitted (heard top f.to n (u.sessions f.to) f.from f.body) session number h old
          (λ here. subst (λ (z : Envelope). StillHeard (u.sessions z.to) (heard top z.to n (u.sessions z.to) z.from z.body).state number h) (sym one)
          (own n))
          (λ apart. absurd (false≢true (sym apart ∙ eq-eqb session f.to (sym (addressed f one)))));
      begun = λ node o n is to now. absurd (cc);
      collected = λ node time n is now. absurd (cc);
    })
  where
    u : Run
    u = run top kept.before

    h : HeardNow
    h = record { from = e.from; rows = kept.rows }

    delivered : (j : ℕ) → Deliver k ≡ Deliver j → k ≡ j
    delivered j is = cc

    addressed : (f : Envelope) → f ≡ e → f.to ≡ session
    addressed f one = ap (λ (z : Envelope). z.to) one ∙ kept.address

    old : (c : Completed) → Contains u.transcript c → c.node ≡ session → c.number ≡ number → EndsTimely c.outcome h
    old c m p q =
        let lt = closed c m (ap (λ z. is_idle (u.sessions z).current) p ∙ ap is_idle kept.first_round) in
        let count : (u.sessions c.node).count ≡ number = ap (λ z. (u.sessions z).count) p ∙ kept.count in
        absurd (omega arith)

    own : (n : ℕ) → StillHeard (u.sessions e.to) (heard top e.to n (u.sessions e.to) e.from e.body).state number h
    own n =
        subst (λ (b : Body). StillHeard (u.sessions e.to) (heard top e.to n (u.sessions e.to) e.from b).state number h) (sym kept.body)
        (part_now_heard top e.to n (u.sessions e.to) e.from number kept.rows kept.read kept.heard taken
        (subst (λ z. (u.sessions z).count ≡ number) (sym kept.address) kept.count)
        (subst (λ z. (u.sessions z).current ≡ FirstRound kept.read kept.heard) (sym kept.address) kept.first_round)
        (subst (λ z. is_missing (asked_nodes top (u.sessions z) kept.read) kept.heard e.from ≡ true) (sym kept.address) kept.missing))

-- the message of this number is this one wherever it was sent
pub one_message : (top : TopologyValue) (w : Run) → run top w.events ≡ w → (before : List RunEvent) (x : RunEvent) (after : List RunEvent)
    → w.events ≡ before ++ x ∷ after
    → (k : ℕ) (e f : Envelope) → slice_get w.sent k ≡ Some e → slice_get (run top before).sent k ≡ Some f → f ≡ e
one_message top w replayed before x after split k e f sent is =
    let whole : continued top (run top before) (x ∷ after) ≡ w = splits top w replayed before x after split in
    let later : slice_get w.sent k ≡ Some f =
    ap (λ (z : Run). slice_get z.sent k) (sym whole) ∙ number_later top (run top before) (x ∷ after) k f is in
    let both : Some f ≡ Some e = sym later ∙ sent in
    cc

-- a message that was delivered had been sent
pub delivered_sent : (top : TopologyValue) (v : Run) (k : ℕ) → IsAccepted v (Deliver k) (step top v (Deliver k))
    → (e : Envelope) × (slice_get v.sent k ≡ Some e)
delivered_sent top v k now =
    event_cases top v (Deliver k) (λ z. IsAccepted v (Deliver k) z → (e : Envelope) × (slice_get v.sent k ≡ Some e))
    (record {
      nothing = λ no. absurd (not_both v (Deliver k) no);
      handled = λ j e n is sent to here. (e, same j is e sent);
      heard = λ j e n is sent other to here. (e, same j is e sent);
      begun = λ node o n is to here. absurd (cc);
      collected = λ node time n is here. absurd (cc);
    })
    now
  where
    same : (j : ℕ) → Deliver k ≡ Deliver j → (e : Envelope) → slice_get v.sent j ≡ Some e → slice_get v.sent k ≡ Some e
    same j is e sent = let one : k ≡ j = cc in ap (slice_get v.sent) one ∙ sent

-- a read that kept a shard's answer is answered at a time not below the earliest valid time of each of its rows
pub kept_heard : (top : TopologyValue) (w : Run) → run top w.events ≡ w
    → (session number k : ℕ) (e : Envelope) (kept : IsKept top w session number k e)
    → ((run top kept.before).sessions e.to).untaken ≡ None
    → ((c : Completed) → Contains (run top kept.before).transcript c → is_idle ((run top kept.before).sessions c.node).current ≡ false
    → c.number < ((run top kept.before).sessions c.node).count)
    → RunHeard w session number (record { from = e.from; rows = kept.rows })
kept_heard top w replayed session number k e kept taken closed =
    let now = kept_at top w session number k e kept (only_sessions top kept.before) taken closed
    (λ f is. one_message top w replayed kept.before (Deliver k) kept.after kept.delivery k e f kept.message is)
    (accepted top w replayed kept.before (Deliver k) kept.after kept.delivery) in
    subst (λ (z : Run). RunHeard z session number (record { from = e.from; rows = kept.rows }))
    (splits top w replayed kept.before (Deliver k) kept.after kept.delivery)
    (heard_later top (step top (run top kept.before) (Deliver k)) kept.after session number (record { from = e.from; rows = kept.rows }) now)
