-- One actor's step at a message keeps what is under way.
use Rattle.std.proofs.Common.{◌≡◌, ℕ, ◌<◌, Bool, true, false, cond, List, [], ◌∷◌, ◌++◌, length, slice_get, Some, Ok, ◌⊎◌, inl, inr, refl, sym, ap, ap₂, ◌∙◌, subst, subst₂, eqb-true}
use Rattle.std.specs.Prelude.{◌==◌, filter_map, Contains}
use Rattle.std.proofs.lemmas.Option.{slice_get_within}
use Rattle.logical_time.specs.Stamps.{TxnValue, WriterValue}
use Rattle.messages.specs.declared.envelope.Envelope.{Envelope}
use Rattle.messages.specs.Topology.{TopologyValue}
use Rattle.messages.specs.Shard.{ShardState, ShardStep, WaitingRead}
use Rattle.messages.specs.Session.{SessionState, SessionStep, is_idle}
use Rattle.messages.specs.SessionEvents.{session_taken}
use Rattle.shard.specs.Sound.{IsWithin}
use Rattle.world.specs.Run.{Run, RunEvent, Submission, with_actor, ended_by, after_shard, after_session}
use Rattle.world.specs.Quiet.{number_delivered, handled}
use Rattle.world.proofs.lists.Members.{Contains-append_left, Contains-append_right, Contains-append_cases}
use Rattle.world.proofs.steps.Transcripts.{old_stays, ended_is_last}
use Rattle.world.proofs.safety.Facts.{txn_of}
use Rattle.world.proofs.keeping.ShardSteps.{actor_same}
use Rattle.world.proofs.envelopes.About.{Kind, OfReadAt, OfPartAt, kind_of, Sent}
use Rattle.world.proofs.under_way.Underway.{Placed, SessionOnward, Round, HasWait, Waiting, WaitStep, Onward, ShardLive, Acted, HasEnded, OpenLive, StillOpen, Live}
use Rattle.world.proofs.under_way.LiveGrow.{sent_in, placed_on, shard_on, round_on, ended_on, open_on, says_on, acted_on, submission_on, same_shard_on, same_session_on}
use Rattle.world.proofs.under_way.LiveSteps.{Here, Left}
use Rattle.world.proofs.under_way.LiveSessions.{Comes, Went}
use Rattle.world.proofs.envelopes.Stations.{handled_more, get_front}

shard_actor_on : (f : ℕ → ShardState) (node : ℕ) (b : ShardState) → IsWithin (f node) b → (m : ℕ) → IsWithin (f m) (with_actor f node b m)
shard_actor_on f node b g m = go (m == node) refl
  where
    go : (t : Bool) → (m == node) ≡ t → IsWithin (f m) (cond t b (f m))
    go true e = subst (λ k. IsWithin (f k) b) (sym (eqb-true m node e)) g
    go false e = same_shard_on (f m)

pub session_actor_on : (top : TopologyValue) (f : ℕ → SessionState) (node : ℕ) (b : SessionState) → SessionOnward top (f node) b → (m : ℕ)
    → SessionOnward top (f m) (with_actor f node b m)
session_actor_on top f node b g m = go (m == node) refl
  where
    go : (t : Bool) → (m == node) ≡ t → SessionOnward top (f m) (cond t b (f m))
    go true e = subst (λ k. SessionOnward top (f k) b) (sym (eqb-true m node e)) g
    go false e = same_session_on top (f m)

-- what an event delivers is in the network before it, and it left in the run after it what it leaves
abbrev pub Delivers : TopologyValue → Run → Run → RunEvent → Type 0
Delivers top w x ev =
    (j : ℕ) → number_delivered ev ≡ Some j → (e : Envelope) × (slice_get w.sent j ≡ Some e) × Acted top x e.from e.to (kind_of e.body)

-- what was handled in the run after an event
pub acted_after : (top : TopologyValue) (w x : Run) (ev : RunEvent) (sends : List Envelope) → x.events ≡ w.events ++ ev ∷ [] → x.sent ≡ w.sent ++ sends
    → Onward top w x → Live top w → ((k : ℕ) → Contains (handled w) k → k < length w.sent)
    → Delivers top w x ev → (k : ℕ) (e : Envelope) → Contains (handled x) k → slice_get x.sent k ≡ Some e → Acted top x e.from e.to (kind_of e.body)
acted_after top w x ev sends events sent g live below delivers k e m is =
    let here = subst (λ l. slice_get l k ≡ Some e) sent is in
    elim (handled_more w.events ev k (subst (λ l. Contains (filter_map number_delivered l) k) events m)) [
      | inl o ↦ acted_on top e.from e.to g (kind_of e.body) (live.acted k e o (get_front w.sent sends k e (below k o) here))
      | inr d ↦
          let r = delivers k d in
          let f : Some e ≡ Some r.0 = sym (get_front w.sent sends k e (slice_get_within w.sent k r.0 r.1) here) ∙ r.1 in
          let same : e ≡ r.0 = cc in
          subst (λ z. Acted top x z.from z.to (kind_of z.body)) (sym same) r.2
    ]

still_so : {w x : Run} {b : Submission} → x.sessions b.session ≡ w.sessions b.session → StillOpen w b → StillOpen x b
still_so e k = record { number = k.number ∙ ap (λ a. a.count) (sym e); current = ap (λ a. is_idle a.current) e ∙ k.current }

-- ## A shard's step

module _ (top : TopologyValue) (w : Run) (node from : ℕ) (kind : Kind) (st : ShardStep) (ev : RunEvent) (on : IsWithin (w.shards node) st.state)
    (ws : WaitStep node (w.shards node) st.state st.sends from kind) where
  abbrev x : Run
  x = after_shard (Ok st) w ev node

  pub shard_onward : Onward top w x
  shard_onward =
      record {
        shards = shard_actor_on w.shards node st.state on;
        sessions = λ m. same_session_on top (w.sessions m);
        waits = λ m y i. go m y (m == node) refl i;
        sent = λ e m. Contains-append_left w.sent st.sends e m;
        submitted = λ b m. m;
        transcript = λ c m. m;
      }
    where
      go : (m : ℕ) (y : WaitingRead) (t : Bool) → (m == node) ≡ t → Contains (w.shards m).waiting y
          → HasWait (cond t st.state (w.shards m)) y.session y.number y.time ⊎ Sent (w.sent ++ st.sends) m y.session (OfPartAt y.number y.time)
      go m y false e i = inl (y, i, refl, refl, refl)
      go m y true e i =
          elim (ws.kept y (subst (λ z. Contains (w.shards z).waiting y) (eqb-true m node e) i)) [
            | inl z ↦ inl z
            | inr z ↦ inr (subst (λ u. Sent (w.sent ++ st.sends) u y.session (OfPartAt y.number y.time)) (sym (eqb-true m node e))
                (sent_in (λ e m. Contains-append_right w.sent st.sends e m) z))
          ]

  pub shard_here : Here x node st
  shard_here = record { state = actor_same w.shards node st.state; sent = λ e m. Contains-append_right w.sent st.sends e m }

  module _ (live : Live top w) (rounds : (number time : ℕ) → kind ≡ OfReadAt number time → Round (w.sessions from) number time) (left : Left top x node st) where
    waiting_go : (m : ℕ) (t : Bool) → (m == node) ≡ t → Waiting (cond t st.state (w.shards m))
    waiting_go m true e = ws.waiting (live.waiting node)
    waiting_go m false e = live.waiting m

    round_go : (m : ℕ) (t : Bool) → (m == node) ≡ t → (y : WaitingRead) → Contains (cond t st.state (w.shards m)).waiting y
        → Round (w.sessions y.session) y.number y.time
    round_go m false e y i = live.rounds m y i
    round_go m true e y i =
        elim (ws.old y i) [
          | inl z ↦ subst (λ t. Round (w.sessions y.session) y.number t) z.4 (subst₂ (λ a b. Round (w.sessions a) b z.0.time) z.2 z.3 (live.rounds node z.0 z.1))
          | inr z ↦ subst (λ a. Round (w.sessions a) y.number y.time) (sym z.0) (rounds y.number y.time z.1)
        ]

    shard_go : (m : ℕ) (t : Bool) → (m == node) ≡ t → ShardLive top x m (cond t st.state (w.shards m))
    shard_go m true e = subst (λ z. ShardLive top x z st.state) (sym (eqb-true m node e)) left.live
    shard_go m false e = shard_on shard_onward (live.shards m)

    pub shard_step_live : ((k : ℕ) → Contains (handled w) k → k < length w.sent) → Delivers top w x ev → Live top x
    shard_step_live below delivers =
        let g = shard_onward in
        record {
          shards = λ m. shard_go m (m == node) refl;
          sent = λ e m. elim (Contains-append_cases w.sent st.sends e m) [ inl i ↦ says_on top e.from e.to g (kind_of e.body) (live.sent e i) | inr i ↦ left.sends e i ];
          acted = acted_after top w x ev st.sends refl refl g live below delivers;
          submitted = λ b batch m e. submission_on g (live.submitted b batch m e);
          earlier = live.earlier;
          dependencies = λ m k i. placed_on g (live.dependencies m k i);
          homes = live.homes;
          current = λ m. open_on top m (w.sessions m) (w.sessions m).current g (live.current m);
          waiting = λ m. waiting_go m (m == node) refl;
          rounds = λ m. round_go m (m == node) refl;
          ends = λ b m. elim (live.ends b m) [ inl o ↦ inl (still_so refl o) | inr h ↦ inr (ended_on g h) ];
        }

-- ## A session's step at a message

module _ (top : TopologyValue) (w : Run) (node : ℕ) (st : SessionStep) (ev : RunEvent) where
  abbrev xs : Run
  xs = after_session (Ok st) w ev node

  pub session_comes : Comes w xs node st
  session_comes =
      record {
        state = actor_same w.sessions node (session_taken st.state);
        sent = λ e m. Contains-append_left w.sent st.sends e m;
        news = λ e m. Contains-append_right w.sent st.sends e m;
        submitted = λ b m. m;
        transcript = λ c m. old_stays c w.transcript (ended_by w.submitted node st) m;
        ended = λ c e. ended_is_last c w.transcript (ended_by w.submitted node st) e;
      }

  module _ (live : Live top w) (went : Went top w xs node st) where
    session_onward : Onward top w xs
    session_onward =
        record {
          shards = λ m. same_shard_on (w.shards m);
          sessions = session_actor_on top w.sessions node (session_taken st.state) went.onward;
          waits = λ m y i. inl (y, i, refl, refl, refl);
          sent = λ e m. Contains-append_left w.sent st.sends e m;
          submitted = λ b m. m;
          transcript = λ c m. old_stays c w.transcript (ended_by w.submitted node st) m;
        }

    dependencies_go : (m : ℕ) (t : Bool) → (m == node) ≡ t → (k : WriterValue) → Contains (cond t (session_taken st.state) (w.sessions m)).dependencies k
        → Placed top xs k
    dependencies_go m true e k i = went.dependencies k i
    dependencies_go m false e k i = placed_on session_onward (live.dependencies m k i)

    home_go : (m : ℕ) (t : Bool) → (m == node) ≡ t → (cond t (session_taken st.state) (w.sessions m)).home < top.dcs
    home_go m true e = went.home
    home_go m false e = live.homes m

    current_go : (m : ℕ) (t : Bool) → (m == node) ≡ t → OpenLive top xs m (cond t (session_taken st.state) (w.sessions m)) (cond t (session_taken st.state) (w.sessions m)).current
    current_go m true e = subst (λ z. OpenLive top xs z (session_taken st.state) st.state.current) (sym (eqb-true m node e)) went.current
    current_go m false e = open_on top m (w.sessions m) (w.sessions m).current session_onward (live.current m)

    ends_go : (b : Submission) → StillOpen w b → (t : Bool) → (b.session == node) ≡ t → StillOpen xs b ⊎ HasEnded xs (txn_of b)
    ends_go b o false e = inl (still_so (ap (λ t. cond t (session_taken st.state) (w.sessions b.session)) e) o)
    ends_go b o true e =
        let here = eqb-true b.session node e in
        let is : xs.sessions b.session ≡ session_taken st.state = ap (λ t. cond t (session_taken st.state) (w.sessions b.session)) e in
        let count : b.number ≡ (w.sessions node).count = o.number ∙ ap (λ i. (w.sessions i).count) here in
        elim (went.ends) [
          | inl f ↦
              inl (record {
                number = count ∙ sym went.count ∙ ap (λ a. a.count) (sym is);
                current = ap (λ a. is_idle a.current) is ∙ f (ap (λ i. is_idle (w.sessions i).current) (sym here) ∙ o.current);
              })
          | inr h ↦ inr (subst (λ z. HasEnded xs z) (sym (ap₂ (λ i m. let z : TxnValue = record { session = i; number = m } in z) here count)) h)
        ]

    pub session_step_live : ((k : ℕ) → Contains (handled w) k → k < length w.sent) → Delivers top w xs ev → Live top xs
    session_step_live below delivers =
        let g = session_onward in
        record {
          shards = λ m. shard_on g (live.shards m);
          sent = λ e m. elim (Contains-append_cases w.sent st.sends e m) [ inl i ↦ says_on top e.from e.to g (kind_of e.body) (live.sent e i) | inr i ↦ went.sends e i ];
          acted = acted_after top w xs ev st.sends refl refl g live below delivers;
          submitted = λ b batch m e. submission_on g (live.submitted b batch m e);
          earlier = live.earlier;
          dependencies = λ m. dependencies_go m (m == node) refl;
          homes = λ m. home_go m (m == node) refl;
          current = λ m. current_go m (m == node) refl;
          waiting = live.waiting;
          rounds = λ m y i. round_on y.session y.number y.time g (live.rounds m y i);
          ends = λ b m. elim (live.ends b m) [ inl o ↦ ends_go b o (b.session == node) refl | inr h ↦ inr (ended_on g h) ];
        }
