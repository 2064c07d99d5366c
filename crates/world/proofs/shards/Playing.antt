-- Each shard of a run is what some list of events makes of a shard: it handled what was sent to it, and sent its answers.
use Rattle.std.proofs.Common.{◌≡◌, ◌∙◌, ℕ, Bool, true, false, cond, List, [], ◌∷◌, ◌++◌, Some, Ok, inl, inr, sym, ap, subst, eqb-true, eq-eqb, refl}
use Rattle.std.specs.Prelude.{◌==◌, Contains}
use Rattle.std.proofs.lemmas.Bool.{false≢true}
use Rattle.std.proofs.lemmas.List.Elements.{Contains-push_cases, Contains-append_left, Contains-append_right}
use Rattle.store.proofs.lists.Lists.{given, given_only}
use Rattle.messages.specs.declared.body.Body.{Body}
use Rattle.messages.specs.declared.body.Body.TheVariants as body
use Rattle.messages.specs.declared.envelope.Envelope.{Envelope}
use Rattle.messages.specs.declared.event.ActorEvent.{ActorEvent}
use Rattle.messages.specs.Actors.{envelope_of}
use Rattle.messages.specs.Topology.{TopologyValue}
use Rattle.messages.specs.Shard.{ShardState, ShardStep}
use Rattle.shard.specs.Events.{ShardRun, fresh_shard, shard_run, after_step, envelopes_handled}
use Rattle.shard.proofs.steps.Handles.{event_step, by_step, run_push}
use Rattle.world.specs.Run.{Run, RunEvent, after_shard}
use Rattle.world.proofs.lists.Members.{Contains-append_cases}
use Rattle.world.proofs.safety.Invariant.{IsAnswer, Played}
use Rattle.world.proofs.steps.OwnSends.{AreOwn}
use Rattle.world.proofs.steps.SessionSends.{IsOfSession, AreOfSession}

no_answer : (b : Body) → IsOfSession b → IsAnswer b → ⊥
no_answer (body.PartNow number rows) of is = of
no_answer (body.PartAt number time answer) of is = of
no_answer other of is = is

-- another actor's step: the shard stays, and no answer of its is added
beside : (top : TopologyValue) (w x : Run) (node : ℕ) → x.shards node ≡ w.shards node → (sends : List Envelope) → x.sent ≡ w.sent ++ sends
    → ((e : Envelope) → Contains sends e → e.from ≡ node → IsAnswer e.body → ⊥) → Played top w node → Played top x node
beside top w x node same sends more none p =
    record {
      events = p.events;
      state = p.state ∙ sym same;
      handled = λ e has. let h = p.handled e has in (subst (λ l. Contains l e) (sym more) (Contains-append_left w.sent sends e h.0), h.1);
      answers = λ e m from is. elim (Contains-append_cases w.sent sends e (subst (λ l. Contains l e) more m)) [
        | inl old ↦ p.answers e old from is
        | inr new ↦ absurd (none e new from is)
      ];
    }

-- a session's step
pub session_played : (top : TopologyValue) (w x : Run) (me : ℕ) (sends : List Envelope) → ((node : ℕ) → x.shards node ≡ w.shards node) → x.sent ≡ w.sent ++ sends
    → AreOfSession me sends → ((node : ℕ) → Played top w node) → (node : ℕ) → Played top x node
session_played top w x me sends same more of k node =
    beside top w x node (same node) sends more (λ e m from is. no_answer e.body (of e m).1 is) (k node)

-- the shard's own step
own_played : (top : TopologyValue) (w x : Run) (node : ℕ) (ev : ActorEvent) (st : ShardStep) → event_step top node (w.shards node) ev ≡ Ok st
    → ((e : Envelope) → envelope_of ev ≡ Some e → Contains w.sent e × (e.to ≡ node)) → x.shards node ≡ st.state → x.sent ≡ w.sent ++ st.sends
    → Played top w node → Played top x node
own_played top w x node ev st takes came now more p =
    let r = shard_run top node p.events in
    let is : shard_run top node (p.events ++ ev ∷ []) ≡ after_step (Ok st) r ev =
    run_push top node fresh_shard p.events ev ∙ by_step top node r ev
    ∙ ap (λ o. after_step o r ev) (ap (λ (a : ShardState). event_step top node a ev) p.state ∙ takes) in
    record {
      events = p.events ++ ev ∷ [];
      state = ap (λ (z : ShardRun). z.state) is ∙ sym now;
      handled = λ e has. handled e (subst (λ (z : ShardRun). Contains (envelopes_handled z) e) is has);
      answers = λ e m from is_answer. subst (λ (z : ShardRun). Contains z.sent e) (sym is)
          (elim (Contains-append_cases w.sent st.sends e (subst (λ l. Contains l e) more m)) [
            | inl old ↦ Contains-append_left r.sent st.sends e (p.answers e old from is_answer)
            | inr new ↦ Contains-append_right r.sent st.sends e new
          ]);
    }
  where
    later : (e : Envelope) → Contains w.sent e × (e.to ≡ node) → Contains x.sent e × (e.to ≡ node)
    later e h = (subst (λ l. Contains l e) (sym more) (Contains-append_left w.sent st.sends e h.0), h.1)

    handled : (e : Envelope) → Contains (envelopes_handled (after_step (Ok st) (shard_run top node p.events) ev)) e → Contains x.sent e × (e.to ≡ node)
    handled e has =
        let r = shard_run top node p.events in
        let g = given_only envelope_of (r.events ++ ev ∷ []) e has in
        later e (elim (Contains-push_cases r.events ev g.0 g.1) [
          | inl old ↦ p.handled e (given envelope_of r.events g.0 e old g.2)
          | inr new ↦ came e (ap envelope_of new ∙ g.2)
        ])

-- a shard's step
pub shard_played : (top : TopologyValue) (w : Run) (node n : ℕ) (x : RunEvent) (ev : ActorEvent) (st : ShardStep) → event_step top node (w.shards node) ev ≡ Ok st
    → ((e : Envelope) → envelope_of ev ≡ Some e → Contains w.sent e × (e.to ≡ node)) → AreOwn node n st.sends → ((m : ℕ) → Played top w m)
    → (m : ℕ) → Played top (after_shard (Ok st) w x node) m
shard_played top w node n x ev st takes came own k m = by (m == node) refl
  where
    by : (b : Bool) → (m == node) ≡ b → Played top (after_shard (Ok st) w x node) m
    by true q =
        subst (λ i. Played top (after_shard (Ok st) w x node) i) (sym (eqb-true m node q))
        (own_played top w (after_shard (Ok st) w x node) node ev st takes came (ap (λ t. cond t st.state (w.shards node)) (eq-eqb node node refl)) refl (k node))
    by false q =
        beside top w (after_shard (Ok st) w x node) m (ap (λ t. cond t st.state (w.shards m)) q) st.sends refl
        (λ e i from is. false≢true (sym q ∙ eq-eqb m node (sym from ∙ (own e i).0))) (k m)
