-- A shard of a run is what its own journal makes of a shard.
use Rattle.std.proofs.Common.{append-nil, ◌≡◌, ◌∙◌, ℕ, ◌<◌, Bool, true, false, cond, List, [], ◌∷◌, ◌++◌, Option, Some, None, Ok, Err, Result, refl, sym, ap, subst}
use Rattle.std.specs.Prelude.{◌==◌, if◌then◌else◌, filter, filter_map, slice_get, option_and_then}
use Rattle.std.specs.List.{cons_option}
use Rattle.std.proofs.lemmas.List.{append_assoc}
use Rattle.logical_time.specs.declared.fault.Fault.{Fault}
use Rattle.messages.specs.declared.envelope.Envelope.{Envelope}
use Rattle.messages.specs.declared.event.ActorEvent.{ActorEvent}
use Rattle.messages.specs.declared.event.ActorEvent.TheVariants.{Submit as SubmitHere, Handle, Collect as CollectHere}
use Rattle.messages.specs.Topology.{TopologyValue, is_shard}
use Rattle.messages.specs.Shard.{ShardState, ShardStep}
use Rattle.messages.specs.ShardEvents.{shard_handle, shard_collect}
use Rattle.messages.specs.Actors.{ActorState, OfShard, OfSession, opening_actor, ActorStep, of_shard, envelope_of, Replayed, replay}
use Rattle.messages.specs.Honest.{IsHonest}
use Rattle.shard.specs.Events.{ShardRun, after_step, shard_continued, fresh_shard, shard_run, envelopes_handled}
use Rattle.shard.proofs.right.OneShard.{shard_is_right}
use Rattle.world.specs.Quiet.{number_delivered}
use Rattle.world.specs.Met.{envelopes_to}
use Rattle.world.specs.Run.{Run, RunEvent, Submit, Deliver, Collect, run}
use Rattle.world.specs.Journals.{event_at, journal_in}
use Rattle.world.specs.Each.{IsRightInRun}
use Rattle.world.proofs.steps.Moves.{shard_took}
use Rattle.world.proofs.replays.Replays.{Unfolds, unfolds}
use Rattle.world.proofs.replays.OwnJournals.{run_journals}

-- the shard so far takes these events, and comes to what they lead to
pub record Comes (top : TopologyValue) (me : ℕ) (w : ShardRun) (xs : List ActorEvent) (r : Replayed) : Type 0 where
  pub state : ShardState
  pub same : r.state ≡ OfShard state
  pub is : shard_continued top me w xs ≡ record { events = w.events ++ xs; state = state; sent = w.sent ++ r.sent }

-- a shard's step that isn't refused
took : (o : Result ShardStep Fault) (s : ActorStep) → of_shard o ≡ Some s → (st : ShardStep) × (o ≡ Ok st) × (s ≡ shard_took st)
took (Err fault) s q = absurd (cc)
took (Ok st) s q = let is : shard_took st ≡ s = cc in (st, refl, sym is)

module _ (top : TopologyValue) (me : ℕ) where
  -- one event, and then the rest
  stepped : (w : ShardRun) (x : ActorEvent) (xs : List ActorEvent) (r : Replayed) (u : Unfolds top me (OfShard w.state) x xs r) (o : Result ShardStep Fault)
      → of_shard o ≡ Some u.step
      → ((v : ShardRun) → replay top me (OfShard v.state) xs ≡ Some u.rest → Comes top me v xs u.rest)
      → (k : ShardState) × (r.state ≡ OfShard k)
      × (shard_continued top me (after_step o w x) xs ≡ record { events = w.events ++ x ∷ xs; state = k; sent = w.sent ++ r.sent })
  stepped w x xs r u o takes ih =
      let t = took o u.step takes in
      let st = t.0 in
      let v : ShardRun = record { events = w.events ++ x ∷ []; state = st.state; sent = w.sent ++ st.sends } in
      let c = ih v (ap (λ (z : ActorStep). replay top me z.state xs) (sym t.2) ∙ u.replays) in
      let sent : st.sends ++ u.rest.sent ≡ r.sent = ap (λ (z : ActorStep). z.sends ++ u.rest.sent) (sym t.2) ∙ ap (λ (z : Replayed). z.sent) u.whole in (
        c.state,
        sym (ap (λ (z : Replayed). z.state) u.whole) ∙ c.same,
        ap (λ z. shard_continued top me (after_step z w x) xs) t.1 ∙ c.is
            ∙ ap (λ l. record { events = l; state = c.state; sent = (w.sent ++ st.sends) ++ u.rest.sent }) (append_assoc w.events (x ∷ []) xs)
            ∙ ap (λ l. record { events = w.events ++ x ∷ xs; state = c.state; sent = l }) (append_assoc w.sent st.sends u.rest.sent ∙ ap (λ l. w.sent ++ l) sent),
      )

  shard_replayed : (xs : List ActorEvent) (w : ShardRun) (r : Replayed) → replay top me (OfShard w.state) xs ≡ Some r → Comes top me w xs r
  shard_replayed [] w r e =
      let is : record { state = OfShard w.state; sent = []; finished = [] } ≡ r = cc in
      record {
        state = w.state;
        same = sym (ap (λ (z : Replayed). z.state) is);
        is = ap (λ l. record { events = l; state = w.state; sent = w.sent }) (sym (append-nil w.events))
            ∙ ap (λ l. record { events = w.events ++ []; state = w.state; sent = l }) (sym (append-nil w.sent))
            ∙ ap (λ (z : Replayed). record { events = w.events ++ []; state = w.state; sent = w.sent ++ z.sent }) is;
      }
  shard_replayed (SubmitHere o ∷ xs) w r e =
      let u = unfolds top me (OfShard w.state) (SubmitHere o) xs r e in
      let none = u.takes in
      absurd (cc)
  shard_replayed (Handle f ∷ xs) w r e =
      let u = unfolds top me (OfShard w.state) (Handle f) xs r e in
      let s = stepped w (Handle f) xs r u (shard_handle top me w.state f) u.takes (λ v q. shard_replayed xs v u.rest q) in
      record { state = s.0; same = s.1; is = s.2 }
  shard_replayed (CollectHere time ∷ xs) w r e =
      let u = unfolds top me (OfShard w.state) (CollectHere time) xs r e in
      let s = stepped w (CollectHere time) xs r u (shard_collect w.state time) u.takes (λ v q. shard_replayed xs v u.rest q) in
      record { state = s.0; same = s.1; is = s.2 }

-- ## The envelopes of a journal

module _ (w : Run) (node : ℕ) where
  delivered_go : (o : Option Envelope) (ys : List ActorEvent) (zs : List Envelope) → filter_map envelope_of ys ≡ filter (λ (e : Envelope). e.to == node) zs
      → filter_map envelope_of (cons_option (option_and_then (λ (e : Envelope). if e.to == node then Some (Handle e) else None) o) ys)
      ≡ filter (λ (e : Envelope). e.to == node) (cons_option o zs)
  delivered_go None ys zs ih = ih
  delivered_go (Some e) ys zs ih = by (e.to == node)
    where
      by : (b : Bool) → filter_map envelope_of (cons_option (cond b (Some (Handle e)) None) ys)
          ≡ cond b (e ∷ filter (λ (e : Envelope). e.to == node) zs) (filter (λ (e : Envelope). e.to == node) zs)
      by true = ap (λ l. e ∷ l) ih
      by false = ih

  -- an event without an envelope
  other_go : (b : Bool) (x : ActorEvent) (ys : List ActorEvent) → envelope_of x ≡ None
      → filter_map envelope_of (cons_option (cond b (Some x) None) ys) ≡ filter_map envelope_of ys
  other_go true x ys none = ap (λ o. cons_option o (filter_map envelope_of ys)) none
  other_go false x ys none = refl

  same_envelopes : (xs : List RunEvent) → filter_map envelope_of (filter_map (event_at w node) xs)
      ≡ filter (λ (e : Envelope). e.to == node) (filter_map (λ k. slice_get w.sent k) (filter_map number_delivered xs))
  same_envelopes [] = refl
  same_envelopes (Submit session o ∷ xs) = other_go (session == node) (SubmitHere o) (filter_map (event_at w node) xs) refl ∙ same_envelopes xs
  same_envelopes (Deliver k ∷ xs) =
      delivered_go (slice_get w.sent k) (filter_map (event_at w node) xs) (filter_map (λ k. slice_get w.sent k) (filter_map number_delivered xs)) (same_envelopes xs)
  same_envelopes (Collect shard time ∷ xs) = other_go (shard == node) (CollectHere time) (filter_map (event_at w node) xs) refl ∙ same_envelopes xs

pub each_is_right : (top : TopologyValue) (events : List RunEvent) (node : ℕ) → 0 < top.shards → is_shard top node ≡ true
    → IsHonest ((run top events).shards node) (envelopes_to (run top events) node) → IsRightInRun top (run top events) node
each_is_right top events node some here honest =
    let w = run top events in
    let journal = journal_in w node in
    let shard_in : (a : ShardState) (b : ActorState) → (if is_shard top node then OfShard a else b) ≡ OfShard a =
    λ a b. ap (λ t. if t then OfShard a else b) here in
    let opening : opening_actor top node ≡ OfShard fresh_shard.state = shard_in fresh_shard.state _ in
    let whole = ap (λ a. replay top node a journal) (sym opening) ∙ (run_journals top events some).each node in
    let c = shard_replayed top node journal fresh_shard _ whole in
    let at : OfShard (w.shards node) ≡ OfShard c.state = sym (shard_in (w.shards node) (OfSession (w.sessions node))) ∙ c.same in
    let state : (shard_run top node journal).state ≡ w.shards node = ap (λ (z : ShardRun). z.state) c.is ∙ sym (state_is (w.shards node) c.state at) in
    let handled : envelopes_handled (shard_run top node journal) ≡ envelopes_to w node = ap envelopes_handled c.is ∙ same_envelopes w node w.events in
    record {
      state = state;
      sent = ap (λ (z : ShardRun). z.sent) c.is;
      right =
          shard_is_right top node journal
          (subst (λ es. IsHonest (shard_run top node journal).state es) (sym handled) (subst (λ a. IsHonest a (envelopes_to w node)) (sym state) honest));
    }
  where
    state_is : (a b : ShardState) → OfShard a ≡ OfShard b → a ≡ b
    state_is a b q = cc
