-- A shard that does the machine's step in a run of honest envelopes sends what is right, and goes on to the run's state.
use Rattle.std.proofs.Common.{◌≡◌, sym, subst, refl, ℕ, List, [], ◌∷◌, ◌++◌, Result, Ok, Err}
use Rattle.std.specs.Prelude.{Contains}
use Rattle.std.proofs.lemmas.List.Elements.{Contains-append_left, Contains-append_right}
use Rattle.logical_time.specs.declared.fault.Fault.{Fault}
use Rattle.store.specs.Keeps.{AreApart}
use Rattle.messages.specs.declared.envelope.Envelope.{Envelope}
use Rattle.messages.specs.declared.event.ActorEvent.{ActorEvent}
use Rattle.messages.specs.declared.event.ActorEvent.TheVariants.{Handle}
use Rattle.messages.specs.Topology.{TopologyValue}
use Rattle.messages.specs.Shard.{ShardStep}
use Rattle.messages.specs.ShardEvents.{shard_handle}
use Rattle.messages.specs.Honest.{IsHonest}
use Rattle.shard.specs.declared.kept.ShardKept.{ShardKept}
use Rattle.shard.specs.Events.{ShardRun, fresh_shard, after_step, after_event, shard_continued, shard_run, envelopes_handled}
use Rattle.shard.specs.Kept.{Represents, IsStepOf}
use Rattle.shard.specs.Right.{IsRightShard, IsRightlySent, SendsRight}
use Rattle.shard.specs.Sound.{IsWithin}
use Rattle.shard.proofs.steps.Handles.{AreAmong, event_step, by_step, run_push, continued_within, continued_stay}
use Rattle.shard.proofs.right.OneShard.{shard_is_right}
use Rattle.shard.proofs.right.Run.{continued_ran, fresh_ran}

-- ## Runs

-- what comes after an event comes after the run so far
continued_through : (top : TopologyValue) (me : ℕ) (w : ShardRun) (xs : List ActorEvent) (y : ActorEvent) (ys : List ActorEvent)
    → shard_continued top me w (xs ++ y ∷ ys) ≡ shard_continued top me (shard_continued top me w (xs ++ y ∷ [])) ys
continued_through top me w [] y ys = refl
continued_through top me w (x ∷ xs) y ys = continued_through top me (after_event top me w x) xs y ys

-- what was sent stays so
sent_stays : (r : Result ShardStep Fault) (w : ShardRun) (x : ActorEvent) → AreAmong w.sent (after_step r w x).sent
sent_stays (Err f) w x e has = has
sent_stays (Ok st) w x e has = Contains-append_left w.sent st.sends e has

continued_sent : (top : TopologyValue) (me : ℕ) (xs : List ActorEvent) (w : ShardRun) → AreAmong w.sent (shard_continued top me w xs).sent
continued_sent top me [] w e has = has
continued_sent top me (x ∷ xs) w e has =
    continued_sent top me xs (after_event top me w x) e
    (subst (λ (v : ShardRun). Contains v.sent e) (sym (by_step top me w x)) (sent_stays (event_step top me w.state x) w x e has))

-- of all that a right shard sent holds what is right
each_right : (top : TopologyValue) (me : ℕ) (w : ShardRun) → IsRightShard top me w → (e : Envelope) → Contains w.sent e → IsRightlySent top me w e
each_right top me w right e has = record {
  now = λ number rows is. right.now e number rows has is;
  then = λ number time rows is. right.then e number time rows has is;
  collected = λ number time is. right.collected e number time has is;
}

-- ## An envelope among others

module _ (top : TopologyValue) (me : ℕ) (before after : List ActorEvent) (x : Envelope) where
  -- the run before the event, after it, and after all events
  abbrev earlier : ShardRun
  earlier = shard_run top me before

  abbrev next : ShardRun
  next = shard_run top me (before ++ Handle x ∷ [])

  abbrev last : ShardRun
  last = shard_run top me (before ++ Handle x ∷ after)

  through : last ≡ shard_continued top me next after
  through = continued_through top me fresh_shard before (Handle x) after

  stepped : next ≡ after_step (shard_handle top me earlier.state x) earlier (Handle x)
  stepped = run_push top me fresh_shard before (Handle x)

  -- what the run applied by then is apart
  apart : IsHonest last.state (envelopes_handled last) → AreApart next.state.applied
  apart honest =
      (continued_ran top me last.state (envelopes_handled last) honest (before ++ Handle x ∷ []) fresh_shard
      (subst (λ (w : ShardRun). IsWithin next.state w.state) (sym through) (continued_within top me after next))
      (subst (λ (w : ShardRun). AreAmong (envelopes_handled next) (envelopes_handled w)) (sym through) (continued_stay top me after next))
      (fresh_ran top me last.state (envelopes_handled last))).ran.holds.stamped_apart

  -- what a step of the run leads to
  pub record IsOnward (l : ShardKept) (old new : List Envelope) : Type 0 where
    pub state : Represents top me l next.state
    pub sends : SendsRight top me last old new

  onward : (r : Result ShardStep Fault) (l : ShardKept) (old new : List Envelope) → IsHonest last.state (envelopes_handled last)
      → next ≡ after_step r earlier (Handle x) → IsStepOf top me r l old new → IsOnward l old new
  onward (Err f) l old new honest is step = absurd step
  onward (Ok st) l old new honest is step =
      let s = step (subst (λ (w : ShardRun). AreApart w.state.applied) is (apart honest)) in
      let right = shard_is_right top me (before ++ Handle x ∷ after) honest in
      record {
        state = subst (λ (w : ShardRun). Represents top me l w.state) (sym is) s.state;
        sends = record {
          sends = st.sends;
          added = s.sends;
          each = λ e has. each_right top me last right e
              (subst (λ (w : ShardRun). Contains w.sent e) (sym through) (continued_sent top me after next e
              (subst (λ (w : ShardRun). Contains w.sent e) (sym is) (Contains-append_right earlier.sent st.sends e has))));
        };
      }

  pub handles_right : (l : ShardKept) (old new : List Envelope) → IsHonest last.state (envelopes_handled last)
      → IsStepOf top me (shard_handle top me earlier.state x) l old new → IsOnward l old new
  handles_right l old new honest step = onward (shard_handle top me earlier.state x) l old new honest stepped step
