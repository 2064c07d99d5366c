-- What holds of one shard at each of its events, and when it sent what.
use Rattle.std.proofs.Common.{◌≡◌, ◌∙◌, sym, ap, subst, refl, ℕ, ◌⊎◌, max, le_refl, append-nil, eq-eqb, inl, inr, ◌&&◌, true, List, [], ◌∷◌, ◌++◌, Option, Some, None, Result, Ok, Err, arith}
use Rattle.std.specs.Prelude.{◌==◌, Contains}
use Rattle.std.proofs.lemmas.List.Elements.{Contains-append_cases, Contains-push}
use Rattle.std.proofs.lemmas.List.{append_assoc}
use Rattle.logical_time.specs.declared.fault.Fault.{Fault}
use Rattle.store.proofs.lists.Lists.{none_in_empty, given}
use Rattle.messages.specs.declared.envelope.Envelope.{Envelope}
use Rattle.messages.specs.Topology.{TopologyValue}
use Rattle.messages.specs.Actors.{envelope_of}
use Rattle.messages.specs.Clock.{ticked, on_clock}
use Rattle.messages.specs.Shard.{ShardState, ShardStep, WaitingRead}
use Rattle.messages.specs.Reads.{is_waiting}
use Rattle.messages.specs.ShardEvents.{handled, collected}
use Rattle.messages.specs.Honest.{IsHonest}
use Rattle.messages.specs.declared.event.ActorEvent.{ActorEvent}
use Rattle.messages.specs.declared.event.ActorEvent.TheVariants.{Submit, Handle, Collect}
use Rattle.shard.specs.Events.{ShardRun, fresh_shard, after_step, after_event, shard_continued, shard_run, envelopes_handled}
use Rattle.shard.specs.Sound.{Grows, Holds, Able, IsWithin}
use Rattle.shard.proofs.lists.Lists.{any_has, both_hold}
use Rattle.shard.proofs.knowing.Grow.{grows_then, grows_beside}
use Rattle.shard.proofs.knowing.Updates.{aside}
use Rattle.shard.proofs.steps.Within.{within_then, handled_within}
use Rattle.shard.proofs.steps.Handles.{handled_able, ticked_above, event_step, by_step, AreAmong, run_push, continued_within, continued_stay}
use Rattle.shard.proofs.knowing.Asked.{IsWaitingFor, IsTaken, IsAsked, seen_after, seen_at, asked_so, begins_or_all}

-- ## A shard so far

-- all that it knows holds, and its events lead to it
pub record Ran (top : TopologyValue) (me : ℕ) (last : ShardState) (es : List Envelope) (w : ShardRun) : Type 0 where
  pub holds : Holds top me last (seen_after top me es w.events) w.state
  pub replayed : shard_run top me w.events ≡ w

module _ (top : TopologyValue) (me : ℕ) (last : ShardState) (es : List Envelope) (honest : IsHonest last es) where
  -- each step keeps what is known, and what it sends is sound
  event_able : (w : ShardRun) (x : ActorEvent) (st : ShardStep) → event_step top me w.state x ≡ Ok st → IsWithin st.state last
      → AreAmong (envelopes_handled (after_step (Ok st) w x)) es → Ran top me last es w
      → Able top me last (seen_at top me es w.events x) w.state st
  event_able w (Submit o) st ok within among ran = absurd (cc)
  event_able w (Handle e) st ok within among ran = go (ticked w.state.clock e.time) refl ok
    where
      h : Holds top me last (seen_at top me es w.events (Handle e)) w.state
      h =
          asked_so (λ session number read. ⊥) (λ session number read. IsAsked (Handle e) session number read)
          (λ session number time read. IsWaitingFor top me w.events session number time read)
          (λ session number time read.
          IsWaitingFor top me w.events session number time read ⊎ IsTaken top me w.events (Handle e) session number time read)
          w.state (λ x has k. inl k) ran.holds

      by : (n : ℕ) → ticked w.state.clock e.time ≡ Some n → handled top me n w.state e.from e.body ≡ st
          → Able top me last (seen_at top me es w.events (Handle e)) w.state st
      by n is same =
          let above = ticked_above w.state.clock e.time n is in
          let has = among e (given envelope_of (w.events ++ Handle e ∷ []) (Handle e) e (Contains-push w.events (Handle e)) refl) in
          let inside : IsWithin (handled top me n w.state e.from e.body).state last = subst (λ (z : ShardStep). IsWithin z.state last) (sym same) within in
          subst (Able top me last (seen_at top me es w.events (Handle e)) w.state) same
          (handled_able top me last (seen_at top me es w.events (Handle e)) w.state n e honest above.0 above.1 has
          (within_then (handled_within top me n w.state e.from e.body) inside) h
          (λ number read asks. record { asked = e; event = refl; from = refl; body = asks })
          (λ number time read asks new. inr (record {
            asked = e;
            event = refl;
            from = refl;
            body = asks;
            taken = ap (λ (z : ShardRun). is_waiting z.state e.from number) ran.replayed ∙ new;
          }))
          e.body refl inside)

      go : (o : Option ℕ) → ticked w.state.clock e.time ≡ o → on_clock o (λ n. handled top me n w.state e.from e.body) ≡ Ok st
          → Able top me last (seen_at top me es w.events (Handle e)) w.state st
      go None is q = absurd (cc)
      go (Some n) is q = by n is (cc)
  event_able w (Collect time) st ok within among ran = go (ticked w.state.clock w.state.clock) refl ok
    where
      h : Holds top me last (seen_at top me es w.events (Collect time)) w.state
      h =
          asked_so (λ session number read. ⊥) (λ session number read. IsAsked (Collect time) session number read)
          (λ session number at read. IsWaitingFor top me w.events session number at read)
          (λ session number at read.
          IsWaitingFor top me w.events session number at read ⊎ IsTaken top me w.events (Collect time) session number at read)
          w.state (λ x has k. inl k) ran.holds

      by : (n : ℕ) → ticked w.state.clock w.state.clock ≡ Some n → collected n w.state time ≡ st
          → Able top me last (seen_at top me es w.events (Collect time)) w.state st
      by n is same =
          let above = (ticked_above w.state.clock w.state.clock n is).0 in
          subst (Able top me last (seen_at top me es w.events (Collect time)) w.state) same
          (record {
            onward = aside w.state n (max w.state.low time) w.state.early w.state.votes w.state.askers (omega (arith, above)) (omega arith) h;
            sends = tt;
          })

      go : (o : Option ℕ) → ticked w.state.clock w.state.clock ≡ o → on_clock o (λ n. collected n w.state time) ≡ Ok st
          → Able top me last (seen_at top me es w.events (Collect time)) w.state st
      go None is q = absurd (cc)
      go (Some n) is q = by n is (cc)

  -- after the step
  replayed_on : (w : ShardRun) (x : ActorEvent) (st : ShardStep) → event_step top me w.state x ≡ Ok st → shard_run top me w.events ≡ w
      → shard_run top me (w.events ++ x ∷ []) ≡ after_step (Ok st) w x
  replayed_on w x st ok replayed =
      run_push top me fresh_shard w.events x ∙ ap (λ (r : ShardRun). after_event top me r x) replayed ∙ by_step top me w x ∙ ap (λ o. after_step o w x) ok

  event_ran : (w : ShardRun) (x : ActorEvent) (st : ShardStep) → event_step top me w.state x ≡ Ok st → IsWithin st.state last
      → AreAmong (envelopes_handled (after_step (Ok st) w x)) es → Ran top me last es w → Ran top me last es (after_step (Ok st) w x)
  event_ran w x st ok within among ran =
      let able = event_able w x st ok within among ran in
      record {
        holds =
            asked_so (λ session number read. IsAsked x session number read) (λ session number read. ⊥)
            (λ session number time read.
            IsWaitingFor top me w.events session number time read ⊎ IsTaken top me w.events x session number time read)
            (λ session number time read. IsWaitingFor top me (w.events ++ x ∷ []) session number time read)
            st.state (λ y has asked. still y has asked) able.onward.holds;
        replayed = now;
      }
    where
      now : shard_run top me (w.events ++ x ∷ []) ≡ after_step (Ok st) w x
      now = replayed_on w x st ok ran.replayed

      here : (y : WaitingRead) → Contains st.state.waiting y → (from : ℕ) → from ≡ y.session → is_waiting (shard_run top me (w.events ++ x ∷ [])).state from y.number ≡ true
      here y has from same =
          ap (λ (r : ShardRun). is_waiting r.state from y.number) now
          ∙ any_has (λ (z : WaitingRead). (z.session == from) && (z.number == y.number)) st.state.waiting y has
          (both_hold (y.session == from) (y.number == y.number) (eq-eqb y.session from (sym same)) (eq-eqb y.number y.number refl))

      still : (y : WaitingRead) → Contains st.state.waiting y
          → IsWaitingFor top me w.events y.session y.number y.time y.read ⊎ IsTaken top me w.events x y.session y.number y.time y.read
          → IsWaitingFor top me (w.events ++ x ∷ []) y.session y.number y.time y.read
      still y has (inl k) =
          let split : w.events ++ x ∷ [] ≡ k.before ++ Handle k.asked ∷ (k.after ++ x ∷ []) =
          ap (λ l. l ++ x ∷ []) k.split ∙ append_assoc k.before (Handle k.asked ∷ k.after) (x ∷ []) in
          record {
            asked = k.asked;
            before = k.before;
            after = k.after ++ x ∷ [];
            split = split;
            from = k.from;
            body = k.body;
            taken = k.taken;
            waits = λ xs ys e. elim (begins_or_all xs ys k.after x e) [
              | inl r ↦ k.waits xs r.0 r.1
              | inr all ↦
                  ap (λ l. is_waiting (shard_run top me (k.before ++ Handle k.asked ∷ l)).state k.asked.from y.number) all
                  ∙ ap (λ l. is_waiting (shard_run top me l).state k.asked.from y.number) (sym split) ∙ here y has k.asked.from k.from
            ];
          }
      still y has (inr k) =
          record {
            asked = k.asked;
            before = w.events;
            after = [];
            split = ap (λ z. w.events ++ z ∷ []) k.event;
            from = k.from;
            body = k.body;
            taken = k.taken;
            waits = λ xs ys e.
                ap (λ l. is_waiting (shard_run top me (w.events ++ Handle k.asked ∷ l)).state k.asked.from y.number) (nothing xs ys e)
                ∙ ap (λ z. is_waiting (shard_run top me (w.events ++ z ∷ [])).state k.asked.from y.number) (sym k.event) ∙ here y has k.asked.from k.from;
          }
        where
          nothing : (xs ys : List ActorEvent) → [] ≡ xs ++ ys → xs ≡ []
          nothing [] ys e = refl
          nothing (u ∷ us) ys e = absurd (cc)

  -- ## Lists of events

  -- what is known after further events, and that what is complete stays so
  pub record RanOn (w v : ShardRun) : Type 0 where
    pub ran : Ran top me last es v
    pub grows : Grows es w.state v.state

  pub continued_ran : (xs : List ActorEvent) (w : ShardRun) → IsWithin (shard_continued top me w xs).state last
      → AreAmong (envelopes_handled (shard_continued top me w xs)) es → Ran top me last es w → RanOn w (shard_continued top me w xs)
  continued_ran [] w within among ran = record { ran = ran; grows = grows_beside w.state w.state (le_refl w.state.clock) (le_refl w.state.low) refl refl }
  continued_ran (x ∷ xs) w within among ran =
      let q = by_step top me w x in
      subst (λ (v : ShardRun). RanOn w (shard_continued top me v xs)) (sym q)
      (go (event_step top me w.state x) refl (subst (λ (v : ShardRun). IsWithin (shard_continued top me v xs).state last) q within)
      (subst (λ (v : ShardRun). AreAmong (envelopes_handled (shard_continued top me v xs)) es) q among) (λ v. continued_ran xs v))
    where
      go : (r : Result ShardStep Fault) → event_step top me w.state x ≡ r → IsWithin (shard_continued top me (after_step r w x) xs).state last
          → AreAmong (envelopes_handled (shard_continued top me (after_step r w x) xs)) es
          → ((v : ShardRun) → IsWithin (shard_continued top me v xs).state last → AreAmong (envelopes_handled (shard_continued top me v xs)) es → Ran top me last es v
          → RanOn v (shard_continued top me v xs))
          → RanOn w (shard_continued top me (after_step r w x) xs)
      go (Err f) ok inside known more = more w inside known ran
      go (Ok st) ok inside known more =
          let v = after_step (Ok st) w x in
          let first : IsWithin st.state last = within_then (continued_within top me xs v) inside in
          let few : AreAmong (envelopes_handled v) es = λ e has. known e (continued_stay top me xs v e has) in
          let rest = more v inside known (event_ran w x st ok first few ran) in
          record { ran = rest.ran; grows = grows_then (event_able w x st ok first few ran).onward.grows rest.grows }

  -- the event at which the shard sent this, and what it knew then
  pub record SentAt (w : ShardRun) (e : Envelope) : Type 0 where
    pub before : ShardRun
    pub event : ActorEvent
    pub rest : List ActorEvent
    pub split : w.events ≡ before.events ++ event ∷ rest
    pub step : ShardStep
    pub now : shard_run top me (before.events ++ event ∷ []) ≡ after_step (Ok step) before event
    pub sends : Contains step.sends e
    pub ran : Ran top me last es before
    pub able : Able top me last (seen_at top me es before.events event) before.state step
    pub grows : Grows es step.state w.state

  events_on : (xs : List ActorEvent) (w : ShardRun) → (more : List ActorEvent) × ((shard_continued top me w xs).events ≡ w.events ++ more)
  events_on [] w = ([], sym (append-nil w.events))
  events_on (x ∷ xs) w =
      subst (λ (v : ShardRun). (more : List ActorEvent) × ((shard_continued top me v xs).events ≡ w.events ++ more)) (sym (by_step top me w x))
      (go (event_step top me w.state x) (λ v. events_on xs v))
    where
      go : (r : Result ShardStep Fault) → ((v : ShardRun) → (more : List ActorEvent) × ((shard_continued top me v xs).events ≡ v.events ++ more))
          → (more : List ActorEvent) × ((shard_continued top me (after_step r w x) xs).events ≡ w.events ++ more)
      go (Err f) more = more w
      go (Ok st) more =
          let r = more (after_step (Ok st) w x) in (x ∷ r.0, r.1 ∙ append_assoc w.events (x ∷ []) r.0)

  pub sent_at : (xs : List ActorEvent) (w : ShardRun) → IsWithin (shard_continued top me w xs).state last
      → AreAmong (envelopes_handled (shard_continued top me w xs)) es → Ran top me last es w → (e : Envelope) → Contains (shard_continued top me w xs).sent e
      → Contains w.sent e ⊎ SentAt (shard_continued top me w xs) e
  sent_at [] w within among ran e has = inl has
  sent_at (x ∷ xs) w within among ran e has =
      let q = by_step top me w x in
      subst (λ (v : ShardRun). Contains w.sent e ⊎ SentAt (shard_continued top me v xs) e) (sym q)
      (go (event_step top me w.state x) refl (subst (λ (v : ShardRun). IsWithin (shard_continued top me v xs).state last) q within)
      (subst (λ (v : ShardRun). AreAmong (envelopes_handled (shard_continued top me v xs)) es) q among)
      (subst (λ (v : ShardRun). Contains (shard_continued top me v xs).sent e) q has) (λ v. sent_at xs v))
    where
      go : (r : Result ShardStep Fault) → event_step top me w.state x ≡ r → IsWithin (shard_continued top me (after_step r w x) xs).state last
          → AreAmong (envelopes_handled (shard_continued top me (after_step r w x) xs)) es → Contains (shard_continued top me (after_step r w x) xs).sent e
          → ((v : ShardRun) → IsWithin (shard_continued top me v xs).state last → AreAmong (envelopes_handled (shard_continued top me v xs)) es → Ran top me last es v
          → (e : Envelope) → Contains (shard_continued top me v xs).sent e → Contains v.sent e ⊎ SentAt (shard_continued top me v xs) e)
          → Contains w.sent e ⊎ SentAt (shard_continued top me (after_step r w x) xs) e
      go (Err f) ok inside known there more = more w inside known ran e there
      go (Ok st) ok inside known there more =
          let v = after_step (Ok st) w x in
          let first : IsWithin st.state last = within_then (continued_within top me xs v) inside in
          let few : AreAmong (envelopes_handled v) es = λ e has. known e (continued_stay top me xs v e has) in
          let after = event_ran w x st ok first few ran in
          elim (more v inside known after e there) [
            | inl old ↦ elim (Contains-append_cases w.sent st.sends e old) [
              | inl earlier ↦ inl earlier
              | inr now ↦ inr (record {
                before = w;
                event = x;
                rest = (events_on xs v).0;
                split = (events_on xs v).1 ∙ append_assoc w.events (x ∷ []) (events_on xs v).0;
                step = st;
                now = replayed_on w x st ok ran.replayed;
                sends = now;
                ran = ran;
                able = event_able w x st ok first few ran;
                grows = (continued_ran xs v inside known after).grows;
              })
            ]
            | inr later ↦ inr later
          ]

-- nothing is known before the first event
pub fresh_ran : (top : TopologyValue) (me : ℕ) (last : ShardState) (es : List Envelope) → Ran top me last es fresh_shard
fresh_ran top me last es =
    record {
      holds = record {
        sides = λ t led followed. elim led [
          | inl b ↦ none_in_empty b.0 b.1
          | inr (inl d) ↦ none_in_empty d.0 d.1
          | inr (inr r) ↦ none_in_empty r.0 r.1
        ];
        one = λ r s has also same. absurd (none_in_empty r has);
        readied = λ r has begun. absurd (none_in_empty r has);
        own = λ p has role. absurd (none_in_empty p has);
        origin = λ x has. absurd (none_in_empty x has);
        prepared = λ p has. absurd (none_in_empty p has);
        ballots = λ b has. absurd (none_in_empty b has);
        kept_parts = λ k has. absurd (none_in_empty k has);
        kept_ballots = λ r has. absurd (none_in_empty r has);
        stamped_apart = tt;
        met = λ x has. absurd (none_in_empty x has);
        decided_so = λ x has. absurd (none_in_empty x has);
        waiting = λ x has. absurd (none_in_empty x has);
      };
      replayed = refl;
    }
