-- No clock and no time of a message is above the number of a run's events.
use Rattle.std.proofs.Common.{◌≡◌, ℕ, ◌+◌, ◌≤◌, max, Bool, true, false, cond, List, [], ◌∷◌, ◌++◌, length, Some, None, Ok, inl, inr, refl, arith}
use Rattle.std.specs.Prelude.{◌^◌, nat_lt, Contains}
use Rattle.std.proofs.lemmas.List.{length-append}
use Rattle.messages.specs.declared.envelope.Envelope.{Envelope}
use Rattle.messages.specs.Topology.{TopologyValue}
use Rattle.messages.specs.Clock.{ticked}
use Rattle.messages.specs.Shard.{ShardState, ShardStep}
use Rattle.messages.specs.Session.{SessionState, SessionStep}
use Rattle.messages.specs.SessionEvents.{heard, session_taken}
use Rattle.messages.specs.ShardEvents.{handled, collected}
use Rattle.messages.specs.Submitting.{begun}
use Rattle.store.proofs.lists.Lists.{none_in_empty}
use Rattle.world.specs.Run.{Run, RunEvent, Submit, Submission, submission_by, opening, after_shard, with_session, step, continued, run}
use Rattle.world.specs.Drains.{ClocksCountEvents}
use Rattle.world.proofs.lists.Members.{Contains-append_cases, contains_get}
use Rattle.world.proofs.steps.EventCases.{timed_cases}
use Rattle.world.proofs.fresh.HeardRuns.{changed_actor}
use Rattle.world.proofs.steps.OwnSends.{AreOwn, none, handled_own}
use Rattle.world.proofs.steps.Ticks.{heard_own, begun_own}

-- a clock after one more event
next : (c t n m : ℕ) → ticked c t ≡ Some n → c ≤ m → t ≤ m → n ≤ m + 1
next c t n m e p q = by (nat_lt (max c t + 1) (2 ^ 48)) e
  where
    by : (b : Bool) → cond b (Some (max c t + 1)) None ≡ Some n → n ≤ m + 1
    by true f = let is : max c t + 1 ≡ n = cc in omega arith
    by false f = absurd (cc)

module _ (w : Run) (x : RunEvent) (k : ClocksCountEvents w) where
  longer : length (w.events ++ x ∷ []) ≡ length w.events + 1
  longer = length-append w.events (x ∷ [])

  -- what was sent before, and what is sent at this clock
  sent : (me n : ℕ) (es : List Envelope) → n ≤ length w.events + 1 → AreOwn me n es → (e : Envelope) → Contains (w.sent ++ es) e
      → e.time ≤ length (w.events ++ x ∷ [])
  sent me n es le own e has = elim (Contains-append_cases w.sent es e has) [
    | inl old ↦ (let before = k.messages e old in omega (arith, longer))
    | inr new ↦ (let now = (own e new).1 in omega (arith, longer))
  ]

  shard_counts : (node n : ℕ) (st : ShardStep) → n ≤ length w.events + 1 → st.state.clock ≡ n → AreOwn node n st.sends
      → ClocksCountEvents (after_shard (Ok st) w x node)
  shard_counts node n st le is own =
      record {
        shards =
            λ m.
            changed_actor (λ (a : ShardState). a.clock ≤ length (w.events ++ x ∷ [])) w.shards node st.state m (λ same. omega (arith, longer))
            (λ other. let before = k.shards m in omega (arith, longer));
        sessions = λ m. let before = k.sessions m in omega (arith, longer);
        messages = sent node n st.sends le own;
      }

  session_counts : (node n : ℕ) (submitted : List Submission) (st : SessionStep) → n ≤ length w.events + 1 → st.state.clock ≡ n → AreOwn node n st.sends
      → ClocksCountEvents (with_session w x node submitted st)
  session_counts node n submitted st le is own =
      record {
        shards = λ m. let before = k.shards m in omega (arith, longer);
        sessions =
            λ m.
            changed_actor (λ (a : SessionState). a.clock ≤ length (w.events ++ x ∷ [])) w.sessions node (session_taken st.state) m (λ same. omega (arith, longer))
            (λ other. let before = k.sessions m in omega (arith, longer));
        messages = sent node n st.sends le own;
      }

step_counts : (top : TopologyValue) (w : Run) (x : RunEvent) → ClocksCountEvents w → ClocksCountEvents (step top w x)
step_counts top w x k =
    timed_cases top w x ClocksCountEvents
    (record {
      nothing = k;
      handled =
          λ j e n is there to ticks.
          let own = handled_own top e.to n (w.shards e.to) e.from e.body in
          let time = k.messages e (contains_get w.sent j e there) in
          shard_counts w x k e.to n (handled top e.to n (w.shards e.to) e.from e.body)
          (next (w.shards e.to).clock e.time n (length w.events) ticks (k.shards e.to) time) own.0 own.1;
      heard =
          λ j e n is there other to ticks.
          let own = heard_own top e.to n (w.sessions e.to) e.from e.body in
          let time = k.messages e (contains_get w.sent j e there) in
          session_counts w x k e.to n w.submitted (heard top e.to n (w.sessions e.to) e.from e.body)
          (next (w.sessions e.to).clock e.time n (length w.events) ticks (k.sessions e.to) time) own.0 own.1;
      begun =
          λ node o n is to ticks.
          let st = begun top node n (w.sessions node) o in
          let own = begun_own top node n (w.sessions node) o in
          session_counts w (Submit node o) k node n (w.submitted ++ submission_by w node o st ∷ []) st
          (next (w.sessions node).clock (w.sessions node).clock n (length w.events) ticks (k.sessions node) (k.sessions node)) own.0 own.1;
      collected =
          λ node time n is ticks.
          shard_counts w x k node n (collected n (w.shards node) time)
          (next (w.shards node).clock (w.shards node).clock n (length w.events) ticks (k.shards node) (k.shards node)) refl none;
    })

counts_later : (top : TopologyValue) (w : Run) (xs : List RunEvent) → ClocksCountEvents w → ClocksCountEvents (continued top w xs)
counts_later top w [] k = k
counts_later top w (x ∷ xs) k = counts_later top (step top w x) xs (step_counts top w x k)

pub clocks_count_events : (top : TopologyValue) (events : List RunEvent) → ClocksCountEvents (run top events)
clocks_count_events top events =
    counts_later top (opening top) events
    (record { shards = λ node. omega arith; sessions = λ node. omega arith; messages = λ e has. absurd (none_in_empty e has) })
