-- What the delivery of one message makes of a run: it meets a spent clock, or the message is handled, and the run is nearer
-- to its end.
use Rattle.std.proofs.Common.{◌≡◌, ◌∙◌, ℕ, ◌+◌, ◌*◌, ◌<◌, ◌≤◌, max, Bool, true, false, cond, List, [], ◌∷◌, ◌++◌, length, slice_get, Option, Some, None, ◌⊎◌, inl, inr, refl, sym, ap, subst, arith, ltb-true, eq-eqb}
use Rattle.std.specs.Prelude.{◌≢◌, ◌==◌, ◌^◌, nat_lt, if◌then◌else◌, filter_map, Ok}
use Rattle.std.proofs.lemmas.List.{length-append}
use Rattle.std.proofs.lemmas.List.Elements.{filter_map-append}
use Rattle.std.proofs.lemmas.Bool.{false≢true}
use Rattle.std.proofs.lemmas.Bool.Decides.{nat_tests}
use Rattle.logical_time.specs.declared.fault.Fault.TheVariants.{ClockSpent}
use Rattle.messages.specs.declared.envelope.Envelope.{Envelope}
use Rattle.messages.specs.Topology.{TopologyValue, is_topology, is_shard, is_session, shard_count}
use Rattle.messages.specs.Clock.{ticked, on_clock}
use Rattle.messages.specs.Shard.{ShardState, ShardStep}
use Rattle.messages.specs.ShardEvents.{handled as handled_by, shard_handle}
use Rattle.messages.specs.SessionEvents.{heard, session_handle}
use Rattle.world.specs.Run.{Run, RunEvent, Deliver, with_actor, after_shard, after_session, deliver_if, deliver_for, step, run}
use Rattle.world.specs.Quiet.{number_delivered, handled}
use Rattle.world.specs.Refusals.{Refused, NoSuchActor, refused_by, refusal_of_envelope, refusal_of_message, clock_at}
use Rattle.world.specs.Drains.{rank, total, decisions_taken, ComesNearer, MeetsSpentClock, DeliveriesComeNearer, DecisionsAreCapped, sizes_of, cost, cost_of_all, cost_of_decision, cost_of_waiting}
use Rattle.world.proofs.lists.Members.{contains_get}
use Rattle.world.proofs.safety.Facts.{DecidedOnce}
use Rattle.world.proofs.safety.Invariant.{Inv}
use Rattle.world.proofs.safety.Runs.{every_run, step_kept}
use Rattle.world.proofs.envelopes.Addresses.{stands}
use Rattle.world.proofs.envelopes.Addressed.{messages_are_for_actors}
use Rattle.world.proofs.fresh.HeardRuns.{changed_actor}
use Rattle.world.proofs.lists.Totals.{total_one}
use Rattle.world.proofs.drains.DecisionDescents.{Descends}
use Rattle.world.proofs.drains.Descents.{handled_descends}
use Rattle.world.proofs.drains.SessionDescents.{heard_sinks}
use Rattle.world.proofs.drains.Caps.{decisions_capped, shard_within, message_within}

-- what waits on all shards
abbrev pub waiting_costs : TopologyValue → Run → ℕ
waiting_costs top w = total (λ node. cost_of_waiting top (w.shards node)) (shard_count top)

abbrev pub price : TopologyValue → Run → ℕ
price top w = cost_of_decision top (sizes_of w.submitted)

-- the message was handled, and the run is nearer to its end
pub record Nearer (top : TopologyValue) (w x : Run) (k : ℕ) (e : Envelope) : Type 0 where
  pub comes : ComesNearer top w x k e
  pub events : x.events ≡ w.events ++ Deliver k ∷ []
  pub submitted : x.submitted ≡ w.submitted
  -- what is left to do costs less, but for the price of a decision
  pub costs : cost_of_all top (sizes_of w.submitted) comes.sends + waiting_costs top x + 1 + decisions_taken top w * price top w
      ≤ cost top (sizes_of w.submitted) e.body + waiting_costs top w + decisions_taken top x * price top w

-- its receiver's clock is spent
abbrev pub IsSpent : TopologyValue → Run → Envelope → Type 0
IsSpent top w e = ticked (clock_at top w e.to) e.time ≡ None

self_equal : (n : ℕ) → (n == n) ≡ false → ⊥
self_equal n e = false≢true (sym e ∙ eq-eqb n n refl)

-- then it would leave its range
pub past_range : (c t : ℕ) → ticked c t ≡ None → 2 ^ 48 ≤ max c t + 1
past_range c t q = by (nat_lt (max c t + 1) (2 ^ 48)) refl q
  where
    by : (b : Bool) → nat_lt (max c t + 1) (2 ^ 48) ≡ b → cond b (Some (max c t + 1)) None ≡ None → 2 ^ 48 ≤ max c t + 1
    by true lt q = absurd (cc)
    by false lt q = grind (arith, nat_tests)

module _ (top : TopologyValue) (w : Run) (some : 0 < top.shards) (inv : Inv top w) (k : ℕ) (e : Envelope) (there : slice_get w.sent k ≡ Some e) where
  more_handled : filter_map number_delivered (w.events ++ Deliver k ∷ []) ≡ handled w ++ k ∷ []
  more_handled = filter_map-append number_delivered w.events (Deliver k ∷ [])

  -- ## A shard handles it

  module _ (st : ShardStep) (is : is_shard top e.to ≡ true) where
    abbrev after : ℕ → ShardState
    after = with_actor w.shards e.to st.state

    here : after e.to ≡ st.state
    here = changed_actor (λ (a : ShardState). a ≡ st.state) w.shards e.to st.state e.to (λ same. refl) (λ other. absurd (self_equal e.to other))

    others : (m : ℕ) → m ≢ e.to → after m ≡ w.shards m
    others m other = changed_actor (λ (a : ShardState). a ≡ w.shards m) w.shards e.to st.state m (λ same. absurd (other same)) (λ apart. refl)

    below : e.to < shard_count top
    below = ltb-true e.to (shard_count top) is

    -- the sums over all shards change by what changes of this one
    waits : total (λ node. cost_of_waiting top (after node)) (shard_count top) + cost_of_waiting top (w.shards e.to)
        ≡ waiting_costs top w + cost_of_waiting top st.state
    waits =
        subst (λ (a : ShardState). total (λ node. cost_of_waiting top (after node)) (shard_count top) + cost_of_waiting top (w.shards e.to) ≡ waiting_costs top w + cost_of_waiting top a) here
        (total_one (λ node. cost_of_waiting top (w.shards node)) (λ node. cost_of_waiting top (after node)) e.to (shard_count top) below
        (λ m other. ap (cost_of_waiting top) (others m other)))

    takes : total (λ node. length (after node).decided) (shard_count top) + length (w.shards e.to).decided ≡ decisions_taken top w + length st.state.decided
    takes =
        subst (λ (a : ShardState). total (λ node. length (after node).decided) (shard_count top) + length (w.shards e.to).decided ≡ decisions_taken top w + length a.decided) here
        (total_one (λ node. length (w.shards node).decided) (λ node. length (after node).decided) e.to (shard_count top) below
        (λ m other. ap (λ (a : ShardState). length a.decided) (others m other)))

    handles : (Descends top (sizes_of w.submitted) (w.shards e.to) (rank e.body) (cost top (sizes_of w.submitted) e.body) st)
        → DecidedOnce st.state.decided
        → Nearer top w (after_shard (Ok st) w (Deliver k) e.to) k e
    handles (inl (same, low, leaves)) once =
        record {
          comes =
              record {
                handled = more_handled;
                sends = st.sends;
                sent = refl;
                nearer =
                    inr (
                      λ m.
                          changed_actor (λ (a : ShardState). a.decided ≡ (w.shards m).decided) w.shards e.to st.state m
                          (λ q. same ∙ ap (λ (i : ℕ). (w.shards i).decided) (sym q)) (λ apart. refl),
                      λ u has. low u has,
                    );
              };
          events = refl;
          submitted = refl;
          costs =
              let count : length st.state.decided ≡ length (w.shards e.to).decided = ap length same in
              let taken : total (λ node. length (after node).decided) (shard_count top) ≡ decisions_taken top w = omega (arith, takes) in
              let more = waits in
              subst (λ n. cost_of_all top (sizes_of w.submitted) st.sends + total (λ node. cost_of_waiting top (after node)) (shard_count top) + 1 + decisions_taken top w * price top w
              ≤ cost top (sizes_of w.submitted) e.body + waiting_costs top w + n * price top w) (sym taken) (omega arith);
        }
    handles (inr (d, new, leaves)) once =
        record {
          comes =
              record {
                handled = more_handled;
                sends = st.sends;
                sent = refl;
                nearer =
                    inl
                    (record {
                      node = e.to;
                      is_one = is;
                      decision = d;
                      here = ap (λ (a : ShardState). a.decided) here ∙ new;
                      others = λ m other. ap (λ (a : ShardState). a.decided) (others m other);
                    });
              };
          events = refl;
          submitted = refl;
          costs =
              let count : length st.state.decided ≡ length (w.shards e.to).decided + 1 = ap length new ∙ length-append (w.shards e.to).decided (d ∷ []) in
              let taken : total (λ node. length (after node).decided) (shard_count top) ≡ decisions_taken top w + 1 = omega (arith, takes) in
              let more = waits in
              let less = leaves once in
              subst (λ n. cost_of_all top (sizes_of w.submitted) st.sends + total (λ node. cost_of_waiting top (after node)) (shard_count top) + 1 + decisions_taken top w * price top w
              ≤ cost top (sizes_of w.submitted) e.body + waiting_costs top w + n * price top w) (sym taken) (omega arith);
        }

  shard_nearer : is_shard top e.to ≡ true → (o : Option ℕ)
      → Inv top (after_shard (on_clock o (λ n. handled_by top e.to n (w.shards e.to) e.from e.body)) w (Deliver k) e.to)
      → Nearer top w (after_shard (on_clock o (λ n. handled_by top e.to n (w.shards e.to) e.from e.body)) w (Deliver k) e.to) k e ⊎ (o ≡ None)
  shard_nearer is None kept = inr refl
  shard_nearer is (Some n) kept =
      let st = handled_by top e.to n (w.shards e.to) e.from e.body in
      inl
      (handles st is
      (handled_descends top (sizes_of w.submitted) e.to n (w.shards e.to) (shard_within top w inv e.to) e.from e.body
      (message_within top w inv e (contains_get w.sent k e there)))
      (subst (λ (a : ShardState). DecidedOnce a.decided) (here st is) (kept.shards e.to).once))

  -- ## A session hears it

  session_nearer : (o : Option ℕ)
      → Nearer top w (after_session (on_clock o (λ n. heard top e.to n (w.sessions e.to) e.from e.body)) w (Deliver k) e.to) k e ⊎ (o ≡ None)
  session_nearer None = inr refl
  session_nearer (Some n) =
      let st = heard top e.to n (w.sessions e.to) e.from e.body in
      let sinks = heard_sinks top (sizes_of w.submitted) e.to n (w.sessions e.to) e.from e.body in
      inl
      (record {
        comes =
            record {
              handled = more_handled;
              sends = st.sends;
              sent = refl;
              nearer = inr (λ m. refl, λ u has. sinks.0 u has);
            };
        events = refl;
        submitted = refl;
        costs = let less = sinks.1 in omega arith;
      })

  -- ## Either

  abbrev Outcome : Run → Type 0
  Outcome x = Inv top x → Nearer top w x k e ⊎ IsSpent top w e

  clocked : (b : Bool) → is_shard top e.to ≡ b → clock_at top w e.to ≡ cond b (w.shards e.to).clock (w.sessions e.to).clock
  clocked b is = ap (λ z. cond z (w.shards e.to).clock (w.sessions e.to).clock) is

  to_actor : (s t : Bool) → is_shard top e.to ≡ s → is_session top e.to ≡ t → (is_shard top e.to ≡ true) ⊎ (is_session top e.to ≡ true)
      → Outcome (deliver_if s t top w (Deliver k) e)
  to_actor true t is q actor kept = elim (shard_nearer is (ticked (w.shards e.to).clock e.time) kept) [
    | inl nearer ↦ inl nearer
    | inr spent ↦ inr (ap (λ c. ticked c e.time) (clocked true is) ∙ spent)
  ]
  to_actor false true is q actor kept = elim (session_nearer (ticked (w.sessions e.to).clock e.time)) [
    | inl nearer ↦ inl nearer
    | inr spent ↦ inr (ap (λ c. ticked c e.time) (clocked false is) ∙ spent)
  ]
  to_actor false false is q (inl shard) kept = absurd (false≢true (sym is ∙ shard))
  to_actor false false is q (inr session) kept = absurd (false≢true (sym q ∙ session))

  pub delivery : (is_shard top e.to ≡ true) ⊎ (is_session top e.to ≡ true) → Nearer top w (step top w (Deliver k)) k e ⊎ IsSpent top w e
  delivery actor =
      subst (λ o. Outcome (deliver_for o top w (Deliver k))) (sym there) (to_actor (is_shard top e.to) (is_session top e.to) refl refl actor)
      (step_kept top w (Deliver k) some inv)

  -- ## What is refused

  refused : (s t : Bool) → is_shard top e.to ≡ s → is_session top e.to ≡ t → (is_shard top e.to ≡ true) ⊎ (is_session top e.to ≡ true) → IsSpent top w e
      → refusal_of_envelope top w e ≡ Some (Refused ClockSpent)
  refused true t is q actor spent =
      ap
      (λ b.
      if b then refused_by (shard_handle top e.to (w.shards e.to) e)
      else if is_session top e.to then refused_by (session_handle top e.to (w.sessions e.to) e) else Some NoSuchActor) is
      ∙ ap (λ o. refused_by (on_clock o (λ n. handled_by top e.to n (w.shards e.to) e.from e.body))) (sym (ap (λ c. ticked c e.time) (clocked true is)) ∙ spent)
  refused false true is q actor spent =
      ap
      (λ b.
      if b then refused_by (shard_handle top e.to (w.shards e.to) e)
      else if is_session top e.to then refused_by (session_handle top e.to (w.sessions e.to) e) else Some NoSuchActor) is
      ∙ (ap (λ b. if b then refused_by (session_handle top e.to (w.sessions e.to) e) else Some NoSuchActor) q
      ∙ ap (λ o. refused_by (on_clock o (λ n. heard top e.to n (w.sessions e.to) e.from e.body))) (sym (ap (λ c. ticked c e.time) (clocked false is)) ∙ spent))
  refused false false is q (inl shard) spent = absurd (false≢true (sym is ∙ shard))
  refused false false is q (inr session) spent = absurd (false≢true (sym q ∙ session))

  pub meets : (is_shard top e.to ≡ true) ⊎ (is_session top e.to ≡ true) → IsSpent top w e → MeetsSpentClock top w k e
  meets actor spent =
      record {
        refused = ap (refusal_of_message top w) there ∙ refused (is_shard top e.to) (is_session top e.to) refl refl actor spent;
        spent = past_range (clock_at top w e.to) e.time spent;
      }

-- the message of a number, and for whom it is
pub delivered : (top : TopologyValue) (events : List RunEvent) → is_topology top.dcs top.shards top.homes ≡ true → (k : ℕ) (e : Envelope)
    → slice_get (run top events).sent k ≡ Some e
    → Nearer top (run top events) (step top (run top events) (Deliver k)) k e ⊎ (IsSpent top (run top events) e × MeetsSpentClock top (run top events) k e)
delivered top events ok k e there =
    let w = run top events in
    let some = (stands top ok).some in
    let inv = every_run top events some in
    let actor = messages_are_for_actors top events ok e (contains_get w.sent k e there) in
    elim (delivery top w some inv k e there actor) [ inl nearer ↦ inl nearer | inr spent ↦ inr (spent, meets top w some inv k e there actor spent) ]

pub deliveries_come_nearer : (top : TopologyValue) (events : List RunEvent) → is_topology top.dcs top.shards top.homes ≡ true → DeliveriesComeNearer top (run top events)
deliveries_come_nearer top events ok k e there = elim (delivered top events ok k e there) [ inl nearer ↦ inl nearer.comes | inr spent ↦ inr spent.1 ]

pub decisions_are_capped : (top : TopologyValue) (events : List RunEvent) → 0 < top.shards → DecisionsAreCapped top (run top events)
decisions_are_capped top events some = decisions_capped top (run top events) some (every_run top events some)
