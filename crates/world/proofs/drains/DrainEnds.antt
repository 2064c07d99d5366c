-- A drain ends: each delivery of what wasn't handled leaves fewer, and where none is left the run is quiet.
use Rattle.std.proofs.Common.{◌≡◌, ◌∙◌, ℕ, zero, suc, ◌+◌, ◌-◌, ◌*◌, ◌<◌, ◌≤◌, Bool, true, false, cond, List, [], ◌∷◌, ◌++◌, length, slice_get, Option, Some, None, inl, inr, refl, sym, ap, subst, arith, eqb-true, eq-eqb}
use Rattle.std.specs.Prelude.{◌==◌, ◌^◌, Contains}
use Rattle.std.specs.List.{list_any}
use Rattle.std.proofs.lemmas.Bool.{false≢true}
use Rattle.std.proofs.lemmas.List.{length-append}
use Rattle.std.proofs.lemmas.List.Sums.{sum_by-cons}
use Rattle.messages.specs.declared.envelope.Envelope.{Envelope}
use Rattle.messages.specs.Topology.{TopologyValue, is_topology, is_shard}
use Rattle.world.specs.Run.{Run, RunEvent, Deliver, opening, step, run}
use Rattle.world.specs.Quiet.{handled, IsQuiet}
use Rattle.world.specs.Lookups.{first_unhandled}
use Rattle.world.specs.Refusals.{clock_at}
use Rattle.world.specs.Settled.{Settled}
use Rattle.world.specs.Drains.{decisions_taken, decisions_to_take, DecisionsAreCapped, ClocksCountEvents, Sizes, sizes_of, cost, cost_of_all, cost_of_decision, cost_of_unhandled, deliveries_left, with_delivered, drained, DrainsEnd, DeliveriesAreAllowed, DeliveriesLeaveFewer}
use Rattle.world.proofs.lists.Members.{Contains-push, Contains-append_left, contains_get, any_found, any_has}
use Rattle.world.proofs.safety.Runs.{run_after}
use Rattle.world.proofs.growing.Prefixes.{get_there}
use Rattle.world.proofs.steps.Refusals.{added_is_allowed}
use Rattle.world.proofs.quiet.Unhandled.{finds_unhandled}
use Rattle.world.proofs.promised.Laws.{quiet_means_done}
use Rattle.world.proofs.envelopes.Addresses.{stands}
use Rattle.world.proofs.drains.EventCounts.{clocks_count_events}
use Rattle.world.proofs.drains.Costs.{cost_some}
use Rattle.world.proofs.drains.Deliveries.{price, Nearer, IsSpent, past_range, delivered, decisions_are_capped}

-- ## What the messages cost that weren't handled

module _ (top : TopologyValue) (s : Sizes) where
  no_more_than_all : (hs : List ℕ) (i : ℕ) (es : List Envelope) → cost_of_unhandled top s hs i es ≤ cost_of_all top s es
  no_more_than_all hs i [] = omega arith
  no_more_than_all hs i (e ∷ es) =
      let split = sum_by-cons (λ (z : Envelope). cost top s z.body) e es in
      go (list_any (λ j. j == i) hs) (no_more_than_all hs (i + 1) es) split
    where
      go : (b : Bool) → cost_of_unhandled top s hs (i + 1) es ≤ cost_of_all top s es → cost_of_all top s (e ∷ es) ≡ cost top s e.body + cost_of_all top s es
          → cond b 0 (cost top s e.body) + cost_of_unhandled top s hs (i + 1) es ≤ cost_of_all top s (e ∷ es)
      go true rest split = omega arith
      go false rest split = omega arith

  more_sent : (hs : List ℕ) (i : ℕ) (es fs : List Envelope) → cost_of_unhandled top s hs i (es ++ fs) ≤ cost_of_unhandled top s hs i es + cost_of_all top s fs
  more_sent hs i [] fs = let le = no_more_than_all hs i fs in omega arith
  more_sent hs i (e ∷ es) fs = let le = more_sent hs (i + 1) es fs in omega arith

  still_there : (hs : List ℕ) (i k : ℕ) → list_any (λ j. j == i) hs ≡ true → list_any (λ j. j == i) (hs ++ k ∷ []) ≡ true
  still_there hs i k e =
      let f = any_found (λ j. j == i) hs e in any_has (λ j. j == i) (hs ++ k ∷ []) f.0 (Contains-append_left hs (k ∷ []) f.0 f.1) f.2

  fewer : (hs : List ℕ) (k i : ℕ) (es : List Envelope) → cost_of_unhandled top s (hs ++ k ∷ []) i es ≤ cost_of_unhandled top s hs i es
  fewer hs k i [] = omega arith
  fewer hs k i (e ∷ es) = go (list_any (λ j. j == i) hs) (list_any (λ j. j == i) (hs ++ k ∷ [])) (still_there hs i k) (fewer hs k (i + 1) es)
    where
      go : (b c : Bool) → (b ≡ true → c ≡ true) → cost_of_unhandled top s (hs ++ k ∷ []) (i + 1) es ≤ cost_of_unhandled top s hs (i + 1) es
          → cond c 0 (cost top s e.body) + cost_of_unhandled top s (hs ++ k ∷ []) (i + 1) es ≤ cond b 0 (cost top s e.body) + cost_of_unhandled top s hs (i + 1) es
      go true true f le = omega arith
      go true false f le = absurd (false≢true (f refl))
      go false true f le = omega arith
      go false false f le = omega arith

  -- the message of a number that wasn't handled no longer counts
  handled_one : (hs : List ℕ) (k i j : ℕ) (es : List Envelope) (e : Envelope) → k ≡ i + j → slice_get es j ≡ Some e → list_any (λ m. m == k) hs ≡ false
      → cost_of_unhandled top s (hs ++ k ∷ []) i es + cost top s e.body ≤ cost_of_unhandled top s hs i es
  handled_one hs k i j [] e is there left = absurd (cc)
  handled_one hs k i zero (x ∷ es) e is there left =
      let same : x ≡ e = cc in
      let here : k ≡ i = omega arith in
      go (list_any (λ m. m == i) hs) (list_any (λ m. m == i) (hs ++ k ∷ [])) (subst (λ n. list_any (λ m. m == n) hs ≡ false) here left)
      (any_has (λ m. m == i) (hs ++ k ∷ []) k (Contains-push hs k) (eq-eqb k i here)) (fewer hs k (i + 1) es) (ap (λ (z : Envelope). cost top s z.body) same)
    where
      go : (b c : Bool) → b ≡ false → c ≡ true → cost_of_unhandled top s (hs ++ k ∷ []) (i + 1) es ≤ cost_of_unhandled top s hs (i + 1) es
          → cost top s x.body ≡ cost top s e.body
          → cond c 0 (cost top s x.body) + cost_of_unhandled top s (hs ++ k ∷ []) (i + 1) es + cost top s e.body
          ≤ cond b 0 (cost top s x.body) + cost_of_unhandled top s hs (i + 1) es
      go true c f g le q = absurd (false≢true (sym f))
      go false false f g le q = absurd (false≢true g)
      go false true f g le q = omega arith
  handled_one hs k i (suc j) (x ∷ es) e is there left =
      go (list_any (λ m. m == i) hs) (list_any (λ m. m == i) (hs ++ k ∷ [])) (still_there hs i k) (handled_one hs k (i + 1) j es e (omega arith) there left)
    where
      go : (b c : Bool) → (b ≡ true → c ≡ true)
          → cost_of_unhandled top s (hs ++ k ∷ []) (i + 1) es + cost top s e.body ≤ cost_of_unhandled top s hs (i + 1) es
          → cond c 0 (cost top s x.body) + cost_of_unhandled top s (hs ++ k ∷ []) (i + 1) es + cost top s e.body
          ≤ cond b 0 (cost top s x.body) + cost_of_unhandled top s hs (i + 1) es
      go true true f le = omega arith
      go true false f le = absurd (false≢true (f refl))
      go false true f le = omega arith
      go false false f le = omega arith

  -- a delivery: one message is handled, and these are sent
  exchanged : (hs : List ℕ) (k : ℕ) (es fs : List Envelope) (e : Envelope) → slice_get es k ≡ Some e → list_any (λ m. m == k) hs ≡ false
      → cost_of_unhandled top s (hs ++ k ∷ []) 0 (es ++ fs) + cost top s e.body ≤ cost_of_unhandled top s hs 0 es + cost_of_all top s fs
  exchanged hs k es fs e there left =
      let one = handled_one hs k 0 k es e (omega arith) there left in let more = more_sent (hs ++ k ∷ []) 0 es fs in omega arith

-- ## Each delivery leaves fewer

-- what is left of a price, and what was spent of it
spent_and_left : (c t p : ℕ) → t ≤ c → (c - t) * p + t * p ≡ c * p
spent_and_left c t p le = let whole : (c - t) + t ≡ c = omega arith in let all = ap (λ n. n * p) whole in omega arith

unhandled_number : (hs : List ℕ) (k : ℕ) → (Contains hs k → ⊥) → list_any (λ m. m == k) hs ≡ false
unhandled_number hs k none = by (list_any (λ m. m == k) hs) refl
  where
    by : (b : Bool) → list_any (λ m. m == k) hs ≡ b → b ≡ false
    by false e = refl
    by true e = let f = any_found (λ m. m == k) hs e in absurd (none (subst (Contains hs) (eqb-true f.0 k f.2) f.1))

leaves_fewer : (top : TopologyValue) (w x : Run) (k : ℕ) (e : Envelope) → DecisionsAreCapped top w → DecisionsAreCapped top x → Nearer top w x k e
    → slice_get w.sent k ≡ Some e
    → (Contains (handled w) k → ⊥) → deliveries_left top x < deliveries_left top w
leaves_fewer top w x k e capped still n there none =
    let s = sizes_of w.submitted in
    let count : decisions_to_take top x.submitted ≡ decisions_to_take top w.submitted = ap (decisions_to_take top) n.submitted in
    let messages : cost_of_unhandled top (sizes_of x.submitted) (handled x) 0 x.sent ≡ cost_of_unhandled top s (handled w ++ k ∷ []) 0 (w.sent ++ n.comes.sends) =
    ap (λ b. cost_of_unhandled top (sizes_of b) (handled x) 0 x.sent) n.submitted
    ∙ (ap (λ hs. cost_of_unhandled top s hs 0 x.sent) n.comes.handled ∙ ap (cost_of_unhandled top s (handled w ++ k ∷ []) 0) n.comes.sent) in
    let same : price top x ≡ price top w = ap (λ b. cost_of_decision top (sizes_of b)) n.submitted in
    let moved = exchanged top s (handled w) k w.sent n.comes.sends e there (unhandled_number (handled w) k none) in
    let before = spent_and_left (decisions_to_take top w.submitted) (decisions_taken top w) (price top w) capped in
    let fits : decisions_taken top x ≤ decisions_to_take top w.submitted = subst (λ m. decisions_taken top x ≤ m) count still in
    let after = spent_and_left (decisions_to_take top w.submitted) (decisions_taken top x) (price top w) fits in
    let left : (decisions_to_take top x.submitted - decisions_taken top x) * price top x ≡ (decisions_to_take top w.submitted - decisions_taken top x) * price top w =
    ap (λ m. (m - decisions_taken top x) * price top x) count
    ∙ ap (λ p. (decisions_to_take top w.submitted - decisions_taken top x) * p) same in
    let costs = n.costs in
    omega arith

-- ## Drains

-- nothing is delivered once all is handled
pub drained_quiet : (top : TopologyValue) (n : ℕ) (w : Run) → first_unhandled w ≡ None → drained top n w ≡ w
drained_quiet top zero w none = refl
drained_quiet top (suc n) w none = ap (λ o. drained top n (with_delivered top w o)) none ∙ drained_quiet top n w none

module _ (top : TopologyValue) (ok : is_topology top.dcs top.shards top.homes ≡ true) where
  -- a run with one more delivery, of what wasn't handled and isn't refused
  onwards : (events : List RunEvent) (k : ℕ) (e : Envelope) → slice_get (run top events).sent k ≡ Some e → (Contains (handled (run top events)) k → ⊥)
      → Nearer top (run top events) (step top (run top events) (Deliver k)) k e
      → deliveries_left top (step top (run top events) (Deliver k)) < deliveries_left top (run top events)
  onwards events k e there none nearer =
      let some = (stands top ok).some in
      let more = run_after top (opening top) events (Deliver k ∷ []) in
      leaves_fewer top (run top events) (step top (run top events) (Deliver k)) k e (decisions_are_capped top events some)
      (subst (DecisionsAreCapped top) more (decisions_are_capped top (events ++ Deliver k ∷ []) some)) nearer there none

  pub deliveries_leave_fewer : (events : List RunEvent) → DeliveriesLeaveFewer top (run top events)
  deliveries_leave_fewer events k lt none allowed =
      let e = get_there (run top events).sent k lt in
      elim (delivered top events ok k e.0 e.1) [
        | inl nearer ↦ onwards events k e.0 e.1 none nearer
        | inr spent ↦ (let refused = spent.1.refused in let clash = sym allowed ∙ refused in absurd (none_some clash))
      ]
    where
      none_some : {X : Type 0} {x : X} → None ≡ Some x → ⊥
      none_some q = absurd (cc)

  -- what wasn't handled counts for something
  some_left : (w : Run) (k : ℕ) (e : Envelope) → slice_get w.sent k ≡ Some e → (Contains (handled w) k → ⊥) → 0 < deliveries_left top w
  some_left w k e there none =
      let one = handled_one top (sizes_of w.submitted) (handled w) k 0 k w.sent e (omega arith) there (unhandled_number (handled w) k none) in
      let price = cost_some top (sizes_of w.submitted) e.body in
      omega arith

  -- a clock that is spent had as many events as clocks have room for
  past_room : (w : Run) (e : Envelope) → ClocksCountEvents w → Contains w.sent e → IsSpent top w e → 2 ^ 48 ≤ length w.events + 1
  past_room w e counts m spent =
      let time = counts.messages e m in
      let clock = by (is_shard top e.to) in
      let past = past_range (clock_at top w e.to) e.time spent in
      omega arith
    where
      by : (b : Bool) → cond b (w.shards e.to).clock (w.sessions e.to).clock ≤ length w.events
      by true = counts.shards e.to
      by false = counts.sessions e.to

  -- so with room for what is left the delivery of a message is handled
  goes : (events : List RunEvent) (k : ℕ) (e : Envelope) → slice_get (run top events).sent k ≡ Some e → (Contains (handled (run top events)) k → ⊥)
      → length (run top events).events + deliveries_left top (run top events) < 2 ^ 48
      → Nearer top (run top events) (step top (run top events) (Deliver k)) k e
  goes events k e there none room =
      elim (delivered top events ok k e there) [
        | inl nearer ↦ nearer
        | inr spent ↦
            let past = past_room (run top events) e (clocks_count_events top events) (contains_get (run top events).sent k e there) spent.0 in
            let some = some_left (run top events) k e there none in
            absurd (omega arith)
      ]

  pub deliveries_are_allowed : (events : List RunEvent) → DeliveriesAreAllowed top (run top events)
  deliveries_are_allowed events k lt none room =
      let e = get_there (run top events).sent k lt in
      added_is_allowed top (run top events) (Deliver k) (goes events k e.0 e.1 none room).events

  -- a drain of a run is a run, quiet, with no more events than were left
  record Ended (w x : Run) (left : ℕ) : Type 0 where
    events : List RunEvent
    is : x ≡ run top events
    quiet : IsQuiet x
    count : length x.events ≤ length w.events + left

  -- so many deliveries of a run
  abbrev EndsBy : ℕ → List RunEvent → Type 0
  EndsBy n events =
      deliveries_left top (run top events) ≤ n → length (run top events).events + deliveries_left top (run top events) < 2 ^ 48
      → Ended (run top events) (drained top n (run top events)) (deliveries_left top (run top events))

  ended : (n : ℕ) (events : List RunEvent) → first_unhandled (run top events) ≡ None → EndsBy n events
  ended n events none le room =
      subst (λ x. Ended (run top events) x (deliveries_left top (run top events))) (sym (drained_quiet top n (run top events) none))
      (record { events = events; is = refl; quiet = (finds_unhandled (run top events)).none.0 none; count = omega arith })

  goes_on : (n : ℕ) (events : List RunEvent) (k : ℕ) → first_unhandled (run top events) ≡ Some k → EndsBy n (events ++ Deliver k ∷ []) → EndsBy (suc n) events
  goes_on n events k first rest le room =
      let w = run top events in
      let f = (finds_unhandled w).found k first in
      let e = get_there w.sent k f.sent in
      let nearer = goes events k e.0 e.1 f.unhandled room in
      let less = onwards events k e.0 e.1 f.unhandled nearer in
      let longer : length (step top w (Deliver k)).events ≡ length w.events + 1 = ap length nearer.events ∙ length-append w.events (Deliver k ∷ []) in
      let more : run top (events ++ Deliver k ∷ []) ≡ step top w (Deliver k) = run_after top (opening top) events (Deliver k ∷ []) in
      let fewer : deliveries_left top (run top (events ++ Deliver k ∷ [])) < deliveries_left top w =
      subst (λ x. deliveries_left top x < deliveries_left top w) (sym more) less in
      let count : length (run top (events ++ Deliver k ∷ [])).events ≡ length w.events + 1 = ap (λ (x : Run). length x.events) more ∙ longer in
      let d = rest (omega arith) (omega arith) in
      let after = d.count in
      subst (λ o. Ended w (drained top n (with_delivered top w o)) (deliveries_left top w)) (sym first)
      (subst (λ x. Ended w (drained top n x) (deliveries_left top w)) more
      (record { events = d.events; is = d.is; quiet = d.quiet; count = omega arith }))

  ends : (n : ℕ) (events : List RunEvent) → EndsBy n events
  ends zero events = by (first_unhandled (run top events)) refl
    where
      by : (o : Option ℕ) → first_unhandled (run top events) ≡ o → EndsBy 0 events
      by None none le room = ended 0 events none le room
      by (Some k) first le room =
          let f = (finds_unhandled (run top events)).found k first in
          let e = get_there (run top events).sent k f.sent in
          let some = some_left (run top events) k e.0 e.1 f.unhandled in
          absurd (omega arith)
  ends (suc n) events = by (first_unhandled (run top events)) refl (λ k. ends n (events ++ Deliver k ∷ []))
    where
      by : (o : Option ℕ) → first_unhandled (run top events) ≡ o → ((k : ℕ) → EndsBy n (events ++ Deliver k ∷ [])) → EndsBy (suc n) events
      by None none rest = ended (suc n) events none
      by (Some k) first rest = goes_on n events k first (rest k)

  pub drains_end : (events : List RunEvent) → DrainsEnd top (run top events)
  drains_end events n le room =
      let d = ends n events le room in
      record {
        quiet = d.quiet;
        settled = subst (Settled top) (sym d.is) (quiet_means_done top d.events ok (subst IsQuiet d.is d.quiet));
        deliveries = d.count;
      }
