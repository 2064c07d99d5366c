-- Journals that fit together are a run: their events in the order of the clocks after them, and at one clock of the
-- nodes. All events up to a clock are carried out before any event above it, so what an event handles was sent.
use Rattle.std.proofs.Common.{append-nil, ◌≡◌, ◌∙◌, ℕ, zero, suc, ◌<◌, ◌≤◌, ◌^◌, Bool, true, false, List, [], ◌∷◌, ◌++◌, Some, ◌⊎◌, inl, inr, refl, sym, ap, subst, arith, eqb-true, le_refl}
use Rattle.std.specs.Prelude.{◌==◌, nat_lt, Contains}
use Rattle.std.proofs.lemmas.Bool.Decides.{nat_tests}
use Rattle.std.proofs.lemmas.List.{append_assoc}
use Rattle.messages.specs.declared.envelope.Envelope.{Envelope}
use Rattle.messages.specs.Topology.{TopologyValue, node_count}
use Rattle.messages.specs.declared.event.ActorEvent.{ActorEvent}
use Rattle.messages.specs.declared.event.ActorEvent.TheVariants.{Submit as SubmitHere, Handle, Collect as CollectHere}
use Rattle.messages.specs.Actors.{ActorState, clock_of, ActorStep, actor_step, Replayed, replay, sent_in, sent_by}
use Rattle.world.specs.Run.{Run, Deliver, RunEvent, opening, step, run}
use Rattle.world.specs.Journals.{actor_in, journal_in, DoFit, IsThreadedRun}
use Rattle.world.proofs.lists.Members.{none_in_empty, contains_first, Contains-append_left, Contains-append_right, Contains-append_cases}
use Rattle.world.proofs.worked.Replayed.{continued_push}
use Rattle.world.proofs.steps.Refusals.{kept_is_run}
use Rattle.world.proofs.steps.Ticks.{step_ticks}
use Rattle.world.proofs.steps.Moves.{Moves}
use Rattle.world.proofs.replays.Happenings.{Happens, handle_happens, submit_happens, collect_happens}
use Rattle.world.proofs.replays.JournalSteps.{AreKnown, known_later, journal_here, journal_there}
use Rattle.world.proofs.replays.Replays.{unfolds, NextAbove, next_above, rest_above}

module _ (top : TopologyValue) (journals : ℕ → List ActorEvent) where
  -- The run has carried out the events of this journal up to this clock, and no other of it.
  pub record IsDone (w : Run) (m limit : ℕ) : Type 0 where
    pub left : List ActorEvent
    pub rest : Replayed
    pub whole : journals m ≡ journal_in w m ++ left
    pub replays : replay top m (actor_in top w m) left ≡ Some rest
    pub sends : (e : Envelope) → Contains (sent_by top m (journals m)) e → Contains w.sent e ⊎ Contains rest.sent e
    pub above : NextAbove top m limit (actor_in top w m) left

  -- the run has carried out all events up to this clock, and those of the nodes below this one at the next clock
  pub record Stage (clock node : ℕ) : Type 0 where
    pub run_now : Run
    pub known : AreKnown run_now
    pub replayed : run top run_now.events ≡ run_now
    pub before : (m : ℕ) → m < node → m < node_count top → IsDone run_now m (suc clock)
    pub after : (m : ℕ) → node ≤ m → m < node_count top → IsDone run_now m clock

  -- ## What stays

  -- the others' events are where they were
  done_there : (w v : Run) (ev : RunEvent) (n : ℕ) (x : ActorEvent) (s : ActorStep) → Moves top w v ev n x s → AreKnown w
      → (m limit : ℕ) → (m == n) ≡ false → (n == m) ≡ false → IsDone w m limit → IsDone v m limit
  done_there w v ev n x s f known m limit apart apart' d =
      let same = f.others m apart in
      record {
        left = d.left;
        rest = d.rest;
        whole = d.whole ∙ ap (λ l. l ++ d.left) (sym (journal_there f known m apart'));
        replays = ap (λ a. replay top m a d.left) same ∙ d.replays;
        sends = λ e i. elim (d.sends e i) [ inl sent ↦ inl (subst (λ l. Contains l e) (sym f.sent) (Contains-append_left w.sent s.sends e sent)) | inr later ↦ inr later ];
        above = subst (λ a. NextAbove top m limit a d.left) (sym same) d.above;
      }

  equal_tests : (m n : ℕ) → (m ≡ n → ⊥) → ((m == n) ≡ false) × ((n == m) ≡ false)
  equal_tests m n apart = (go (m == n) refl, back (n == m) refl)
    where
      go : (b : Bool) → (m == n) ≡ b → b ≡ false
      go false q = refl
      go true q = absurd (apart (eqb-true m n q))

      back : (b : Bool) → (n == m) ≡ b → b ≡ false
      back false q = refl
      back true q = absurd (apart (sym (eqb-true n m q)))

  -- ## One node at one clock

  module _ (fit : DoFit top journals) (clock n : ℕ) (counts : n < node_count top) (g : Stage clock n) where
    abbrev w : Run
    w = g.run_now

    -- an envelope up to this clock that some journal sends was sent
    was_sent : (m : ℕ) → m < node_count top → (e : Envelope) → Contains (sent_by top m (journals m)) e → e.time ≤ clock → Contains w.sent e
    was_sent m lt e i le = by (nat_lt m n) refl
      where
        of : (limit : ℕ) → clock ≤ limit → IsDone w m limit → Contains w.sent e
        of limit up d = elim (d.sends e i) [
          | inl sent ↦ sent
          | inr later ↦ let above = rest_above top m limit (actor_in top w m) d.left d.rest d.replays d.above e later in absurd (omega arith)
        ]

        by : (b : Bool) → nat_lt m n ≡ b → Contains w.sent e
        by true q = let below : m < n = grind (arith, nat_tests) in of (suc clock) (omega arith) (g.before m below lt)
        by false q = let up : n ≤ m = grind (arith, nat_tests) in of clock (le_refl clock) (g.after m up lt)

    -- nothing of this node has the next clock
    passes : IsDone w n (suc clock) → Stage clock (suc n)
    passes d =
        record {
          run_now = w;
          known = g.known;
          replayed = g.replayed;
          before = λ m lt c. go m lt c (m == n) refl;
          after = λ m up c. g.after m (omega arith) c;
        }
      where
        go : (m : ℕ) → m < suc n → m < node_count top → (b : Bool) → (m == n) ≡ b → IsDone w m (suc clock)
        go m lt c true q = subst (λ z. IsDone w z (suc clock)) (sym (eqb-true m n q)) d
        go m lt c false q = let apart : m < n = grind (arith, nat_tests) in g.before m apart c

    -- the node's next event is carried out
    moves : (d : IsDone w n clock) (x : ActorEvent) (xs : List ActorEvent) → d.left ≡ x ∷ xs → (s : ActorStep) (rest : Replayed)
        → actor_step top n (actor_in top w n) x ≡ Some s → replay top n s.state xs ≡ Some rest → d.rest.sent ≡ s.sends ++ rest.sent
        → clock_of s.state ≡ suc clock → Happens top w n x s → Stage clock (suc n)
    moves d x xs left s rest takes replays sent at h =
        let v = step top w h.0 in
        let f = h.1 in
        record {
          run_now = v;
          known = known_later f g.known;
          replayed = ap (run top) f.events ∙ continued_push top (opening top) w.events h.0 ∙ ap (λ z. step top z h.0) g.replayed;
          before = λ m lt c. go m lt c (m == n) refl;
          after = λ m up c.
              let apart = equal_tests m n (λ q. let away : m ≡ n = q in absurd (omega arith)) in
              done_there w v h.0 n x s f g.known m clock apart.0 apart.1 (g.after m (omega arith) c);
        }
      where
        here : IsDone (step top w h.0) n (suc clock)
        here =
            let f = h.1 in
            record {
              left = xs;
              rest = rest;
              whole = d.whole ∙ ap (λ l. journal_in w n ++ l) left ∙ sym (ap (λ l. l ++ xs) (journal_here f g.known) ∙ append_assoc (journal_in w n) (x ∷ []) xs);
              replays = ap (λ a. replay top n a xs) f.here ∙ replays;
              sends = λ e i. elim (d.sends e i) [
                | inl old ↦ inl (subst (λ l. Contains l e) (sym f.sent) (Contains-append_left w.sent s.sends e old))
                | inr new ↦ elim (Contains-append_cases s.sends rest.sent e (subst (λ l. Contains l e) sent new)) [
                  | inl now ↦ inl (subst (λ l. Contains l e) (sym f.sent) (Contains-append_right w.sent s.sends e now))
                  | inr later ↦ inr later
                ]
              ];
              above = subst (λ a. NextAbove top n (suc clock) a xs) (sym f.here) (subst (λ z. NextAbove top n z s.state xs) at (next_above top n s.state xs));
            }

        go : (m : ℕ) → m < suc n → m < node_count top → (b : Bool) → (m == n) ≡ b → IsDone (step top w h.0) m (suc clock)
        go m lt c true q = subst (λ z. IsDone (step top w h.0) z (suc clock)) (sym (eqb-true m n q)) here
        go m lt c false q =
            let below : m < n = grind (arith, nat_tests) in
            let apart = equal_tests m n (λ e. absurd (omega arith)) in
            done_there w (step top w h.0) h.0 n x s h.1 g.known m (suc clock) apart.0 apart.1 (g.before m below c)

    -- what the node can do next is an event
    can : (x : ActorEvent) (s : ActorStep) → Contains (journals n) x → actor_step top n (actor_in top w n) x ≡ Some s → clock_of s.state ≡ suc clock
        → Happens top w n x s
    can (SubmitHere o) s i takes at = submit_happens top w n o s counts takes
    can (CollectHere time) s i takes at = collect_happens top w n time s counts takes
    can (Handle e) s i takes at =
        let r = fit.received n e counts i in
        let lt = (step_ticks top n (actor_in top w n) (Handle e) s takes).handled e refl in
        handle_happens top w n e s r.here (was_sent e.from r.sender e r.sent (omega arith)) counts takes

    pub next_node : Stage clock (suc n)
    next_node = let d = g.after n (le_refl n) counts in by d d.left refl
      where
        among_there : (d : IsDone w n clock) (x : ActorEvent) (xs : List ActorEvent) → d.left ≡ x ∷ xs → Contains (journals n) x
        among_there d x xs left =
            subst (λ l. Contains l x) (sym (d.whole ∙ ap (λ l. journal_in w n ++ l) left)) (Contains-append_right (journal_in w n) (x ∷ xs) x (contains_first x xs))

        taken : (d : IsDone w n clock) (x : ActorEvent) (xs : List ActorEvent) → d.left ≡ x ∷ xs → Stage clock (suc n)
        taken d x xs left =
            let u = unfolds top n (actor_in top w n) x xs d.rest (subst (λ l. replay top n (actor_in top w n) l ≡ Some d.rest) left d.replays) in
            let k : NextAbove top n clock (actor_in top w n) (x ∷ xs) = subst (λ l. NextAbove top n clock (actor_in top w n) l) left d.above in
            let lt = k u.step u.takes in
            soon u.step u.takes u.rest u.replays (sym (ap (λ (z : Replayed). z.sent) u.whole)) lt (nat_lt (suc clock) (clock_of u.step.state)) refl
          where
            soon : (s : ActorStep) → actor_step top n (actor_in top w n) x ≡ Some s → (rest : Replayed) → replay top n s.state xs ≡ Some rest
                → d.rest.sent ≡ s.sends ++ rest.sent
                → clock < clock_of s.state → (b : Bool) → nat_lt (suc clock) (clock_of s.state) ≡ b → Stage clock (suc n)
            soon s takes rest replays sent lt true q =
                let up : suc clock < clock_of s.state = grind (arith, nat_tests) in
                passes (record {
                  left = d.left;
                  rest = d.rest;
                  whole = d.whole;
                  replays = d.replays;
                  sends = d.sends;
                  above =
                      subst (λ l. NextAbove top n (suc clock) (actor_in top w n) l) (sym left)
                      (λ t same. let is : s ≡ t = cc in subst (λ z. suc clock < clock_of z.state) is up);
                })
            soon s takes rest replays sent lt false q =
                let at : clock_of s.state ≡ suc clock = grind (arith, nat_tests) in
                moves d x xs left s rest takes replays sent at (can x s (among_there d x xs left) takes at)

        by : (d : IsDone w n clock) (l : List ActorEvent) → d.left ≡ l → Stage clock (suc n)
        by d [] left =
            passes (record {
              left = d.left;
              rest = d.rest;
              whole = d.whole;
              replays = d.replays;
              sends = d.sends;
              above = subst (λ l. NextAbove top n (suc clock) (actor_in top w n) l) (sym left) tt;
            })
        by d (x ∷ xs) left = taken d x xs left

  -- ## All nodes, at all clocks

  first_stage : DoFit top journals → Stage 0 0
  first_stage fit =
      record {
        run_now = opening top;
        known = λ k m. absurd (none_in_empty (Deliver k) m);
        replayed = refl;
        before = λ m lt c. absurd (omega arith);
        after = λ m up c.
            let r = fit.replays m c in
            record {
              left = journals m;
              rest = r.0;
              whole = refl;
              replays = r.1;
              sends = λ e i. inr (subst (λ l. Contains l e) (ap sent_in r.1) i);
              above = from_start m (journals m);
            };
      }
    where
      from_start : (m : ℕ) (l : List ActorEvent) → NextAbove top m 0 (actor_in top (opening top) m) l
      from_start m [] = tt
      from_start m (x ∷ xs) = λ s takes. let up = (step_ticks top m (actor_in top (opening top) m) x s takes).rises in omega arith

  nodes : DoFit top journals → (clock n : ℕ) → n ≤ node_count top → Stage clock 0 → Stage clock n
  nodes fit clock zero le g = g
  nodes fit clock (suc n) le g = next_node fit clock n (omega arith) (nodes fit clock n (omega arith) g)

  next_clock : DoFit top journals → (clock : ℕ) → Stage clock 0 → Stage (suc clock) 0
  next_clock fit clock g =
      let all = nodes fit clock (node_count top) (le_refl (node_count top)) g in
      record {
        run_now = all.run_now;
        known = all.known;
        replayed = all.replayed;
        before = λ m lt c. absurd (omega arith);
        after = λ m up c. all.before m c c;
      }

  stages : DoFit top journals → (clock : ℕ) → Stage clock 0
  stages fit zero = first_stage fit
  stages fit (suc clock) = next_clock fit clock (stages fit clock)

  -- past all clocks nothing is left
  ends : (bound : ℕ) → ((m : ℕ) (a : ActorState) (x : ActorEvent) (s : ActorStep) → actor_step top m a x ≡ Some s → clock_of s.state < bound)
      → Stage bound 0 → IsThreadedRun top journals
  ends bound below g = (
    g.run_now.events,
    record {
      is_run = kept_is_run top g.run_now.events (ap (λ (v : Run). v.events) g.replayed);
      each = λ m c. ap (λ v. journal_in v m) g.replayed ∙ sym (whole m (g.after m (omega arith) c));
    },
  )
    where
      nothing : (m : ℕ) (a : ActorState) (l : List ActorEvent) (r : Replayed) → replay top m a l ≡ Some r → NextAbove top m bound a l → l ≡ []
      nothing m a [] r e k = refl
      nothing m a (x ∷ xs) r e k =
          let u = unfolds top m a x xs r e in
          let up = k u.step u.takes in
          let down = below m a x u.step u.takes in
          absurd (omega arith)

      whole : (m : ℕ) → IsDone g.run_now m bound → journals m ≡ journal_in g.run_now m
      whole m d =
          d.whole ∙ ap (λ l. journal_in g.run_now m ++ l) (nothing m (actor_in top g.run_now m) d.left d.rest d.replays d.above)
          ∙ append-nil (journal_in g.run_now m)

  pub are_a_run : DoFit top journals → IsThreadedRun top journals
  are_a_run fit = ends (2 ^ 48) (λ m a x s takes. (step_ticks top m a x s takes).bounded) (stages fit (2 ^ 48))
