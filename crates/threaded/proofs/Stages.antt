-- Journals whose replays go on wherever stamps stay apart are a run, if what is handled was sent by journals that have come
-- so far: their events in the order of the clocks after them, and at one clock of the nodes.
use Rattle.std.proofs.Common.{append-nil, ◌≡◌, ◌∙◌, ℕ, zero, suc, ◌<◌, ◌≤◌, ◌^◌, Bool, true, false, List, [], ◌∷◌, ◌++◌, Some, inl, inr, refl, sym, ap, subst, arith, eqb-true, le_refl}
use Rattle.std.specs.Prelude.{◌==◌, nat_lt, Contains}
use Rattle.std.proofs.lemmas.Bool.Decides.{nat_tests}
use Rattle.std.proofs.lemmas.List.{append_assoc}
use Rattle.messages.specs.declared.envelope.Envelope.{Envelope}
use Rattle.messages.specs.declared.event.ActorEvent.{ActorEvent}
use Rattle.messages.specs.declared.event.ActorEvent.TheVariants.{Submit as SubmitHere, Handle, Collect as CollectHere}
use Rattle.messages.specs.Topology.{TopologyValue, node_count}
use Rattle.messages.specs.Actors.{clock_of, opening_actor, ActorStep, actor_step, Replayed, replay_of}
use Rattle.world.specs.declared.run_event.RunEvent.{RunEvent}
use Rattle.world.specs.Run.{Run, opening, step, run}
use Rattle.world.specs.Journals.{actor_in, journal_in, held_in, IsThreadedRun}
use Rattle.world.proofs.steps.Refusals.{kept_is_run}
use Rattle.world.proofs.safety.Runs.{run_after}
use Rattle.world.proofs.steps.Ticks.{step_ticks}
use Rattle.world.proofs.steps.Moves.{Moves, IsMove, each_is_move}
use Rattle.world.proofs.replays.Happenings.{Happens, handle_happens, submit_happens, collect_happens}
use Rattle.world.proofs.replays.JournalSteps.{AreKnown, apart_too, journal_here, journal_there}
use Rattle.world.proofs.replays.OwnJournals.{run_journals}
use Rattle.threaded.specs.Machines.{StaysApart}
use Rattle.actors.specs.Shown.{clock_with, clock_from}
use Rattle.threaded.proofs.Going.{replay_takes}
use Rattle.threaded.proofs.Apart.{apart_more, apart_at_first}
use Rattle.threaded.proofs.Clocks.{step_clock, clock_told, clock_from_push, IsAbove, starts_above, above_less}

-- ## Stamps stay apart along the journals of a run

more_is_step : (top : TopologyValue) (events : List RunEvent) (x : RunEvent) → run top (events ++ x ∷ []) ≡ step top (run top events) x
more_is_step top events x = run_after top (opening top) events (x ∷ [])

abbrev AllApart : TopologyValue → List RunEvent → Type 0
AllApart top events = (node : ℕ) → StaysApart top node (journal_in (run top events) node)

apart_step : (top : TopologyValue) (events : List RunEvent) (x : RunEvent) → 0 < top.shards → AllApart top events → AllApart top (events ++ x ∷ [])
apart_step top events x some apart = go (each_is_move top (run top events) x)
  where
    moved : (n : ℕ) (y : ActorEvent) (s : ActorStep) → Moves top (run top events) (run top (events ++ x ∷ [])) x n y s → AllApart top (events ++ x ∷ [])
    moved n y s f node = by (n == node) refl
      where
        known : AreKnown (run top events)
        known = (run_journals top events some).known

        by : (b : Bool) → (n == node) ≡ b → StaysApart top node (journal_in (run top (events ++ x ∷ [])) node)
        by true q =
            subst (λ m. StaysApart top m (journal_in (run top (events ++ x ∷ [])) m)) (eqb-true n node q)
            (apart_more top (events ++ x ∷ []) n (journal_in (run top events) n) y some (journal_here f known) (apart n))
        by false q = subst (λ l. StaysApart top node l) (sym (journal_there f known node q)) (apart node)

    go : IsMove top (run top events) x (step top (run top events) x) → AllApart top (events ++ x ∷ [])
    go (inl same) = λ node. subst (λ w. StaysApart top node (journal_in w node)) (sym (more_is_step top events x ∙ same)) (apart node)
    go (inr (n, y, s, f)) = moved n y s (subst (λ w. Moves top (run top events) w x n y s) (sym (more_is_step top events x)) f)

apart_on : (top : TopologyValue) (done rest : List RunEvent) → 0 < top.shards → AllApart top done → AllApart top (done ++ rest)
apart_on top done [] some apart = subst (λ l. AllApart top l) (sym (append-nil done)) apart
apart_on top done (x ∷ rest) some apart =
    subst (λ l. AllApart top l) (append_assoc done (x ∷ []) rest) (apart_on top (done ++ x ∷ []) rest some (apart_step top done x some apart))

pub runs_stay_apart : (top : TopologyValue) (events : List RunEvent) (node : ℕ) → 0 < top.shards → StaysApart top node (journal_in (run top events) node)
runs_stay_apart top events node some = apart_on top [] events some (λ m. apart_at_first top m some) node

module _ (top : TopologyValue) (journals : ℕ → List ActorEvent) (some : 0 < top.shards) where
  -- ## What is asked of journals

  -- where stamps stay apart up to an event, the replay goes on with that
  abbrev pub DoGoOn : Type 0
  DoGoOn =
      (node : ℕ) (before : List ActorEvent) (x : ActorEvent) (after : List ActorEvent) → node < node_count top → journals node ≡ before ++ x ∷ after
      → StaysApart top node before → (r : Replayed) × (replay_of top node (before ++ x ∷ []) ≡ Some r)

  -- These are the events of a journal up to this clock, by the journal alone.
  pub record IsReached (done : List ActorEvent) (m limit : ℕ) : Type 0 where
    pub left : List ActorEvent
    pub whole : journals m ≡ done ++ left
    pub above : IsAbove limit (clock_from 0 done) left

  -- Where a run has carried out all events up to a clock, it has sent what is handled next and isn't later.
  abbrev pub AreSentBefore : Type 0
  AreSentBefore =
      (events : List RunEvent) (clock node : ℕ) (e : Envelope) (more : List ActorEvent) → node < node_count top
      → ((m : ℕ) → m < node_count top → IsReached (journal_in (run top events) m) m clock)
      → journals node ≡ journal_in (run top events) node ++ Handle e ∷ more → e.time ≤ clock → (e.to ≡ node) × Contains (run top events).sent e

  -- ## Stages

  -- a run has carried out all events up to this clock, and those of the nodes below this one at the next clock
  record Stage (clock node : ℕ) : Type 0 where
    pub events : List RunEvent
    pub kept : (run top events).events ≡ events
    pub before : (m : ℕ) → m < node → m < node_count top → IsReached (journal_in (run top events) m) m (suc clock)
    pub after : (m : ℕ) → node ≤ m → m < node_count top → IsReached (journal_in (run top events) m) m clock

  -- the step of what is next
  record NextStep (events : List RunEvent) (n : ℕ) (x : ActorEvent) : Type 0 where
    pub step : ActorStep
    pub takes : actor_step top n (actor_in top (run top events) n) x ≡ Some step
    pub clock : clock_of step.state ≡ clock_with (clock_from 0 (journal_in (run top events) n)) x

  next_step : DoGoOn → (events : List RunEvent) (n : ℕ) (x : ActorEvent) (xs : List ActorEvent) → n < node_count top
      → journals n ≡ journal_in (run top events) n ++ x ∷ xs → NextStep events n x
  next_step goes events n x xs lt whole =
      let w = run top events in
      let law = (run_journals top events some).each n in
      let r = goes n (journal_in w n) x xs lt whole (runs_stay_apart top events n some) in
      let t = replay_takes top n (opening_actor top n) (journal_in w n) x (held_in top w n) r.0 law r.1 in
      record {
        step = t.0;
        takes = t.1;
        clock = step_clock top n (actor_in top w n) x t.0 t.1 ∙ ap (λ c. clock_with c x) (clock_told top n (journal_in w n) (held_in top w n) law);
      }

  -- ## One node at one clock

  module _ (goes : DoGoOn) (sends : AreSentBefore) (clock n : ℕ) (counts : n < node_count top) (g : Stage clock n) where
    abbrev w : Run
    w = run top g.events

    known : AreKnown w
    known = (run_journals top g.events some).known

    reached_less : (done : List ActorEvent) (m : ℕ) → IsReached done m (suc clock) → IsReached done m clock
    reached_less done m d =
        record { left = d.left; whole = d.whole; above = above_less (suc clock) clock (clock_from 0 done) d.left (omega arith) d.above }

    all_reached : (m : ℕ) → m < node_count top → IsReached (journal_in w m) m clock
    all_reached m lt = by (nat_lt m n) refl
      where
        by : (b : Bool) → nat_lt m n ≡ b → IsReached (journal_in w m) m clock
        by true q = let below : m < n = grind (arith, nat_tests) in reached_less (journal_in w m) m (g.before m below lt)
        by false q = let up : n ≤ m = grind (arith, nat_tests) in g.after m up lt

    -- nothing of this node has the next clock
    passes : IsReached (journal_in w n) n (suc clock) → Stage clock (suc n)
    passes d = record { events = g.events; kept = g.kept; before = λ m lt c. go m lt c (m == n) refl; after = λ m up c. g.after m (omega arith) c }
      where
        go : (m : ℕ) → m < suc n → m < node_count top → (b : Bool) → (m == n) ≡ b → IsReached (journal_in w m) m (suc clock)
        go m lt c true q = subst (λ z. IsReached (journal_in w z) z (suc clock)) (sym (eqb-true m n q)) d
        go m lt c false q = let apart : m < n = grind (arith, nat_tests) in g.before m apart c

    -- the node's next event is carried out
    moves : (d : IsReached (journal_in w n) n clock) (x : ActorEvent) (xs : List ActorEvent) → d.left ≡ x ∷ xs → (s : ActorStep)
        → clock_with (clock_from 0 (journal_in w n)) x ≡ suc clock → Happens top w n x s → Stage clock (suc n)
    moves d x xs left s at h =
        record {
          events = g.events ++ h.0 ∷ [];
          kept = f.events ∙ ap (λ l. l ++ h.0 ∷ []) g.kept;
          before = λ m lt c. go m lt c (m == n) refl;
          after = λ m up c. there m clock (other m n (omega arith)) (g.after m (omega arith) c);
        }
      where
        f : Moves top w (run top (g.events ++ h.0 ∷ [])) h.0 n x s
        f = subst (λ z. Moves top w z h.0 n x s) (sym (more_is_step top g.events h.0)) h.1

        other : (m k : ℕ) → k < m → (k == m) ≡ false
        other m k lt = by (k == m) refl
          where
            by : (b : Bool) → (k == m) ≡ b → b ≡ false
            by false q = refl
            by true q = let same : k ≡ m = eqb-true k m q in absurd (omega arith)

        there : (m limit : ℕ) → (n == m) ≡ false → IsReached (journal_in w m) m limit → IsReached (journal_in (run top (g.events ++ h.0 ∷ [])) m) m limit
        there m limit apart d = subst (λ l. IsReached l m limit) (sym (journal_there f known m apart)) d

        here : IsReached (journal_in (run top (g.events ++ h.0 ∷ [])) n) n (suc clock)
        here =
            subst (λ l. IsReached l n (suc clock)) (sym (journal_here f known))
            (record {
              left = xs;
              whole = d.whole ∙ ap (λ l. journal_in w n ++ l) left ∙ sym (append_assoc (journal_in w n) (x ∷ []) xs);
              above =
                  subst (λ c. IsAbove c (clock_from 0 (journal_in w n ++ x ∷ [])) xs) (clock_from_push 0 (journal_in w n) x ∙ at)
                  (starts_above (clock_from 0 (journal_in w n ++ x ∷ [])) xs);
            })

        go : (m : ℕ) → m < suc n → m < node_count top → (b : Bool) → (m == n) ≡ b → IsReached (journal_in (run top (g.events ++ h.0 ∷ [])) m) m (suc clock)
        go m lt c true q = subst (λ z. IsReached (journal_in (run top (g.events ++ h.0 ∷ [])) z) z (suc clock)) (sym (eqb-true m n q)) here
        go m lt c false q =
            let below : m < n = grind (arith, nat_tests) in
            there m (suc clock) (apart_too m n q) (g.before m below c)

    -- what the node can do next is an event
    can : (x : ActorEvent) (xs : List ActorEvent) (s : ActorStep) → journals n ≡ journal_in w n ++ x ∷ xs → actor_step top n (actor_in top w n) x ≡ Some s
        → clock_with (clock_from 0 (journal_in w n)) x ≡ suc clock → Happens top w n x s
    can (SubmitHere o) xs s whole takes at = submit_happens top w n o s counts takes
    can (CollectHere time) xs s whole takes at = collect_happens top w n time s counts takes
    can (Handle e) xs s whole takes at =
        let r = sends g.events clock n e xs counts all_reached whole (omega arith) in
        handle_happens top w n e s r.0 r.1 counts takes

    next_node : Stage clock (suc n)
    next_node = by (g.after n (le_refl n) counts)
      where
        taken : (d : IsReached (journal_in w n) n clock) (x : ActorEvent) (xs : List ActorEvent) → d.left ≡ x ∷ xs
            → clock < clock_with (clock_from 0 (journal_in w n)) x → (b : Bool) → nat_lt (suc clock) (clock_with (clock_from 0 (journal_in w n)) x) ≡ b → Stage clock (suc n)
        taken d x xs left lt true q =
            let up : suc clock < clock_with (clock_from 0 (journal_in w n)) x = grind (arith, nat_tests) in
            passes (record { left = x ∷ xs; whole = d.whole ∙ ap (λ l. journal_in w n ++ l) left; above = up })
        taken d x xs left lt false q =
            let at : clock_with (clock_from 0 (journal_in w n)) x ≡ suc clock = grind (arith, nat_tests) in
            let whole = d.whole ∙ ap (λ l. journal_in w n ++ l) left in
            let s = next_step goes g.events n x xs counts whole in
            moves d x xs left s.step at (can x xs s.step whole s.takes at)

        on : (d : IsReached (journal_in w n) n clock) (l : List ActorEvent) → d.left ≡ l → Stage clock (suc n)
        on d [] left = passes (record { left = []; whole = d.whole ∙ ap (λ l. journal_in w n ++ l) left; above = tt })
        on d (x ∷ xs) left =
            let up : IsAbove clock (clock_from 0 (journal_in w n)) (x ∷ xs) = subst (λ l. IsAbove clock (clock_from 0 (journal_in w n)) l) left d.above in
            taken d x xs left up (nat_lt (suc clock) (clock_with (clock_from 0 (journal_in w n)) x)) refl

        by : IsReached (journal_in w n) n clock → Stage clock (suc n)
        by d = on d d.left refl

  -- ## All nodes, at all clocks

  first_stage : Stage 0 0
  first_stage =
      record {
        events = [];
        kept = refl;
        before = λ m lt c. absurd (omega arith);
        after = λ m up c. record { left = journals m; whole = refl; above = starts_above 0 (journals m) };
      }

  module _ (goes : DoGoOn) (sends : AreSentBefore) where
    nodes : (clock n : ℕ) → n ≤ node_count top → Stage clock 0 → Stage clock n
    nodes clock zero le g = g
    nodes clock (suc n) le g = next_node goes sends clock n (omega arith) (nodes clock n (omega arith) g)

    next_clock : (clock : ℕ) → Stage clock 0 → Stage (suc clock) 0
    next_clock clock g =
        let all = nodes clock (node_count top) (le_refl (node_count top)) g in
        record {
          events = all.events;
          kept = all.kept;
          before = λ m lt c. absurd (omega arith);
          after = λ m up c. all.before m c c;
        }

    stages : (clock : ℕ) → Stage clock 0
    stages zero = first_stage
    stages (suc clock) = next_clock clock (stages clock)

    -- past all clocks nothing is left
    ends : (bound : ℕ) → bound ≡ 2 ^ 48 → Stage bound 0 → IsThreadedRun top journals
    ends bound is g = (
      g.events,
      record { is_run = kept_is_run top g.events g.kept; each = λ m c. sym (whole m c (g.after m (omega arith) c)) },
    )
      where
        whole : (m : ℕ) → m < node_count top → IsReached (journal_in (run top g.events) m) m bound → journals m ≡ journal_in (run top g.events) m
        whole m c d = on d.left refl
          where
            on : (l : List ActorEvent) → d.left ≡ l → journals m ≡ journal_in (run top g.events) m
            on [] left = d.whole ∙ ap (λ l. journal_in (run top g.events) m ++ l) left ∙ append-nil (journal_in (run top g.events) m)
            on (x ∷ xs) left =
                let up : IsAbove bound (clock_from 0 (journal_in (run top g.events) m)) (x ∷ xs) =
                subst (λ l. IsAbove bound (clock_from 0 (journal_in (run top g.events) m)) l) left d.above in
                let s = next_step goes g.events m x xs c (d.whole ∙ ap (λ l. journal_in (run top g.events) m ++ l) left) in
                let below : clock_of s.step.state < bound =
                subst (λ z. clock_of s.step.state < z) (sym is) (step_ticks top m (actor_in top (run top g.events) m) x s.step s.takes).bounded in
                let at = s.clock in
                absurd (omega arith)

    pub are_ordered : IsThreadedRun top journals
    are_ordered = ends (2 ^ 48) refl (stages (2 ^ 48))
