-- Where links match, the deliveries of a run can be numbered anew: the first message of a link that is delivered is the first that
-- was sent there, and so on. So where all that was sent was received, some run with the same journals is quiet.
use Rattle.std.proofs.Common.{◌≡◌, ◌∙◌, ℕ, ◌+◌, ◌<◌, ◌≤◌, Bool, true, false, ◌&&◌, cond, List, [], ◌∷◌, ◌++◌, length, take, Option, Some, None, Result, Ok, Err, ◌⊎◌, inl, inr, refl, sym, ap, subst, arith, slice_get, eqb-true, eq-eqb, append-nil}
use Rattle.std.specs.Prelude.{◌==◌, if◌then◌else◌, nat_lt, filter, filter_map, Contains}
use Rattle.std.specs.List.{cons_option}
use Rattle.std.proofs.lemmas.Bool.Decides.{nat_tests}
use Rattle.std.proofs.lemmas.List.{length-append, append_assoc, take-append-le}
use Rattle.std.proofs.lemmas.List.Elements.{filter-append, filter_map-append}
use Rattle.messages.specs.declared.envelope.Envelope.{Envelope}
use Rattle.messages.specs.declared.event.ActorEvent.{ActorEvent}
use Rattle.messages.specs.declared.event.ActorEvent.TheVariants.{Submit as SubmitHere, Handle, Collect as CollectHere}
use Rattle.messages.specs.Topology.{TopologyValue, is_topology, is_shard, is_session, node_count}
use Rattle.messages.specs.Shard.{ShardStep}
use Rattle.messages.specs.Session.{SessionStep}
use Rattle.messages.specs.ShardEvents.{shard_handle}
use Rattle.messages.specs.SessionEvents.{session_handle}
use Rattle.messages.specs.Actors.{OfShard, OfSession, clock_of, envelope_of, opening_actor, ActorStep, of_shard, of_session, actor_step, replay_of}
use Rattle.logical_time.specs.declared.fault.Fault.{Fault}
use Rattle.store.proofs.lists.Lists.{given}
use Rattle.world.specs.Quiet.{number_delivered, IsQuiet}
use Rattle.world.specs.Refusals.{IsRun}
use Rattle.world.specs.declared.run_event.RunEvent.{RunEvent}
use Rattle.world.specs.declared.run_event.RunEvent.TheVariants.{Deliver}
use Rattle.world.specs.Run.{Run, opening, after_shard, after_session, deliver_if, deliver_for, step, run}
use Rattle.world.specs.Journals.{actor_in, journal_in, sent_from, held_in}
use Rattle.world.proofs.envelopes.Addressed.{messages_are_for_actors}
use Rattle.world.proofs.envelopes.Addresses.{stands}
use Rattle.world.proofs.steps.Refusals.{kept_is_run}
use Rattle.world.proofs.lists.Members.{none_in_empty, Contains-push, Contains-append_left, Contains-append_cases, filter_contains, contains_get}
use Rattle.world.proofs.growing.Prefixes.{get_first, get_added, get_there}
use Rattle.world.proofs.safety.Runs.{run_after}
use Rattle.world.proofs.steps.Ticks.{step_ticks}
use Rattle.world.proofs.replays.Replays.{sent_above}
use Rattle.world.proofs.steps.Moves.{Moves, IsMove, each_is_move, shard_took, session_took, counts_session, handle_moves, hear_moves, shard_node_counts, session_node_counts}
use Rattle.world.proofs.replays.Happenings.{submit_happens, collect_happens}
use Rattle.world.proofs.replays.JournalSteps.{AreKnown, journal_later, journal_here}
use Rattle.world.proofs.replays.OwnJournals.{run_journals}
use Rattle.actors.specs.Journals.{receipts_from, from_node, sends_to, IsBeginning}
use Rattle.threaded.proofs.Going.{replay_continues}
use Rattle.threaded.proofs.Linked.{rank, rank_below, same_rank, rank_past, no_fewer, there_at, is_on, on_link, link_is, on_itself, on_its_link}

more_is_step : (top : TopologyValue) (events : List RunEvent) (x : RunEvent) → run top (events ++ x ∷ []) ≡ step top (run top events) x
more_is_step top events x = run_after top (opening top) events (x ∷ [])

-- ## How many were received

-- how many messages an actor of a run handled from another
abbrev pub got : Run → ℕ → ℕ → ℕ
got w from to = length (receipts_from from (journal_in w to))

abbrev one_if : Bool → ℕ
one_if true = 1
one_if false = 0

-- what an event adds to that
abbrev added : ℕ → ℕ → Option Envelope → ℕ
added from to None = 0
added from to (Some e) = one_if (is_on from to e)

receipts_more : (from : ℕ) (xs ys : List ActorEvent) → receipts_from from (xs ++ ys) ≡ receipts_from from xs ++ receipts_from from ys
receipts_more from xs ys =
    ap (from_node from) (filter_map-append envelope_of xs ys) ∙ filter-append (λ (e : Envelope). e.from == from) (filter_map envelope_of xs) (filter_map envelope_of ys)

added_here : (from n to : ℕ) (x : ActorEvent) → ((e : Envelope) → x ≡ Handle e → e.to ≡ n)
    → length (receipts_from from (cons_option (if n == to then Some x else None) [])) ≡ added from to (envelope_of x)
added_here from n to x here = by (n == to) refl
  where
    of : (y : ActorEvent) → x ≡ y → (n == to) ≡ true → length (receipts_from from (y ∷ [])) ≡ added from to (envelope_of y)
    of (SubmitHere o) is q = refl
    of (CollectHere time) is q = refl
    of (Handle e) is q =
        let for : (e.to == to) ≡ true = ap (λ m. m == to) (here e is) ∙ q in
        on (e.from == from) ∙ sym (ap (λ b. one_if ((e.from == from) && b)) for)
      where
        on : (b : Bool) → length (cond b (e ∷ []) []) ≡ one_if (b && true)
        on true = refl
        on false = refl

    off : (y : ActorEvent) → x ≡ y → (n == to) ≡ false → 0 ≡ added from to (envelope_of y)
    off (SubmitHere o) is q = refl
    off (CollectHere time) is q = refl
    off (Handle e) is q =
        let for : (e.to == to) ≡ false = ap (λ m. m == to) (here e is) ∙ q in
        on (e.from == from) ∙ sym (ap (λ b. one_if ((e.from == from) && b)) for)
      where
        on : (b : Bool) → 0 ≡ one_if (b && false)
        on true = refl
        on false = refl

    by : (b : Bool) → (n == to) ≡ b → length (receipts_from from (cons_option (if b then Some x else None) [])) ≡ added from to (envelope_of x)
    by true q = of x refl q
    by false q = off x refl q

got_now : {top : TopologyValue} {w v : Run} {ev : RunEvent} {n : ℕ} {x : ActorEvent} {s : ActorStep} → Moves top w v ev n x s → AreKnown w → (from to : ℕ)
    → got v from to ≡ got w from to + added from to (envelope_of x)
got_now {top} {w} {v} {ev} {n} {x} f known from to =
    ap (λ l. length (receipts_from from l)) (journal_later f known to)
    ∙ ap (λ (l : List Envelope). length l) (receipts_more from (journal_in w to) (cons_option (if n == to then Some x else None) []))
    ∙ length-append (receipts_from from (journal_in w to)) (receipts_from from (cons_option (if n == to then Some x else None) []))
    ∙ ap (λ k. got w from to + k) (added_here from n to x (λ e is. (f.received e is).0))

-- it is one where the event is a receipt of the link, and else none
added_cases : (from to : ℕ) (o : Option Envelope) → (added from to o ≡ 0) ⊎ ((e : Envelope) × (o ≡ Some e) × (is_on from to e ≡ true) × (added from to o ≡ 1))
added_cases from to None = inl refl
added_cases from to (Some e) = by (is_on from to e) refl
  where
    by : (b : Bool) → is_on from to e ≡ b → (one_if b ≡ 0) ⊎ ((f : Envelope) × (Some e ≡ Some f) × (is_on from to f ≡ true) × (one_if b ≡ 1))
    by true q = inr (e, refl, q, refl)
    by false q = inl refl

handle_of : (x : ActorEvent) (e : Envelope) → envelope_of x ≡ Some e → x ≡ Handle e
handle_of (SubmitHere o) e is = absurd (cc)
handle_of (CollectHere time) e is = absurd (cc)
handle_of (Handle f) e is = let same : f ≡ e = cc in ap Handle same

-- ## A message of any number is delivered

module _ (top : TopologyValue) (w : Run) (k : ℕ) (e : Envelope) (s : ActorStep) (sent : slice_get w.sent k ≡ Some e) (lt : e.to < node_count top) where
  to_shard : is_shard top e.to ≡ true → (r : Result ShardStep Fault) → shard_handle top e.to (w.shards e.to) e ≡ r → of_shard r ≡ Some s
      → Moves top w (after_shard r w (Deliver k) e.to) (Deliver k) e.to (Handle e) s
  to_shard is (Err fault) q h = absurd (cc)
  to_shard is (Ok st) q h =
      let same : shard_took st ≡ s = cc in
      subst (λ z. Moves top w (after_shard (Ok st) w (Deliver k) e.to) (Deliver k) e.to (Handle e) z) same (handle_moves top w k e st sent is q)

  to_session : is_session top e.to ≡ true → (r : Result SessionStep Fault) → session_handle top e.to (w.sessions e.to) e ≡ r → of_session r ≡ Some s
      → Moves top w (after_session r w (Deliver k) e.to) (Deliver k) e.to (Handle e) s
  to_session is (Err fault) q h = absurd (cc)
  to_session is (Ok st) q h =
      let same : session_took st ≡ s = cc in
      subst (λ z. Moves top w (after_session (Ok st) w (Deliver k) e.to) (Deliver k) e.to (Handle e) z) same (hear_moves top w k e st sent is q)

  to_either : (b : Bool) → is_shard top e.to ≡ b → actor_step top e.to (if b then OfShard (w.shards e.to) else OfSession (w.sessions e.to)) (Handle e) ≡ Some s
      → Moves top w (deliver_if b (is_session top e.to) top w (Deliver k) e) (Deliver k) e.to (Handle e) s
  to_either true is takes = to_shard is (shard_handle top e.to (w.shards e.to) e) refl takes
  to_either false away takes =
      let is = counts_session top e.to lt away in
      subst (λ t. Moves top w (deliver_if false t top w (Deliver k) e) (Deliver k) e.to (Handle e) s) (sym is)
      (to_session is (session_handle top e.to (w.sessions e.to) e) refl takes)

  delivered_now : actor_step top e.to (actor_in top w e.to) (Handle e) ≡ Some s → Moves top w (step top w (Deliver k)) (Deliver k) e.to (Handle e) s
  delivered_now takes =
      subst (λ o. Moves top w (deliver_for o top w (Deliver k)) (Deliver k) e.to (Handle e) s) (sym sent) (to_either (is_shard top e.to) refl takes)

-- ## A run that goes like another

-- The run of some events has the actors, the messages and the journals of another; and of each link the first messages were
-- delivered, as many as were received.
pub record GoesLike (top : TopologyValue) (w : Run) (mine : List RunEvent) : Type 0 where
  pub kept : (run top mine).events ≡ mine
  pub actors : (m : ℕ) → actor_in top (run top mine) m ≡ actor_in top w m
  pub sent : (run top mine).sent ≡ w.sent
  pub journals : (m : ℕ) → journal_in (run top mine) m ≡ journal_in w m
  pub fewer : (from to : ℕ) → got w from to ≤ length (on_link from to w.sent)
  pub delivered : (k : ℕ) (e : Envelope) → slice_get w.sent k ≡ Some e → rank (is_on e.from e.to) w.sent k < got w e.from e.to → Contains mine (Deliver k)
  pub times : (e : Envelope) → Contains w.sent e → e.time ≤ clock_of (actor_in top w e.from)

-- the next message of a link, where so many were received
pub record IsNextSent (sent : List Envelope) (e : Envelope) (count k : ℕ) : Type 0 where
  pub at : slice_get sent k ≡ Some e
  pub ranks : rank (is_on e.from e.to) sent k ≡ count

module _ (top : TopologyValue) (some : 0 < top.shards) (done mine : List RunEvent) (g : GoesLike top (run top done) mine) where
  abbrev w : Run
  w = run top done

  abbrev v : Run
  v = run top mine

  known : AreKnown w
  known = (run_journals top done some).known

  known_too : AreKnown v
  known_too = (run_journals top mine some).known

  module _ (u : Run) (ev own : RunEvent) (n : ℕ) (x : ActorEvent) (s : ActorStep) (f : Moves top w u ev n x s)
      (h : Moves top v (step top v own) own n x s) (picks : (e : Envelope) → x ≡ Handle e → (k : ℕ) × (own ≡ Deliver k) × IsNextSent w.sent e (got w e.from e.to) k) where
    next_run : run top (mine ++ own ∷ []) ≡ step top v own
    next_run = more_is_step top mine own

    -- before it sent, all that it received by then was sent
    sent_before : (from to : ℕ) → got u from to ≤ length (on_link from to w.sent)
    sent_before from to = elim (added_cases from to (envelope_of x)) [
      | inl none ↦ let is = got_now f known from to in let up = g.fewer from to in omega (arith, is, none, up)
      | inr z ↦
          let e = z.0 in
          let one = z.3 in
          let p = picks e (handle_of x e z.1) in
          let link = on_its_link from to e z.2 in
          let below = rank_below (is_on e.from e.to) w.sent p.0 e p.2.at (on_itself e) in
          let first : got w e.from e.to < length (on_link e.from e.to w.sent) = subst (λ r. r < length (on_link e.from e.to w.sent)) p.2.ranks below in
          let there : got w from to < length (on_link from to w.sent) =
          subst (λ b. got w from b < length (on_link from b w.sent)) link.1 (subst (λ a. got w a e.to < length (on_link a e.to w.sent)) link.0 first) in
          let is = got_now f known from to in
          omega (arith, is, one, there)
    ]

    fewer_now : (from to : ℕ) → got u from to ≤ length (on_link from to u.sent)
    fewer_now from to =
        let up = sent_before from to in
        let more = no_fewer (is_on from to) w.sent s.sends in
        let len = ap (λ l. length (on_link from to l)) f.sent in
        omega (arith, up, more, len)

    -- a message that was sent before the event, and is among the first so many
    old_delivered : (k : ℕ) (e : Envelope) → slice_get w.sent k ≡ Some e → rank (is_on e.from e.to) w.sent k < got u e.from e.to → Contains (mine ++ own ∷ []) (Deliver k)
    old_delivered k e at lt = by (nat_lt (rank (is_on e.from e.to) w.sent k) (got w e.from e.to)) refl
      where
        by : (b : Bool) → nat_lt (rank (is_on e.from e.to) w.sent k) (got w e.from e.to) ≡ b → Contains (mine ++ own ∷ []) (Deliver k)
        by true q =
            let less : rank (is_on e.from e.to) w.sent k < got w e.from e.to = grind (arith, nat_tests) in
            Contains-append_left mine (own ∷ []) (Deliver k) (g.delivered k e at less)
        by false q =
            let up : got w e.from e.to ≤ rank (is_on e.from e.to) w.sent k = grind (arith, nat_tests) in
            let is = got_now f known e.from e.to in
            elim (added_cases e.from e.to (envelope_of x)) [
              | inl none ↦ absurd (omega (arith, is, none, up, lt))
              | inr z ↦
                  let d = z.0 in
                  let one = z.3 in
                  let p = picks d (handle_of x d z.1) in
                  let link = on_its_link e.from e.to d z.2 in
                  let ranks : rank (is_on e.from e.to) w.sent p.0 ≡ got w e.from e.to =
                  subst (λ b. rank (is_on e.from b) w.sent p.0 ≡ got w e.from b) link.1
                  (subst (λ a. rank (is_on a d.to) w.sent p.0 ≡ got w a d.to) link.0 p.2.ranks) in
                  let equal : rank (is_on e.from e.to) w.sent k ≡ rank (is_on e.from e.to) w.sent p.0 = omega (arith, is, one, up, lt, ranks) in
                  let same = same_rank (is_on e.from e.to) w.sent k p.0 e d at (on_itself e) p.2.at z.2 equal in
                  subst (λ z. Contains (mine ++ own ∷ []) z) (p.1 ∙ ap Deliver (sym same)) (Contains-push mine own)
            ]

    delivered_later : (k : ℕ) (e : Envelope) → slice_get u.sent k ≡ Some e → rank (is_on e.from e.to) u.sent k < got u e.from e.to → Contains (mine ++ own ∷ []) (Deliver k)
    delivered_later k e at lt = by (nat_lt k (length w.sent)) refl
      where
        at_more : slice_get (w.sent ++ s.sends) k ≡ Some e
        at_more = ap (λ l. slice_get l k) (sym f.sent) ∙ at

        lt_more : rank (is_on e.from e.to) (w.sent ++ s.sends) k < got u e.from e.to
        lt_more = subst (λ l. rank (is_on e.from e.to) l k < got u e.from e.to) f.sent lt

        by : (b : Bool) → nat_lt k (length w.sent) ≡ b → Contains (mine ++ own ∷ []) (Deliver k)
        by true q =
            let less : k < length w.sent = grind (arith, nat_tests) in
            let there = get_there w.sent k less in
            let both : Some there.0 ≡ Some e = sym (get_first w.sent s.sends k there.0 there.1) ∙ at_more in
            let same : there.0 ≡ e = cc in
            let first : take k (w.sent ++ s.sends) ≡ take k w.sent = take-append-le k w.sent s.sends (omega (arith, less)) in
            old_delivered k e (there.1 ∙ ap Some same) (subst (λ l. length (filter (is_on e.from e.to) l) < got u e.from e.to) first lt_more)
        by false q =
            let past : length w.sent ≤ k = grind (arith, nat_tests) in
            let up = rank_past (is_on e.from e.to) w.sent s.sends k past in
            let before = sent_before e.from e.to in
            absurd (omega (arith, up, before, lt_more))

    clock_later : (m : ℕ) → clock_of (actor_in top w m) ≤ clock_of (actor_in top u m)
    clock_later m = by (m == n) refl
      where
        by : (b : Bool) → (m == n) ≡ b → clock_of (actor_in top w m) ≤ clock_of (actor_in top u m)
        by true q =
            let here : m ≡ n = eqb-true m n q in
            let rises = (step_ticks top n (actor_in top w n) x s f.takes).rises in
            let now : clock_of (actor_in top u n) ≡ clock_of s.state = ap clock_of f.here in
            subst (λ z. clock_of (actor_in top w z) ≤ clock_of (actor_in top u z)) (sym here) (omega (arith, rises, now))
        by false q = let same = ap clock_of (f.others m q) in omega (arith, same)

    times_later : (e : Envelope) → Contains u.sent e → e.time ≤ clock_of (actor_in top u e.from)
    times_later e m = elim (Contains-append_cases w.sent s.sends e (subst (λ l. Contains l e) f.sent m)) [
      | inl old ↦ let before = g.times e old in let up = clock_later e.from in omega (arith, before, up)
      | inr new ↦
          let t = (step_ticks top n (actor_in top w n) x s f.takes).sends e new in
          let now : clock_of (actor_in top u e.from) ≡ clock_of s.state = ap (λ z. clock_of (actor_in top u z)) t.0 ∙ ap clock_of f.here in
          let time = t.1 in
          omega (arith, now, time)
    ]

    pub goes_on : GoesLike top u (mine ++ own ∷ [])
    goes_on =
        record {
          kept = ap (λ (z : Run). z.events) next_run ∙ h.events ∙ ap (λ l. l ++ own ∷ []) g.kept;
          actors = λ m. ap (λ z. actor_in top z m) next_run ∙ actors_now m (m == n) refl;
          sent = ap (λ (z : Run). z.sent) next_run ∙ h.sent ∙ ap (λ l. l ++ s.sends) g.sent ∙ sym f.sent;
          journals = λ m.
              ap (λ z. journal_in z m) next_run ∙ journal_later h known_too m
              ∙ ap (λ l. l ++ cons_option (if n == m then Some x else None) []) (g.journals m) ∙ sym (journal_later f known m);
          fewer = fewer_now;
          delivered = delivered_later;
          times = times_later;
        }
      where
        actors_now : (m : ℕ) (b : Bool) → (m == n) ≡ b → actor_in top (step top v own) m ≡ actor_in top u m
        actors_now m true q =
            let here : m ≡ n = eqb-true m n q in
            subst (λ z. actor_in top (step top v own) z ≡ actor_in top u z) (sym here) (h.here ∙ sym f.here)
        actors_now m false q = h.others m q ∙ g.actors m ∙ sym (f.others m q)

-- ## The whole run

-- on each link of a run the receipts are a beginning of what was sent there
abbrev pub DoBegin : TopologyValue → Run → Type 0
DoBegin top w = (from to : ℕ) → from < node_count top → to < node_count top → IsBeginning (receipts_from from (journal_in w to)) (on_link from to w.sent)

-- a journal only grows
journal_grows : (top : TopologyValue) (some : 0 < top.shards) (rest done : List RunEvent) (m : ℕ)
    → (left : List ActorEvent) × (journal_in (run top (done ++ rest)) m ≡ journal_in (run top done) m ++ left)
journal_grows top some [] done m = ([], ap (λ l. journal_in (run top l) m) (append-nil done) ∙ sym (append-nil (journal_in (run top done) m)))
journal_grows top some (ev ∷ rest) done m =
    let ih = journal_grows top some rest (done ++ ev ∷ []) m in
    let one = by (each_is_move top (run top done) ev) in (
      one.0 ++ ih.0,
      ap (λ l. journal_in (run top l) m) (sym (append_assoc done (ev ∷ []) rest)) ∙ ih.1 ∙ ap (λ l. l ++ ih.0) one.1 ∙ append_assoc (journal_in (run top done) m) one.0 ih.0,
    )
  where
    by : IsMove top (run top done) ev (step top (run top done) ev)
        → (left : List ActorEvent) × (journal_in (run top (done ++ ev ∷ [])) m ≡ journal_in (run top done) m ++ left)
    by (inl same) = ([], ap (λ w. journal_in w m) (more_is_step top done ev ∙ same) ∙ sym (append-nil (journal_in (run top done) m)))
    by (inr (n, x, s, f)) = (
      cons_option (if n == m then Some x else None) [],
      ap (λ w. journal_in w m) (more_is_step top done ev) ∙ journal_later f ((run_journals top done some).known) m,
    )

module _ (top : TopologyValue) (some : 0 < top.shards) (events : List RunEvent) (begins : DoBegin top (run top events)) where
  -- the next receipt of an actor is the next message of its link
  module _ (done rest mine : List RunEvent) (split : events ≡ done ++ rest) (g : GoesLike top (run top done) mine) where
    -- what an actor sends later is later than all that it sent
    sent_later : (from : ℕ) → (later : List Envelope) × (sent_from (run top events) from ≡ sent_from (run top done) from ++ later)
        × ((e : Envelope) → Contains later e → clock_of (actor_in top (run top done) from) < e.time)
    sent_later from =
        let grows = journal_grows top some rest done from in
        let law = (run_journals top done some).each from in
        let whole = (run_journals top events some).each from in
        let c = replay_continues top from (opening_actor top from) (journal_in (run top done) from) grows.0 (held_in top (run top done) from) (held_in top (run top events) from) law
        (ap (replay_of top from) (sym grows.1) ∙ ap (λ l. replay_of top from (journal_in (run top l) from)) (sym split) ∙ whole) in
        (c.rest.sent, c.sent, sent_above top from (actor_in top (run top done) from) grows.0 c.rest c.replays)

    next_sent : (e : Envelope) (more : List ActorEvent) → e.to < node_count top → Contains (run top done).sent e
        → journal_in (run top events) e.to ≡ journal_in (run top done) e.to ++ Handle e ∷ more
        → (k : ℕ) × IsNextSent (run top done).sent e (got (run top done) e.from e.to) k
    next_sent e more lt sent whole = by (nat_lt count (length (on_link e.from e.to (run top done).sent))) refl
      where
        count : ℕ
        count = got (run top done) e.from e.to

        from_here : e.from < node_count top
        from_here = (run_journals top done some).senders e sent

        begun : List Envelope
        begun = receipts_from e.from (journal_in (run top done) e.to)

        receipts : receipts_from e.from (journal_in (run top events) e.to) ≡ begun ++ (e ∷ receipts_from e.from more)
        receipts =
            ap (receipts_from e.from) whole ∙ receipts_more e.from (journal_in (run top done) e.to) (Handle e ∷ more)
            ∙ ap (λ b. begun ++ cond b (e ∷ receipts_from e.from more) (receipts_from e.from more)) (eq-eqb e.from e.from refl)

        link : on_link e.from e.to (run top events).sent ≡ on_link e.from e.to (run top done).sent ++ sends_to e.to (sent_later e.from).0
        link =
            sym (link_is e.from e.to (run top events).sent) ∙ ap (sends_to e.to) (sent_later e.from).1
            ∙ filter-append (λ (z : Envelope). z.to == e.to) (sent_from (run top done) e.from) (sent_later e.from).0
            ∙ ap (λ l. l ++ sends_to e.to (sent_later e.from).0) (link_is e.from e.to (run top done).sent)

        there : slice_get (on_link e.from e.to (run top done).sent ++ sends_to e.to (sent_later e.from).0) count ≡ Some e
        there =
            let b = begins e.from e.to from_here lt in
            ap (λ l. slice_get l count) (sym link ∙ b.1 ∙ ap (λ l. l ++ b.0) receipts) ∙ in_middle begun e (receipts_from e.from more) b.0
          where
            in_middle : (xs : List Envelope) (x : Envelope) (ys zs : List Envelope) → slice_get ((xs ++ (x ∷ ys)) ++ zs) (length xs) ≡ Some x
            in_middle [] x ys zs = refl
            in_middle (y ∷ xs) x ys zs = in_middle xs x ys zs

        by : (b : Bool) → nat_lt count (length (on_link e.from e.to (run top done).sent)) ≡ b → (k : ℕ) × IsNextSent (run top done).sent e count k
        by true q =
            let less : count < length (on_link e.from e.to (run top done).sent) = grind (arith, nat_tests) in
            let z = get_there (on_link e.from e.to (run top done).sent) count less in
            let both : Some z.0 ≡ Some e = sym (get_first (on_link e.from e.to (run top done).sent) (sends_to e.to (sent_later e.from).0) count z.0 z.1) ∙ there in
            let same : z.0 ≡ e = cc in
            let r = there_at (is_on e.from e.to) (run top done).sent count e (z.1 ∙ ap Some same) in
            (r.0, record { at = r.1; ranks = r.2 })
        by false q =
            let past : length (on_link e.from e.to (run top done).sent) ≤ count = grind (arith, nat_tests) in
            let late = get_added (on_link e.from e.to (run top done).sent) (sends_to e.to (sent_later e.from).0) count e past there in
            let among = filter_contains (λ (z : Envelope). z.to == e.to) (sent_later e.from).0 e late in
            let above = (sent_later e.from).2 e among.0 in
            let before = g.times e sent in
            absurd (omega (arith, above, before))

  -- one event more
  next_goes : (done rest mine : List RunEvent) (ev : RunEvent) → events ≡ done ++ ev ∷ rest → GoesLike top (run top done) mine
      → (own : List RunEvent) × GoesLike top (run top (done ++ ev ∷ [])) own
  next_goes done rest mine ev split g = by (each_is_move top (run top done) ev)
    where
      w : Run
      w = run top done

      v : Run
      v = run top mine

      one : run top (done ++ ev ∷ []) ≡ step top w ev
      one = more_is_step top done ev

      moved : (n : ℕ) (x : ActorEvent) (s : ActorStep) → Moves top w (run top (done ++ ev ∷ [])) ev n x s → (own : List RunEvent) × GoesLike top (run top (done ++ ev ∷ [])) own
      moved n x s f = at x refl
        where
          takes : actor_step top n (actor_in top v n) x ≡ Some s
          takes = ap (λ a. actor_step top n a x) (g.actors n) ∙ f.takes

          taken : (own : RunEvent) → Moves top v (step top v own) own n x s
              → ((e : Envelope) → x ≡ Handle e → (k : ℕ) × (own ≡ Deliver k) × IsNextSent w.sent e (got w e.from e.to) k)
              → (own : List RunEvent) × GoesLike top (run top (done ++ ev ∷ [])) own
          taken own h picks = (mine ++ own ∷ [], goes_on top some done mine g (run top (done ++ ev ∷ [])) ev own n x s f h picks)

          whole : journal_in (run top events) n ≡ journal_in w n ++ x ∷ (journal_grows top some rest (done ++ ev ∷ []) n).0
          whole =
              let grows = journal_grows top some rest (done ++ ev ∷ []) n in
              ap (λ l. journal_in (run top l) n) (split ∙ sym (append_assoc done (ev ∷ []) rest)) ∙ grows.1
              ∙ ap (λ l. l ++ grows.0) (journal_here f ((run_journals top done some).known)) ∙ append_assoc (journal_in w n) (x ∷ []) grows.0

          receipt : (e : Envelope) → x ≡ Handle e → (own : List RunEvent) × GoesLike top (run top (done ++ ev ∷ [])) own
          receipt e is =
              let r = f.received e is in
              let to : n ≡ e.to = sym r.0 in
              let lt : e.to < node_count top = subst (λ m. m < node_count top) to f.actor in
              let more = (journal_grows top some rest (done ++ ev ∷ []) n).0 in
              let whole_here : journal_in (run top events) e.to ≡ journal_in w e.to ++ Handle e ∷ more =
              subst (λ m. journal_in (run top events) m ≡ journal_in w m ++ Handle e ∷ more) to (subst (λ y. journal_in (run top events) n ≡ journal_in w n ++ y ∷ more) is whole) in
              let p = next_sent done (ev ∷ rest) mine split g e more lt r.1 whole_here in
              let there : slice_get v.sent p.0 ≡ Some e = ap (λ l. slice_get l p.0) g.sent ∙ p.1.at in
              let takes_here : actor_step top e.to (actor_in top v e.to) (Handle e) ≡ Some s =
              subst (λ m. actor_step top m (actor_in top v m) (Handle e) ≡ Some s) to (subst (λ y. actor_step top n (actor_in top v n) y ≡ Some s) is takes) in
              let h = delivered_now top v p.0 e s there lt takes_here in
              taken (Deliver p.0)
              (subst (λ y. Moves top v (step top v (Deliver p.0)) (Deliver p.0) n y s) (sym is)
              (subst (λ m. Moves top v (step top v (Deliver p.0)) (Deliver p.0) m (Handle e) s) (sym to) h))
              (λ d also.
              let both : Handle e ≡ Handle d = sym is ∙ also in
              let same : e ≡ d = cc in
              (p.0, refl, subst (λ z. IsNextSent w.sent z (got w z.from z.to) p.0) same p.1))

          at : (y : ActorEvent) → x ≡ y → (own : List RunEvent) × GoesLike top (run top (done ++ ev ∷ [])) own
          at (SubmitHere o) is =
              let h = submit_happens top v n o s f.actor (subst (λ y. actor_step top n (actor_in top v n) y ≡ Some s) is takes) in
              taken h.0 (subst (λ y. Moves top v (step top v h.0) h.0 n y s) (sym is) h.1) (λ e also. let no : SubmitHere o ≡ Handle e = sym is ∙ also in absurd (cc))
          at (CollectHere time) is =
              let h = collect_happens top v n time s f.actor (subst (λ y. actor_step top n (actor_in top v n) y ≡ Some s) is takes) in
              taken h.0 (subst (λ y. Moves top v (step top v h.0) h.0 n y s) (sym is) h.1) (λ e also. let no : CollectHere time ≡ Handle e = sym is ∙ also in absurd (cc))
          at (Handle e) is = receipt e is

      by : IsMove top w ev (step top w ev) → (own : List RunEvent) × GoesLike top (run top (done ++ ev ∷ [])) own
      by (inl same) = (mine, subst (λ z. GoesLike top z mine) (sym (one ∙ same)) g)
      by (inr (n, x, s, f)) = moved n x s (subst (λ z. Moves top w z ev n x s) (sym one) f)

  all_go : (rest done mine : List RunEvent) → events ≡ done ++ rest → GoesLike top (run top done) mine → (own : List RunEvent) × GoesLike top (run top events) own
  all_go [] done mine split g = (mine, subst (λ l. GoesLike top (run top l) mine) (sym (split ∙ append-nil done)) g)
  all_go (ev ∷ rest) done mine split g =
      let next = next_goes done rest mine ev split g in
      all_go rest (done ++ ev ∷ []) next.0 (split ∙ sym (append_assoc done (ev ∷ []) rest)) next.1

  opening_goes : GoesLike top (opening top) []
  opening_goes =
      record {
        kept = refl;
        actors = λ m. refl;
        sent = refl;
        journals = λ m. refl;
        fewer = λ from to. omega arith;
        delivered = λ k e at lt. absurd (cc);
        times = λ e m. absurd (none_in_empty e m);
      }

  -- a run with the same journals, by whose numbers the first messages of each link were delivered
  pub numbered_anew : (own : List RunEvent) × GoesLike top (run top events) own
  numbered_anew = all_go events [] [] refl opening_goes

-- ## Quiet runs

-- on each link of a run all that was sent was received
abbrev pub IsAllReceived : TopologyValue → Run → Type 0
IsAllReceived top w = (from to : ℕ) → from < node_count top → to < node_count top → length (on_link from to w.sent) ≤ got w from to

below_count : (top : TopologyValue) (events : List RunEvent) → is_topology top.dcs top.shards top.homes ≡ true → (k : ℕ) (e : Envelope) → slice_get (run top events).sent k ≡ Some e
    → e.to < node_count top
below_count top events ok k e at = elim (messages_are_for_actors top events ok e (contains_get (run top events).sent k e at)) [
  | inl shard ↦ shard_node_counts top e.to shard
  | inr session ↦ session_node_counts top e.to session
]

-- a run with the journals of another one that is quiet
pub record GoesQuietly (top : TopologyValue) (w : Run) : Type 0 where
  pub events : List RunEvent
  pub is_run : IsRun top events
  pub journals : (m : ℕ) → journal_in (run top events) m ≡ journal_in w m
  pub quiet : IsQuiet (run top events)

pub goes_quietly : (top : TopologyValue) (events : List RunEvent) → is_topology top.dcs top.shards top.homes ≡ true → DoBegin top (run top events)
    → IsAllReceived top (run top events) → GoesQuietly top (run top events)
goes_quietly top events ok begins all =
    record { events = own; is_run = kept_is_run top own g.kept; journals = g.journals; quiet = quiet }
  where
    some : 0 < top.shards
    some = (stands top ok).some

    own : List RunEvent
    own = (numbered_anew top some events begins).0

    g : GoesLike top (run top events) own
    g = (numbered_anew top some events begins).1

    quiet : IsQuiet (run top own)
    quiet k lt =
        let z = get_there (run top own).sent k lt in
        let e = z.0 in
        let at : slice_get (run top events).sent k ≡ Some e = ap (λ l. slice_get l k) (sym g.sent) ∙ z.1 in
        let from = (run_journals top events some).senders e (contains_get (run top events).sent k e at) in
        let to = below_count top events ok k e at in
        let below = rank_below (is_on e.from e.to) (run top events).sent k e at (on_itself e) in
        let up = all e.from e.to from to in
        let d = g.delivered k e at (omega (arith, below, up)) in
        given number_delivered (run top own).events (Deliver k) k (subst (λ l. Contains l (Deliver k)) (sym g.kept) d) refl
