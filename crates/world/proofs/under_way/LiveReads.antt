-- What a message leaves of a session under way, and what it answers is no longer missed.
use Rattle.std.proofs.Common.{◌≡◌, ℕ, ◌<◌, ◌≤◌, max, true, false, List, [], ◌∷◌, map, None, ◌⊎◌, inl, inr, refl, sym, ap, ◌∙◌, subst, le_refl}
use Rattle.std.specs.Prelude.{Contains}
use Rattle.logical_time.specs.Stamps.{StampValue, TxnValue, WriterValue}
use Rattle.slice.specs.declared.read.Read.{Read}
use Rattle.planner.specs.Plan.{shards_asked}
use Rattle.messages.specs.declared.rows_now.RowNow.{RowNow}
use Rattle.messages.specs.declared.rows_at.RowAt.{RowAt}
use Rattle.messages.specs.declared.rows_at.AtTime.TheVariants as at
use Rattle.messages.specs.declared.op.Op.TheVariants as op
use Rattle.messages.specs.declared.outcome.Outcome.TheVariants as outcome
use Rattle.messages.specs.declared.body.Body.{Body}
use Rattle.messages.specs.declared.body.Body.TheVariants.{DepOk, Done, PartNow, PartAt}
use Rattle.messages.specs.declared.envelope.Envelope.{Envelope}
use Rattle.messages.specs.Topology.{TopologyValue, dc_of}
use Rattle.messages.specs.Session.{SessionState, SessionStep, Open, Idle, Writing, FirstRound, SecondRound, Moving, HeardNow, HeardAt, calm, moved, is_idle}
use Rattle.messages.specs.Submitting.{home_node}
use Rattle.messages.specs.Rounds.{asked_nodes, all_heard, effective_time, late_nodes, is_late, all_heard_at, rows_taken}
use Rattle.messages.specs.SessionEvents.{answered, given_up, written, read_at_of, left_after, heard}
use Rattle.messages.proofs.Numbering.{dc_of_shard}
use Rattle.world.specs.Run.{Run}
use Rattle.world.proofs.lists.Members.{none_in_empty, contains_first, contains_one, contains_map, mapped_from, filter_contains}
use Rattle.world.proofs.safety.Invariant.{Hears, WritingSound, MovingSound, OpenSound, Inv}
use Rattle.world.proofs.envelopes.Asking.{missing_late, asked_below}
use Rattle.world.proofs.steps.HeardCases.{WriteAnswer, FirstAnswer, SecondAnswer, MoveAnswer, AwaitsNone, IsNotWritten, Ignored, with_rows_now, with_rows_at, opened_as, heard_cases}
use Rattle.world.proofs.keeping.SessionEnds.{open_txn}
use Rattle.world.proofs.keeping.SessionsKept.{first_is_open, first_answers, second_is_open, second_answers}
use Rattle.world.proofs.envelopes.About.{kind_of}
use Rattle.world.proofs.under_way.Underway.{Placed, FirstHas, SecondIs, Round, SecondHas, IsNotLeft, SaysLive, OpenLive}
use Rattle.world.proofs.under_way.LiveGrow.{sent_in}
use Rattle.world.proofs.under_way.OpenReads.{missing_some, missing_before, heard_after, heard_now_has, missing_at_some, late_missing, missing_at_before, heard_at_after, heard_at_has, left_before, left_now_has, left_has_after, first_home, second_home}
use Rattle.world.proofs.under_way.LiveSessions.{Comes, Went, waits_onward, waits_went, calm_went, ended_went, moved_went, answered_went, given_up_went}

-- an operation is open that writes nothing
abbrev pub WritesNothing : Open → Type 0
WritesNothing Idle = ⊥
WritesNothing (Writing coordinator) = ⊥
WritesNothing (FirstRound read heard) = Unit {0}
WritesNothing (SecondRound read time first heard) = Unit {0}
WritesNothing (Moving dc left floor) = Unit {0}

module _ (top : TopologyValue) (w x : Run) (node n : ℕ) (some : 0 < top.shards) (inv : Inv top w) (le : (w.sessions node).clock ≤ n)
    (homed : (w.sessions node).home < top.dcs)
    (placed : (k : WriterValue) → Contains (w.sessions node).dependencies k → Placed top w k)
    (live : OpenLive top w node (w.sessions node) (w.sessions node).current)
    (from sent : ℕ) (b : Body) (early : sent ≤ n) (says : Hears top w from node sent b) where
  abbrev a : SessionState
  a = w.sessions node

  open_live : {o : Open} → a.current ≡ o → OpenLive top w node a o
  open_live is = subst (λ z. OpenLive top w node a z) is live

  -- ## The first round

  module _ (read : Read) (old : List HeardNow) (rows : List RowNow) (k : FirstAnswer top a from b read old rows) where
    abbrev asked : List ℕ
    asked = asked_nodes top a read

    abbrev hs : List HeardNow
    hs = with_rows_now old from rows

    abbrev time : ℕ
    time = effective_time a.floor hs

    kept_went : all_heard asked hs ≡ false → Comes w x node (opened_as n a (FirstRound read hs) [])
        → Went top w x node (opened_as n a (FirstRound read hs) [])
    kept_went more c =
        let o = FirstRound read hs in
        let h : HeardNow = record { from = from; rows = rows } in
        let l : OpenLive top w node a (FirstRound read old) = open_live {o = FirstRound read old} k.current in
        let on = waits_onward top w x node n some inv homed placed live o
        (λ m f. heard_after asked old h m (subst (λ z. FirstHas top a z m) k.current f)) (λ t f. absurd (subst (λ z. SecondIs z t) k.current f))
        (λ m f. absurd (subst (λ z. SecondHas top a z m) k.current f)) (λ t f. tt) in
        let open_it : OpenLive top x node (record a { clock = n; current = o; untaken = None }) o =
        record { some = missing_some asked hs more; asked = λ m i. sent_in c.sent (l.asked m (missing_before asked old h m i)) } in
        waits_went top w x node n some inv homed placed live o [] c on (λ e m. absurd (none_in_empty e m)) open_it (λ busy. refl)

    -- the second round's messages
    asked_at : (m : ℕ) → Contains (late_nodes asked time hs) m → dc_of top m < top.dcs
    asked_at m i =
        let q = mapped_from (home_node top a) (shards_asked top.shards read.keys) m (filter_contains (is_late time hs) asked m i).0 in
        subst (λ d. d < top.dcs) (sym (ap (dc_of top) q.2 ∙ dc_of_shard top a.home q.0 (asked_below top.shards read.keys q.0 q.1))) homed

    second_went : (s : ℕ) (ss : List ℕ) → late_nodes asked time hs ≡ s ∷ ss
        → Comes w x node (opened_as n a (SecondRound read time hs []) (map (read_at_of node n a read time hs) (s ∷ ss)))
        → Went top w x node (opened_as n a (SecondRound read time hs []) (map (read_at_of node n a read time hs) (s ∷ ss)))
    second_went s ss e c =
        let o = SecondRound read time hs [] in
        let sends = map (read_at_of node n a read time hs) (s ∷ ss) in
        let on = waits_onward top w x node n some inv homed placed live o (λ m f. tt) (λ t f. absurd (subst (λ z. SecondIs z t) k.current f))
        (λ m f. absurd (subst (λ z. SecondHas top a z m) k.current f)) (λ t f. tt) in
        let fine : (u : Envelope) → Contains sends u → SaysLive top x u.from u.to (kind_of u.body) =
        λ u m. let q = mapped_from (read_at_of node n a read time hs) (s ∷ ss) u m in
        subst (λ z. SaysLive top x z.from z.to (kind_of z.body)) (sym q.2) (
          subst (λ z. Round z a.count time) (sym c.state) (record { number = le_refl a.count; round = λ r. refl }),
          asked_at q.0 (subst (λ l. Contains l q.0) (sym e) q.1),
        ) in
        let open_it : OpenLive top x node (record a { clock = n; current = o; untaken = None }) o =
        record {
          some = (s, late_missing asked time hs s (subst (λ l. Contains l s) (sym e) (contains_first s ss)));
          asked = λ m i.
              let j = subst (λ l. Contains l m) e (missing_late asked time hs [] m i) in
              record {
                message = read_at_of node n a read time hs m;
                among = c.news _ (contains_map (read_at_of node n a read time hs) (s ∷ ss) m j);
                by = refl;
                for = refl;
                is = refl;
              };
        } in
        waits_went top w x node n some inv homed placed live o sends c on fine open_it (λ busy. refl)

  -- ## The second round

  module _ (read : Read) (time : ℕ) (first : List HeardNow) (old : List HeardAt) (rows : List RowAt)
      (k : SecondAnswer top a from b read time first old (at.Rows rows)) where
    kept_at_went : all_heard_at (asked_nodes top a read) time first (with_rows_at old from rows) ≡ false
        → Comes w x node (opened_as n a (SecondRound read time first (with_rows_at old from rows)) [])
        → Went top w x node (opened_as n a (SecondRound read time first (with_rows_at old from rows)) [])
    kept_at_went more c =
        let asked = asked_nodes top a read in
        let h : HeardAt = record { from = from; rows = rows } in
        let o = SecondRound read time first (with_rows_at old from rows) in
        let l : OpenLive top w node a (SecondRound read time first old) = open_live {o = SecondRound read time first old} k.current in
        let on = waits_onward top w x node n some inv homed placed live o
        (λ m f. tt) (λ t f. subst (λ z. SecondIs z t) k.current f) (λ m f. heard_at_after asked time first old h m (subst (λ z. SecondHas top a z m) k.current f))
        (λ t f. tt) in
        let open_it : OpenLive top x node (record a { clock = n; current = o; untaken = None }) o =
        record {
          some = missing_at_some asked time first (with_rows_at old from rows) more;
          asked = λ m i. sent_in c.sent (l.asked m (missing_at_before asked time first old h m i));
        } in
        waits_went top w x node n some inv homed placed live o [] c on (λ e m. absurd (none_in_empty e m)) open_it (λ busy. refl)

  -- ## The move

  module _ (dc : ℕ) (left : List WriterValue) (floor : ℕ) (dependency : TxnValue) (commit : ℕ) (k : MoveAnswer node a b dc left floor dependency commit) where
    moving : OpenLive top w node a (Moving dc left floor)
    moving = open_live {o = Moving dc left floor} k.current

    counted_went : (u : WriterValue) (us : List WriterValue) → left_after dependency left ≡ u ∷ us
        → Comes w x node (opened_as n a (Moving dc (left_after dependency left) (max floor commit)) [])
        → Went top w x node (opened_as n a (Moving dc (left_after dependency left) (max floor commit)) [])
    counted_went u us e c =
        let o = Moving dc (left_after dependency left) (max floor commit) in
        let on = waits_onward top w x node n some inv homed placed live o (λ m f. tt) (λ t f. tt) (λ m f. tt)
        (λ t f. left_has_after dependency t left (subst (λ z. IsNotLeft z t) k.current f)) in
        let open_it : OpenLive top x node (record a { clock = n; current = o; untaken = None }) o =
        record {
          there = moving.there;
          some = (u, subst (λ l. Contains l u) (sym e) (contains_first u us));
          asked = λ d m. sent_in c.sent (moving.asked d (left_before dependency left d m));
        } in
        waits_went top w x node n some inv homed placed live o [] c on (λ e m. absurd (none_in_empty e m)) open_it (λ busy. refl)

    arrives_went : Comes w x node (moved n a dc (max floor commit)) → Went top w x node (moved n a dc (max floor commit))
    arrives_went c =
        let s : MovingSound top w node a dc left floor = subst (λ o. OpenSound top w node a o) k.current (inv.sessions node).current in
        moved_went top w x node n some inv homed placed live dc (max floor commit) moving.there s.opened c

  -- ## Every message

  wrote_went : (coordinator : ℕ) (t : TxnValue) (commit : ℕ) (stamp : StampValue) → WriteAnswer node a b coordinator t commit stamp
      → Comes w x node (written n a coordinator t commit stamp) → Went top w x node (written n a coordinator t commit stamp)
  wrote_went coordinator t commit stamp k c =
      let s : WritingSound top w node a coordinator = subst (λ o. OpenSound top w node a o) k.current (inv.sessions node).current in
      let this : WriterValue = record { txn = t; shard = coordinator } in
      let is : Placed top x this =
      record {
        submission = s.opened.submission;
        batch = s.batch;
        written = record { among = c.submitted s.opened.submission s.opened.among; txn = open_txn s.opened ∙ sym k.own; op = s.opened.op };
        coordinator = s.coordinator;
      } in
      ended_went top w x node n some inv homed placed live (max a.floor commit) (this ∷ []) (outcome.Wrote commit stamp) a.home (op.Batch s.batch) s.opened
      (λ d m. subst (λ y. Placed top x y) (sym (contains_one this d m)) is) c

  pub heard_went : Comes w x node (heard top node n a from b) → Went top w x node (heard top node n a from b)
  heard_went =
      heard_cases top node n a from b (λ st. Comes w x node st → Went top w x node st)
      (record {
        still = λ ignored c. calm_went top w x node n some inv homed placed live c;
        wrote = wrote_went;
        kept = λ read hs rows k more c. kept_went read hs rows k more c;
        second = λ read hs rows k all s ss e c. second_went read hs rows k s ss e c;
        ends =
            λ read hs rows k all none c.
            answered_went top w x node n some inv homed placed live read _ _ (first_is_open top w node n some inv le from sent b early says read hs rows k)
            (first_answers top w node n some inv le from sent b early says read hs rows k all none) c;
        kept_at = λ read time first hs rows k more c. kept_at_went read time first hs rows k more c;
        ends_at =
            λ read time first hs rows k all c.
            answered_went top w x node n some inv homed placed live read time _ (second_is_open top w node n some inv le from sent b early says read time first hs k.current)
            (second_answers top w node n some inv le from sent b early says read time first hs k.current rows k all) c;
        gives_up =
            λ read time first hs k c.
            given_up_went top w x node n some inv homed placed live read (second_is_open top w node n some inv le from sent b early says read time first hs k.current) c;
        counted = λ dc left floor dependency commit k u us e c. counted_went dc left floor dependency commit k u us e c;
        arrives = λ dc left floor dependency commit k e c. arrives_went dc left floor dependency commit k c;
      })

-- ## What is no longer missed

-- an operation that is a write ended, or an answer isn't missed
abbrev pub Left : TopologyValue → SessionState → ℕ → ℕ → Body → SessionStep → Type 0
Left top a me from (Done t commit stamp) st = t ≡ record { session = me; number = a.count } → (is_idle a.current ≡ true) ⊎ WritesNothing a.current ⊎ (is_idle st.state.current ≡ true)
Left top a me from (PartNow number rows) st = number ≡ a.count → FirstHas top st.state st.state.current from
Left top a me from (PartAt number bound answer) st = (number ≡ a.count → SecondIs a.current bound) → number ≡ a.count → SecondHas top st.state st.state.current from
Left top a me from (DepOk dependency waiter commit) st = waiter ≡ record { session = me; number = a.count } → IsNotLeft st.state.current dependency
Left top a me from other st = Unit {0}

module _ (top : TopologyValue) (me n : ℕ) (a : SessionState) (from : ℕ) where
  unwritten : (o : Open) (t : TxnValue) → IsNotWritten me a o t → t ≡ record { session = me; number = a.count } → (is_idle o ≡ true) ⊎ WritesNothing o
  unwritten Idle t k q = inl refl
  unwritten (Writing coordinator) t k q = absurd (k q)
  unwritten (FirstRound read got) t k q = inr tt
  unwritten (SecondRound read late first got) t k q = inr tt
  unwritten (Moving dc left floor) t k q = inr tt

  unawaited : (o : Open) (bound : ℕ) → AwaitsNone top a o from → SecondIs o bound → SecondHas top a o from
  unawaited Idle bound k is = tt
  unawaited (Writing coordinator) bound k is = tt
  unawaited (FirstRound read got) bound k is = is
  unawaited (SecondRound read late first got) bound k is = k
  unawaited (Moving dc left floor) bound k is = tt

  ignored_left : (b : Body) → Ignored top me a from b → Left top a me from b (calm n a)
  ignored_left (Done t commit stamp) k = λ q. elim (unwritten a.current t k q) [ inl i ↦ inl i | inr r ↦ inr (inl r) ]
  ignored_left (PartNow number rows) k = λ q. first_home top a (record a { clock = n }) refl a.current from (k q)
  ignored_left (PartAt number bound answer) k = λ r q. second_home top a (record a { clock = n }) refl a.current from (unawaited a.current bound (k q) (r q))
  ignored_left (DepOk dependency waiter commit) k = k
  ignored_left _ k = tt

  pub heard_leaves : (b : Body) → Left top a me from b (heard top me n a from b)
  heard_leaves b =
      heard_cases top me n a from b (Left top a me from b)
      (record {
        still = ignored_left b;
        wrote = λ coordinator t commit stamp k. subst (λ m. Left top a me from m (written n a coordinator t commit stamp)) (sym k.body) (λ q. inr (inr refl));
        kept =
            λ read hs rows k more.
            subst (λ m. Left top a me from m (opened_as n a (FirstRound read (with_rows_now hs from rows)) [])) (sym k.body)
            (λ q. heard_now_has (asked_nodes top a read) hs (record { from = from; rows = rows }) from refl);
        second =
            λ read hs rows k all s ss e.
            let gs = with_rows_now hs from rows in
            let time = effective_time a.floor gs in
            subst (λ m. Left top a me from m (opened_as n a (SecondRound read time gs []) (map (read_at_of me n a read time gs) (s ∷ ss)))) (sym k.body) (λ q. tt);
        ends =
            λ read hs rows k all none.
            let gs = with_rows_now hs from rows in
            let time = effective_time a.floor gs in
            subst (λ m. Left top a me from m (answered n a read time (rows_taken time gs []))) (sym k.body) (λ q. tt);
        kept_at =
            λ read time first hs rows k more.
            subst (λ m. Left top a me from m (opened_as n a (SecondRound read time first (with_rows_at hs from rows)) [])) (sym k.body)
            (λ r q. heard_at_has (asked_nodes top a read) time first hs (record { from = from; rows = rows }) from refl);
        ends_at =
            λ read time first hs rows k all.
            subst (λ m. Left top a me from m (answered n a read time (rows_taken time first (with_rows_at hs from rows)))) (sym k.body) (λ r q. tt);
        gives_up = λ read time first hs k. subst (λ m. Left top a me from m (given_up n a)) (sym k.body) (λ r q. tt);
        counted =
            λ dc left floor dependency commit k u us e.
            subst (λ m. Left top a me from m (opened_as n a (Moving dc (left_after dependency left) (max floor commit)) [])) (sym k.body)
            (λ q. left_now_has dependency left);
        arrives =
            λ dc left floor dependency commit k e.
            subst (λ m. Left top a me from m (moved n a dc (max floor commit))) (sym k.body) (λ q. tt);
      })
