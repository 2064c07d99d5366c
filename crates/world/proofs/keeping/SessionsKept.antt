-- Each message that a session hears keeps all.
use Rattle.std.proofs.Common.{◌≡◌, ℕ, ◌+◌, ◌<◌, ◌≤◌, max, Bool, true, false, not, List, [], ◌∷◌, map, ◌⊎◌, None, inl, inr, refl, sym, ap, ap₂, ◌∙◌, subst, arith, le_refl, le_trans}
use Rattle.std.specs.Prelude.{Contains}
use Rattle.std.specs.List.{list_all}
use Rattle.logical_time.specs.Stamps.{StampValue, TxnValue, WriterValue}
use Rattle.slice.specs.declared.read.Read.{Read}
use Rattle.messages.specs.declared.rows_now.RowNow.{RowNow}
use Rattle.messages.specs.declared.rows_at.RowAt.{RowAt}
use Rattle.messages.specs.declared.rows_at.AtTime.TheVariants as at
use Rattle.messages.specs.declared.op.Op.TheVariants as op
use Rattle.messages.specs.declared.outcome.Outcome.TheVariants as outcome
use Rattle.messages.specs.declared.body.Body.{Body}
use Rattle.messages.specs.declared.body.Body.TheVariants.{Done}
use Rattle.messages.specs.Topology.{TopologyValue, dc_of, shard_of}
use Rattle.messages.specs.Session.{SessionState, Open, Idle, Writing, FirstRound, SecondRound, Moving, HeardNow, HeardAt, moved, is_idle}
use Rattle.messages.specs.Submitting.{share_of}
use Rattle.messages.specs.Words.{is_same_txn}
use Rattle.messages.specs.Rounds.{asked_nodes, all_heard, effective_time, late_keys, late_nodes, was_heard_at, all_heard_at, rows_taken, answer_of, with_writers}
use Rattle.messages.specs.SessionEvents.{answered, given_up, written, read_at_of, left_after, heard}
use Rattle.messages.proofs.Greatest.{effective_above_floor}
use Rattle.world.specs.Run.{Run, Submission}
use Rattle.world.proofs.lists.Members.{none_in_empty, contains_one, last_or_old, mapped_from, contains_filter, same_txn}
use Rattle.world.proofs.growing.Growth.{FirstAsked, SecondAsked, AskedAt}
use Rattle.world.proofs.safety.Facts.{txn_of, IsWritten, lead, IsDecided, IsDone, DecisionSound, AnswersNow, AnswersAt}
use Rattle.world.proofs.safety.Invariant.{IsAtHome, TellsCommit, MovesTo, MayWait, of_shard, of_move, TellsNow, TellsAt, EnvelopeSound, IsOpen, HeardNowSound, HeardAtSound, WritingSound, FirstSound, SecondSound, MovingSound, OpenSound, AnsweredFrom, Inv, Hears}
use Rattle.world.proofs.safety.Lasting.{done_grows, done_later, answers_now_grow}
use Rattle.world.proofs.steps.HeardCases.{WriteAnswer, FirstAnswer, SecondAnswer, MoveAnswer, with_rows_now, with_rows_at, opened_as, heard_cases}
use Rattle.world.proofs.keeping.SessionSteps.{SessionAble}
use Rattle.world.proofs.keeping.SessionEnds.{open_txn, ended_able, moved_able, waits_able, calm_able, heard_now_later, heard_at_later}
use Rattle.world.proofs.envelopes.Asking.{missing_asked, missing_late}
use Rattle.world.proofs.envelopes.Near.{coordinator_below}
use Rattle.world.proofs.safety.OneBatch.{written_at, batch_one}
use Rattle.world.proofs.safety.Ables.{same_run}
use Rattle.world.proofs.keeping.TakenRows.{effective_by_clock, taken_answers}
use Rattle.world.proofs.keeping.WritersDone.{writers_done, writers_placed}

module _ (top : TopologyValue) (w : Run) (node n : ℕ) (some : 0 < top.shards) (inv : Inv top w) (le : (w.sessions node).clock ≤ n) where
  -- the session before the message
  abbrev a : SessionState
  a = w.sessions node

  -- after it and its outcome taken, where its operation is open or another
  abbrev later : Open → SessionState
  later o = record (w.sessions node) { clock = n; current = o; untaken = None }

  -- ## Done

  -- a session is at home where it submitted the open write
  still_home : (c from : ℕ) (t : TxnValue) → WritingSound top w node a c → IsAtHome top w from t → t ≡ record { session = node; number = a.count } → dc_of top from ≡ a.home
  still_home c from t k here is =
      let same : here.submission ≡ k.opened.submission =
      inv.submitted.one here.submission k.opened.submission here.written.among k.opened.among (here.written.txn ∙ is ∙ sym (open_txn k.opened)) in
      here.here ∙ ap (λ b. b.home) same ∙ k.opened.home

  -- the shard that decided the open write is its coordinator at the session's home
  decided_lead : (c from : ℕ) (t : TxnValue) (commit : ℕ) (stamp : StampValue) (k : WritingSound top w node a c) → IsDecided w from t commit stamp
      → IsAtHome top w from t
      → t ≡ record { session = node; number = a.count } → from ≡ lead top a.home k.batch
  decided_lead c from t commit stamp k d here is =
      let s : DecisionSound top w from d.decision = (inv.shards from).decided d.decision d.among in
      let opened : IsWritten w (record { session = node; number = a.count }) k.opened.submission k.batch = record { among = k.opened.among; txn = open_txn k.opened; op = k.opened.op } in
      s.here ∙ ap₂ (λ dc b. lead top dc b) (still_home c from t k here is) (batch_one inv.submitted (written_at (d.txn ∙ is) s.written) opened)

  written_able : (c from : ℕ) (t : TxnValue) (commit : ℕ) (stamp : StampValue) → a.current ≡ Writing c → WritingSound top w node a c → commit ≤ n → IsDecided w from t commit stamp
      → IsAtHome top w from t
      → t ≡ record { session = node; number = a.count } → SessionAble top w node (written n a c t commit stamp)
  written_able c from t commit stamp current k early d here is =
      let floor = (inv.sessions node).floor in
      let same = d.commit in
      let done : IsDone top w a.home t (max a.floor commit + 1) =
      record {
        node = from;
        here = still_home c from t k here is;
        decision = d.decision;
        among = d.among;
        txn = d.txn;
        commit = omega arith;
      } in
      ended_able top w node n inv le a.home (max a.floor commit) (record { txn = t; shard = c } ∷ []) (outcome.Wrote commit stamp) (op.Batch k.batch) (λ same. omega arith) (omega arith) k.opened tt
      (subst (λ m. IsDecided w m (record { session = node; number = a.count }) commit stamp) (decided_lead c from t commit stamp k d here is)
      (subst (λ u. IsDecided w from u commit stamp) is d))
      (λ u m. subst (λ z. IsDone top w a.home z.txn (max a.floor commit + 1)) (sym (contains_one _ u m)) done)
      (λ u m. subst (λ s. s < top.shards) (sym (ap (λ z. z.shard) (contains_one _ u m) ∙ k.coordinator)) (coordinator_below top.shards k.batch some))
      (ap is_idle current) refl
      (omega arith, (c, ap (λ (u : TxnValue). let z : WriterValue = record { txn = u; shard = c } in z ∷ []) is))

  -- ## The end of a read

  answered_able : (read : Read) (time : ℕ) (rows : List RowAt) → a.floor ≤ time → time ≤ n → (k : IsOpen w node a.count a.home (op.Read read))
      → k.submission.dependencies ≡ a.dependencies → AnsweredFrom top w a.home read time rows → is_idle a.current ≡ false
      → SessionAble top w node (answered n a read time rows)
  answered_able read time rows above below opened depends from busy =
      ended_able top w node n inv le a.home time (with_writers a.dependencies rows) (outcome.Read time (answer_of read rows)) (op.Read read) (λ same. above) below opened tt
      (record {
        rows = rows;
        answer = refl;
        from = from;
        depends =
            record {
              submission = opened.submission;
              among = opened.among;
              txn = open_txn opened;
              done = λ k m.
                  done_grows (same_run top w) (omega arith) ((inv.sessions node).dependencies k (subst (λ ds. Contains ds k) depends m));
            };
      })
      (writers_done top w some inv a.home a.floor time read rows a.dependencies from above (inv.sessions node).dependencies)
      (writers_placed top w some inv a.home time read rows a.dependencies from (inv.sessions node).placed)
      busy refl (refl, (rows, from, refl))

  -- ## A message

  module _ (from sent : ℕ) (b : Body) (early : sent ≤ n) (says : Hears top w from node sent b) where
    -- what is known of the open operation
    open_so : {o : Open} → a.current ≡ o → OpenSound top w node a o
    open_so is = subst (λ o. OpenSound top w node a o) is (inv.sessions node).current

    -- ## The first round

    module _ (read : Read) (old : List HeardNow) (rows : List RowNow) (answer : FirstAnswer top a from b read old rows) where
      abbrev hs : List HeardNow
      hs = with_rows_now old from rows

      first : FirstSound top w node a read old
      first = open_so {o = FirstRound read old} answer.current

      pub first_is_open : IsOpen w node a.count a.home (op.Read read)
      first_is_open = first.opened

      -- the answers that were kept before, and this one
      pub heard_first : (o : Open) (h : HeardNow) → Contains hs h → HeardNowSound top w (later o) read h
      heard_first o h m = by (last_or_old h (record { from = from; rows = rows }) old m)
        where
          tells : TellsNow top w from node sent a.count rows
          tells = subst (Hears top w from node sent) answer.body says

          share : tells.read ≡ share_of top read (shard_of top from)
          share = subst (λ z. FirstAsked top z from tells.read) answer.current (tells.asked.round refl)

          new : HeardNowSound top w (later o) read (record { from = from; rows = rows })
          new =
              record {
                asked = missing_asked (asked_nodes top a read) old from answer.missing;
                answers = subst (λ z. AnswersNow top w from n z rows) share (answers_now_grow (same_run top w) early tells.answers);
              }

          by : Contains old h ⊎ (h ≡ record { from = from; rows = rows }) → HeardNowSound top w (later o) read h
          by (inl i) = heard_now_later top w node n inv le o read h (first.heard h i)
          by (inr e) = subst (λ z. HeardNowSound top w (later o) read z) (sym e) new

      effective_early : effective_time a.floor hs ≤ n
      effective_early = effective_by_clock top w (later Idle) read hs some (heard_first Idle) (le_trans (inv.sessions node).floor le)

      pub first_answers : all_heard (asked_nodes top a read) hs ≡ true → late_nodes (asked_nodes top a read) (effective_time a.floor hs) hs ≡ []
          → AnsweredFrom top w a.home read (effective_time a.floor hs) (rows_taken (effective_time a.floor hs) hs [])
      first_answers all none =
          taken_answers top w (later Idle) read hs some (heard_first Idle) (effective_time a.floor hs) [] refl (λ h m. absurd (none_in_empty h m)) all
          (ap (list_all (was_heard_at [])) none)

      kept_able : SessionAble top w node (opened_as n a (FirstRound read hs) [])
      kept_able =
          waits_able top w node n inv le (FirstRound read hs) [] (λ m asked q. subst (λ z. FirstAsked top z m asked) answer.current q)
          (λ t m asked q. absurd (subst (λ z. SecondAsked z t m asked) answer.current q))
          (record { opened = first.opened; depends = first.depends; heard = heard_first (FirstRound read hs) }) (λ x g is env m. absurd (none_in_empty env m))
          (sym (ap is_idle answer.current))

      second_able : all_heard (asked_nodes top a read) hs ≡ true → (late : List ℕ)
          → SessionAble top w node (opened_as n a (SecondRound read (effective_time a.floor hs) hs []) (map (read_at_of node n a read (effective_time a.floor hs) hs) late))
      second_able all late =
          let time = effective_time a.floor hs in
          let o = SecondRound read time hs [] in
          waits_able top w node n inv le o (map (read_at_of node n a read time hs) late) (λ m asked q. tt)
          (λ t m asked q. absurd (subst (λ z. SecondAsked z t m asked) answer.current q))
          (record { opened = first.opened; depends = first.depends; first = heard_first o; all = all; time = refl; clock = effective_early; heard = λ h m. absurd (none_in_empty h m) })
          (λ x g is env m.
          let q = mapped_from (read_at_of node n a read time hs) late env m in
          subst (λ z. EnvelopeSound top x z) (sym q.2)
          (effective_early, subst (λ z. AskedAt z a.count time q.0 (record read { keys = late_keys time hs q.0 })) (sym is) (record { number = le_refl a.count; round = λ r. (refl, refl) })))
          (sym (ap is_idle answer.current))

      ends_able : all_heard (asked_nodes top a read) hs ≡ true → late_nodes (asked_nodes top a read) (effective_time a.floor hs) hs ≡ []
          → SessionAble top w node (answered n a read (effective_time a.floor hs) (rows_taken (effective_time a.floor hs) hs []))
      ends_able all none =
          answered_able read (effective_time a.floor hs) (rows_taken (effective_time a.floor hs) hs []) (effective_above_floor a.floor hs) effective_early
          first.opened first.depends (first_answers all none) (ap is_idle answer.current)

    -- ## The second round

    module _ (read : Read) (time : ℕ) (first : List HeardNow) (old : List HeardAt) (is_open : a.current ≡ SecondRound read time first old) where
      second : SecondSound top w node a read time first old
      second = open_so {o = SecondRound read time first old} is_open

      pub second_is_open : IsOpen w node a.count a.home (op.Read read)
      second_is_open = second.opened

      first_later : (o : Open) (h : HeardNow) → Contains first h → HeardNowSound top w (later o) read h
      first_later o h m = heard_now_later top w node n inv le o read h (second.first h m)

      module _ (rows : List RowAt) (answer : SecondAnswer top a from b read time first old (at.Rows rows)) where
        abbrev gs : List HeardAt
        gs = with_rows_at old from rows

        -- the answers that were kept before, and this one
        heard_second : (o : Open) (h : HeardAt) → Contains gs h → HeardAtSound top w (later o) read time first h
        heard_second o h m = by (last_or_old h (record { from = from; rows = rows }) old m)
          where
            tells : TellsAt top w from node a.count answer.bound rows
            tells = subst (Hears top w from node sent) answer.body says

            share : (time ≡ answer.bound) × (tells.read ≡ record read { keys = late_keys time first from })
            share = subst (λ z. SecondAsked z answer.bound from tells.read) answer.current (tells.asked.round refl)

            new : HeardAtSound top w (later o) read time first (record { from = from; rows = rows })
            new =
                record {
                  asked = missing_late (asked_nodes top a read) time first old from answer.missing;
                  answers =
                      subst (λ z. AnswersAt top w from time z rows) share.1 (subst (λ z. AnswersAt top w from z tells.read rows) (sym share.0) tells.answers);
                }

            by : Contains old h ⊎ (h ≡ record { from = from; rows = rows }) → HeardAtSound top w (later o) read time first h
            by (inl i) = heard_at_later top w node n inv le o read time first h (second.heard h i)
            by (inr e) = subst (λ z. HeardAtSound top w (later o) read time first z) (sym e) new

        pub second_answers : all_heard_at (asked_nodes top a read) time first gs ≡ true → AnsweredFrom top w a.home read time (rows_taken time first gs)
        second_answers all = taken_answers top w (later Idle) read first some (first_later Idle) time gs second.time (heard_second Idle) second.all all

        kept_at_able : SessionAble top w node (opened_as n a (SecondRound read time first gs) [])
        kept_at_able =
            let o = SecondRound read time first gs in
            waits_able top w node n inv le o [] (λ m asked q. tt) (λ t m asked q. subst (λ z. SecondAsked z t m asked) is_open q)
            (record {
              opened = second.opened;
              depends = second.depends;
              first = first_later o;
              all = second.all;
              time = second.time;
              clock = le_trans second.clock le;
              heard = heard_second o;
            }) (λ x g is env m. absurd (none_in_empty env m)) (sym (ap is_idle is_open))

        ends_at_able : all_heard_at (asked_nodes top a read) time first gs ≡ true → SessionAble top w node (answered n a read time (rows_taken time first gs))
        ends_at_able all =
            answered_able read time (rows_taken time first gs) (subst (λ t. a.floor ≤ t) (sym second.time) (effective_above_floor a.floor first))
            (le_trans second.clock le) second.opened second.depends (second_answers all) (ap is_idle is_open)

      gives_up_able : SessionAble top w node (given_up n a)
      gives_up_able =
          ended_able top w node n inv le a.home a.floor a.dependencies outcome.Collected (op.Read read) (λ same. le_refl a.floor)
          (le_trans (inv.sessions node).floor le) second.opened tt tt (inv.sessions node).dependencies (inv.sessions node).placed (ap is_idle is_open) refl refl

    -- ## A move

    module _ (dc : ℕ) (left : List WriterValue) (floor : ℕ) (dependency : TxnValue) (commit : ℕ) (answer : MoveAnswer node a b dc left floor dependency commit) where
      moving : MovingSound top w node a dc left floor
      moving = open_so {o = Moving dc left floor} answer.current

      tells : TellsCommit w from sent dependency commit × MayWait top w from (record { session = node; number = a.count }) node
      tells = subst (Hears top w from node sent) answer.body says

      -- the shard that tells it is of the data centre that the session moves to
      there : dc_of top from ≡ dc
      there = by tells.1
        where
          one : (s : Submission) → Contains w.submitted s → txn_of s ≡ record { session = node; number = a.count } → s.op ≡ op.Move dc
          one s m e = ap (λ z. z.op) (inv.submitted.one s moving.opened.submission m moving.opened.among (e ∙ sym (open_txn moving.opened))) ∙ moving.opened.op

          by : MayWait top w from (record { session = node; number = a.count }) node → dc_of top from ≡ dc
          by (of_shard s batch written e) = let z : op.Batch batch ≡ op.Move dc = sym written.op ∙ one s written.among written.txn in absurd (cc)
          by (of_move s m is own to) = sym (subst (MovesTo (dc_of top from)) (one s m is) to)

      told : IsDone top w dc dependency (max floor commit + 1)
      told =
          let d = tells.0.1.decided in
          let same = d.commit in
          record { node = from; here = there; decision = d.decision; among = d.among; txn = d.txn; commit = omega arith }

      floor_early : max floor commit ≤ n
      floor_early = let below = moving.clock in let time = tells.0.1.time in omega arith

      -- each dependency is still missing, or decided there by the greatest time so far
      still_or_done : (u : WriterValue) → Contains a.dependencies u → Contains (left_after dependency left) u ⊎ IsDone top w dc u.txn (max floor commit + 1)
      still_or_done u m = go (moving.answered u m) (is_same_txn u.txn dependency) refl
        where
          go : Contains left u ⊎ IsDone top w dc u.txn (floor + 1) → (s : Bool) → is_same_txn u.txn dependency ≡ s
              → Contains (left_after dependency left) u ⊎ IsDone top w dc u.txn (max floor commit + 1)
          go (inr d) s e = inr (done_later (omega arith) d)
          go (inl i) true e = inr (subst (λ t. IsDone top w dc t (max floor commit + 1)) (sym (same_txn u.txn dependency e)) told)
          go (inl i) false e = inl (contains_filter (λ (z : WriterValue). not (is_same_txn z.txn dependency)) left u i (ap not e))

      counted_able : SessionAble top w node (opened_as n a (Moving dc (left_after dependency left) (max floor commit)) [])
      counted_able =
          waits_able top w node n inv le (Moving dc (left_after dependency left) (max floor commit)) [] (λ m asked q. tt) (λ t m asked q. tt)
          (record { opened = moving.opened; depends = moving.depends; below = moving.below; away = moving.away; clock = floor_early; answered = still_or_done })
          (λ x g is env m. absurd (none_in_empty env m)) (sym (ap is_idle answer.current))

      -- at the last answer all is decided there
      arrives_able : left_after dependency left ≡ [] → SessionAble top w node (moved n a dc (max floor commit))
      arrives_able none =
          moved_able top w node n inv le dc (max floor commit) floor_early moving.opened moving.depends moving.away
          (λ u m. elim (still_or_done u m) [ inl i ↦ absurd (none_in_empty u (subst (λ l. Contains l u) none i)) | inr d ↦ d ]) (ap is_idle answer.current)

    -- ## Every message

    wrote_able : (c : ℕ) (t : TxnValue) (commit : ℕ) (stamp : StampValue) → WriteAnswer node a b c t commit stamp → SessionAble top w node (written n a c t commit stamp)
    wrote_able c t commit stamp k =
        let tells : Hears top w from node sent (Done t commit stamp) = subst (Hears top w from node sent) k.body says in
        written_able c from t commit stamp k.current (open_so {o = Writing c} k.current) (le_trans tells.0.time early) tells.0.decided tells.1 k.own

    pub heard_able : SessionAble top w node (heard top node n a from b)
    heard_able =
        heard_cases top node n a from b (SessionAble top w node)
        (record {
          still = λ ignored. calm_able top w node n inv le;
          wrote = wrote_able;
          kept = λ read hs rows k more. kept_able read hs rows k;
          second = λ read hs rows k all s ss e. second_able read hs rows k all (s ∷ ss);
          ends = λ read hs rows k all none. ends_able read hs rows k all none;
          kept_at = λ read time first hs rows k more. kept_at_able read time first hs k.current rows k;
          ends_at = λ read time first hs rows k all. ends_at_able read time first hs k.current rows k all;
          gives_up = λ read time first hs k. gives_up_able read time first hs k.current;
          counted = λ dc left floor dependency commit k u us e. counted_able dc left floor dependency commit k;
          arrives = λ dc left floor dependency commit k none. arrives_able dc left floor dependency commit k none;
        })
