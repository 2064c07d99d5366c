-- What the messages of a replicated write leave under way: Notify and DepOk, ReplBegin, ReplPart and PrepareRemote, and
-- DepCheck.
use Rattle.std.proofs.Common.{◌≡◌, ℕ, ◌<◌, true, false, List, [], ◌∷◌, ◌++◌, None, ◌⊎◌, inl, inr, sym, ap, ◌∙◌, subst, ◌&&◌, refl, subst₂, eqb-true}
use Rattle.std.specs.Prelude.{Contains, ◌==◌}
use Rattle.std.specs.List.{list_any}
use Rattle.std.proofs.lemmas.Bool.{and_parts}
use Rattle.logical_time.specs.Stamps.{TxnValue, WriterValue}
use Rattle.planner.specs.Plan.{cohorts_of}
use Rattle.messages.specs.Topology.{TopologyValue, dc_of, shard_of, shard_node}
use Rattle.messages.specs.Words.{is_same_txn, envelope}
use Rattle.messages.specs.Shard.{ShardStep, Vote, KeptBallot, Met, quiet, Replica, KeptPart, Asker}
use Rattle.messages.specs.Known.{kept_ballot, is_known, has_vote, is_cohort, is_awaited, is_met, decision_of, is_asker}
use Rattle.messages.specs.Replication.{is_ready, with_notice, is_unmet, with_met, sent_before, dep_checks, with_ballot}
use Rattle.messages.specs.declared.body.Body.TheVariants.{Notify, DepCheck}
use Rattle.messages.specs.declared.envelope.Envelope.{Envelope}
use Rattle.messages.specs.Reads.{answer}
use Rattle.messages.specs.Commits.{prepare_part}
use Rattle.shard.proofs.steps.HandledCases.{ReadyStep, with_asker}
use Rattle.shard.proofs.steps.Within.{ready_step_in}
use Rattle.world.specs.Run.{Run, Submission}
use Rattle.world.proofs.lists.Members.{none_in_empty, contains_first, contains_one, Contains-push, last_or_old, Contains-append_left, Contains-append_right, Contains-append_cases, contains_map, mapped_from, any_found, any_has, find_none, same_txn}
use Rattle.world.proofs.safety.Facts.{near, lead, KeptPartSound}
use Rattle.world.proofs.safety.Invariant.{Inv}
use Rattle.world.proofs.safety.Ables.{absent, unbegun}
use Rattle.world.proofs.safety.OneBatch.{written_at, submitted_one, batch_one}
use Rattle.world.proofs.envelopes.About.{OfNotify, OfDepCheck}
use Rattle.world.proofs.under_way.Underway.{NoticeLive, HasPrepared, HasKeptPart, HasKeptBallot, Knows, Awaits, WaitsFor, of_ballot, of_moving, vote_of, met_of, Leads, Onward, Entries, ShardLive, WasCounted, by_ballot, Acted, Away, Placed, KeptPartLive, KeptBallotLive, AskerLive}
use Rattle.world.proofs.under_way.LiveGrow.{prepared_on, decision_on, shard_on, stays_in, kept_part_on, kept_ballot_on}
use Rattle.world.proofs.under_way.LivePlaces.{not_and, same_at, vote_from, met_from, known_cases, lead_beside, among_cohorts, near_leads}
use Rattle.world.proofs.under_way.LiveSteps.{Here, Left, quiet_left, Rounds, Fine}
use Rattle.world.proofs.under_way.LiveReady.{ready_left}
use Rattle.world.proofs.shards.RightAnswers.{unready_untouched}
use Rattle.world.proofs.envelopes.Near.{near_dc, coordinator_below}
use Rattle.world.proofs.under_way.LiveHeld.{prepare_left}

module _ (top : TopologyValue) (w x : Run) (node n : ℕ) (some : 0 < top.shards) (was : Inv top w) (inv : Inv top x) (g : Onward top w x)
    (live : ShardLive top w node (w.shards node)) (rounds : Rounds x (w.shards node).waiting) where
  kx : ShardLive top x node (w.shards node)
  kx = shard_on g live

  -- nobody voted for a ballot that misses something
  unvoted : (r : KeptBallot) → Contains (w.shards node).kept_ballots r → is_ready top node (w.shards node) r ≡ false → (v : Vote) → Contains (w.shards node).votes v → v.txn ≡ r.txn → ⊥
  unvoted r m e v i q = let b = live.entries.votes v i in (unready_untouched top w was node r m e).unbegun b.0 b.1 (b.2 ∙ q)

  -- a kept part is on a cohort
  part_beside : (t : TxnValue) → Leads top x node t → HasKeptPart (w.shards node) t → ⊥
  part_beside t leads k =
      let s = (inv.shards node).kept_parts k.0 (stays_in _ _ (g.shards node).kept_parts k.0 k.1) in
      lead_beside top x some inv.submitted node t leads (record { submission = s.submission; batch = s.batch; written = written_at k.2 s.written; cohort = s.cohort })

  -- what a coordinator knows of a replicated transaction
  pub known_replica : (t : TxnValue) → Leads top x node t → is_known t (w.shards node) ≡ true → HasKeptBallot (w.shards node) t ⊎ Knows (x.shards node) t
  unfolding kx
  known_replica t leads e =
      elim (known_cases t (w.shards node) e) [
        | inl b ↦ inr (inl (subst (λ z. HasPrepared (x.shards node) z) b.2 (kx.entries.ballots b.0 b.1).0))
        | inr (inl p) ↦ inr (inl (prepared_on (g.shards node) p))
        | inr (inr (inl k)) ↦ absurd (part_beside t leads k)
        | inr (inr (inr (inl r))) ↦ inl r
        | inr (inr (inr (inr d))) ↦ inr (inr (decision_on (g.shards node) d))
      ]

  -- ## Notify

  notice_entries : (t : TxnValue) (from : ℕ) → NoticeLive top x node (vote_of t from) → Entries top x node (with_notice (w.shards node) t from)
  unfolding kx
  notice_entries t from k =
      let e = kx.entries in
      record {
        prepared = e.prepared;
        ballots = e.ballots;
        kept_parts = e.kept_parts;
        kept_ballots = e.kept_ballots;
        early = e.early;
        votes = e.votes;
        notices = λ v m. elim (last_or_old v (vote_of t from) (w.shards node).notices m) [ inl o ↦ e.notices v o | inr q ↦ subst (λ z. NoticeLive top x node z) (sym q) k ];
        decided = e.decided;
        applied = e.applied;
        askers = e.askers;
        told = e.told;
      }

  -- of another transaction the notices were there before
  old_notices : (t u : TxnValue) (from node : ℕ) (vs : List Vote) → (u ≡ t → ⊥) → Contains (vs ++ vote_of t from ∷ []) (vote_of u node) → Contains vs (vote_of u node)
  old_notices t u from node vs ne m = elim (last_or_old (vote_of u node) (vote_of t from) vs m) [ inl o ↦ o | inr q ↦ absurd (ne (ap (λ (z : Vote). z.txn) q)) ]

  -- a notice that isn't awaited was counted: its sender is a cohort
  pub notice_before : (t : TxnValue) (from : ℕ) → HasKeptPart (x.shards from) t → dc_of top from ≡ dc_of top node → (r : KeptBallot) → Contains (w.shards node).kept_ballots r → r.txn ≡ t
      → is_awaited top node r.cohorts (w.shards node).notices t from ≡ false → Contains (x.shards node).notices (vote_of t from)
  notice_before t from k dc r m q e =
      let s = (inv.shards from).kept_parts k.0 k.1 in
      let b = (inv.shards node).kept_ballots r (stays_in _ _ (g.shards node).kept_ballots r m) in
      let cohort = subst (λ l. Contains l (shard_of top from)) (ap (cohorts_of top.shards) (batch_one inv.submitted (written_at k.2 s.written) (written_at q b.written)) ∙ sym b.cohorts) s.cohort in
      stays_in _ _ (g.shards node).notices (vote_of t from) (vote_from (w.shards node).notices t from
      (not_and (is_cohort top node r.cohorts from) (has_vote (w.shards node).notices t from) e (among_cohorts top node from r.cohorts cohort dc)))

  pub notice_left : (t : TxnValue) (from : ℕ) → HasKeptPart (x.shards from) t → Leads top x node t → dc_of top from ≡ dc_of top node → (r : KeptBallot) → Contains (w.shards node).kept_ballots r → r.txn ≡ t
      → is_ready top node (w.shards node) r ≡ false → (st : ShardStep) → ReadyStep top node n (with_notice (w.shards node) r.txn from) r st → Here x node st
      → Left top x node st × Contains (x.shards node).notices (vote_of t from)
  unfolding kx
  notice_left t from k leads dc r m q unready st step here =
      let a = with_notice (w.shards node) r.txn from in (
        ready_left top x node n some inv a r rounds (notice_entries r.txn from (subst (λ z. NoticeLive top x node (vote_of z from)) (sym q) (k, leads, dc))) kx.counted kx.voted m st step here
            (λ u i ne f d. kx.ready u i (λ c j. old_notices r.txn u.txn from (near top node c) (w.shards node).notices ne (f c j)) d)
            (unvoted r m unready),
        subst (λ z. Contains z.notices (vote_of t from)) (sym here.state)
            (stays_in _ _ (ready_step_in top node n a r st step).notices (vote_of t from) (subst (λ z. Contains a.notices (vote_of z from)) q (Contains-push (w.shards node).notices (vote_of r.txn from)))),
      )

  none_kept : (t : TxnValue) → kept_ballot t (w.shards node) ≡ None → (r : KeptBallot) → Contains (w.shards node).kept_ballots r → r.txn ≡ t → ⊥
  none_kept t e = absent (λ r. r.txn) t (w.shards node).kept_ballots (find_none (λ r. is_same_txn r.txn t) (w.shards node).kept_ballots e)

  -- it came before, or the transaction is known
  pub early_notice_before : (t : TxnValue) (from : ℕ) → Leads top x node t → kept_ballot t (w.shards node) ≡ None
      → (is_known t (w.shards node) ≡ true) ⊎ (has_vote (w.shards node).notices t from ≡ true) → Acted top x from node (OfNotify t)
  early_notice_before t from leads none (inl e) = elim (known_replica t leads e) [ inl r ↦ absurd (none_kept t none r.0 r.1 r.2) | inr y ↦ inr y ]
  early_notice_before t from leads none (inr f) = inl (stays_in _ _ (g.shards node).notices (vote_of t from) (vote_from (w.shards node).notices t from f))

  pub early_notice_left : (t : TxnValue) (from : ℕ) → HasKeptPart (x.shards from) t → Leads top x node t → dc_of top from ≡ dc_of top node → kept_ballot t (w.shards node) ≡ None
      → Here x node (quiet n (with_notice (w.shards node) t from))
      → Left top x node (quiet n (with_notice (w.shards node) t from)) × Acted top x from node (OfNotify t)
  unfolding kx
  early_notice_left t from k leads dc none here = (
    quiet_left n
        (record {
          entries = notice_entries t from (k, leads, dc);
          counted = kx.counted;
          voted = kx.voted;
          ready = λ u m i d. kx.ready u m (λ c j. old_notices t u.txn from (near top node c) (w.shards node).notices (none_kept t none u m) (i c j)) d;
        }),
    inl (subst (λ z. Contains z.notices (vote_of t from)) (sym here.state) (Contains-push (w.shards node).notices (vote_of t from))),
  )

  -- ## DepOk

  met_entries : (waiter dependency : TxnValue) → Entries top x node (with_met (w.shards node) waiter dependency)
  unfolding kx
  met_entries waiter dependency =
      let e = kx.entries in
      record {
        prepared = e.prepared;
        ballots = e.ballots;
        kept_parts = e.kept_parts;
        kept_ballots = e.kept_ballots;
        early = e.early;
        votes = e.votes;
        notices = e.notices;
        decided = e.decided;
        applied = e.applied;
        askers = e.askers;
        told = e.told;
      }

  -- a ballot of the waiter names the dependency
  names : (waiter dependency : TxnValue) → Awaits (w.shards node) waiter dependency → (r : KeptBallot) → Contains (w.shards node).kept_ballots r → r.txn ≡ waiter
      → list_any (λ w. is_same_txn w.txn dependency) r.dependencies ≡ true
  names waiter dependency k r m q =
      let b = (inv.shards node).kept_ballots r (stays_in _ _ (g.shards node).kept_ballots r m) in
      let c = (inv.shards node).kept_ballots k.ballot (stays_in _ _ (g.shards node).kept_ballots k.ballot k.among) in
      let same : k.ballot.dependencies ≡ r.dependencies = c.dependencies ∙ ap (λ s. s.dependencies) (submitted_one inv.submitted (written_at k.txn c.written) (written_at q b.written)) ∙ sym b.dependencies in
      any_has (λ w. is_same_txn w.txn dependency) r.dependencies k.writer (subst (λ l. Contains l k.writer) same k.named) (same_at k.writer.txn dependency k.is)

  -- an answer that isn't missing was counted
  pub answer_before : (waiter dependency : TxnValue) → Awaits (w.shards node) waiter dependency
      → (kept_ballot waiter (w.shards node) ≡ None)
      ⊎ ((r : KeptBallot) × Contains (w.shards node).kept_ballots r × (r.txn ≡ waiter) × (is_unmet (w.shards node).met r dependency ≡ false))
      → Contains (x.shards node).met (met_of waiter dependency)
  answer_before waiter dependency k (inl e) = absurd (none_kept waiter e k.ballot k.among k.txn)
  answer_before waiter dependency k (inr (r, has, q, e)) =
      let y = not_and (list_any (λ w. is_same_txn w.txn dependency) r.dependencies) (is_met (w.shards node).met r.txn dependency) e
      (names waiter dependency k r has q) in
      stays_in _ _ (g.shards node).met (met_of waiter dependency) (subst (λ z. Contains (w.shards node).met (met_of z dependency)) q (met_from (w.shards node).met r.txn dependency y))

  pub answer_counts_left : (waiter dependency : TxnValue) → (r : KeptBallot) → Contains (w.shards node).kept_ballots r → r.txn ≡ waiter → is_ready top node (w.shards node) r ≡ false
      → (st : ShardStep) → ReadyStep top node n (with_met (w.shards node) r.txn dependency) r st → Here x node st
      → Left top x node st × Contains (x.shards node).met (met_of waiter dependency)
  unfolding kx
  answer_counts_left waiter dependency r m q unready st step here =
      let a = with_met (w.shards node) r.txn dependency in (
        ready_left top x node n some inv a r rounds (met_entries r.txn dependency) kx.counted kx.voted m st step here
            (λ u i ne f d. kx.ready u i f
            (λ z j. elim (last_or_old (met_of u.txn z.txn) (met_of r.txn dependency) (w.shards node).met (d z j)) [ inl o ↦ o | inr y ↦ absurd (ne (ap (λ (v : Met). v.waiter) y)) ]))
            (unvoted r m unready),
        subst (λ z. Contains z.met (met_of waiter dependency)) (sym here.state)
            (stays_in _ _ (ready_step_in top node n a r st step).met (met_of waiter dependency) (subst (λ z. Contains a.met (met_of z dependency)) q (Contains-push (w.shards node).met (met_of r.txn dependency)))),
      )

  -- a shard has no move: a ballot waits for the answer, and counts it
  pub awaits_here : (dc : ℕ) (waiter dependency : TxnValue) → ((b : Submission) → Contains w.submitted b → b.session ≡ node → ⊥) → WaitsFor top w dc node waiter dependency
      → Awaits (w.shards node) waiter dependency
  awaits_here dc waiter dependency none (of_ballot k) = k
  awaits_here dc waiter dependency none (of_moving b m is own to k n q) = absurd (none b m own)

  pub was_counted : (waiter dependency : TxnValue) → Awaits (w.shards node) waiter dependency → Contains (x.shards node).met (met_of waiter dependency)
      → WasCounted x node waiter dependency
  was_counted waiter dependency k m = by_ballot (k.ballot, stays_in _ _ (g.shards node).kept_ballots k.ballot k.among, k.txn) m

  -- ## ReplBegin

  pub repl_begin_left : (r : KeptBallot) → Away top x node r.txn → dc_of top node < top.dcs → ((k : WriterValue) → Contains r.dependencies k → Placed top x k)
      → is_known r.txn (w.shards node) ≡ false → (st : ShardStep) → ReadyStep top node n (with_ballot (w.shards node) r) r st → Here x node (sent_before (dep_checks top node n r) st)
      → Left top x node (sent_before (dep_checks top node n r) st) × HasKeptBallot (x.shards node) r.txn
  unfolding kx
  repl_begin_left r away dc placed e st step here =
      let a = with_ballot (w.shards node) r in
      let to : WriterValue → Envelope = λ w. envelope node (shard_node top (dc_of top node) w.shard) n (DepCheck w.txn r.txn) in
      let next : Here x node st = record { state = here.state; sent = λ u m. here.sent u (Contains-append_right (dep_checks top node n r) _ u m) } in
      let new : KeptBallotLive top x node r =
      record {
        away = away;
        here = dc;
        asked = λ d m. record { message = to d; among = here.sent (to d) (Contains-append_left (dep_checks top node n r) _ (to d) (contains_map to r.dependencies d m)); by = refl; for = refl; is = refl };
      } in
      let kept : Contains (x.shards node).kept_ballots r = subst (λ z. Contains z.kept_ballots r) (sym here.state) (stays_in _ _ (ready_step_in top node n a r st step).kept_ballots r (Contains-push (w.shards node).kept_ballots r)) in
      let o = kx.entries in
      let entries : Entries top x node a =
      record {
        prepared = o.prepared;
        ballots = o.ballots;
        kept_parts = o.kept_parts;
        kept_ballots = λ u m. elim (last_or_old u r (w.shards node).kept_ballots m) [ inl i ↦ o.kept_ballots u i | inr q ↦ subst (λ z. KeptBallotLive top x node z) (sym q) new ];
        early = o.early;
        votes = o.votes;
        notices = o.notices;
        decided = o.decided;
        applied = o.applied;
        askers = o.askers;
        told = o.told;
      } in
      let left =
      ready_left top x node n some inv a r rounds entries kx.counted kx.voted (Contains-push (w.shards node).kept_ballots r) st step next
      (λ u m ne f d. elim (last_or_old u r (w.shards node).kept_ballots m) [ inl i ↦ kx.ready u i f d | inr q ↦ absurd (ne (ap (λ (z : KeptBallot). z.txn) q)) ])
      (λ v m q. let b = live.entries.votes v m in unbegun r.txn (w.shards node) e b.0 b.1 (b.2 ∙ q)) in (
        record {
          live = left.live;
          sends = λ u m. elim (Contains-append_cases (dep_checks top node n r) _ u m) [
            | inl i ↦
                let q = mapped_from to r.dependencies u i in
                let p = placed q.0 q.1 in
                let below : q.0.shard < top.shards = subst (λ z. z < top.shards) (sym p.coordinator) (coordinator_below top.shards p.batch some) in
                subst (λ z. Fine top x z) (sym q.2) (
                  near_leads top x some inv.submitted node q.0.shard q.0.txn p.submission p.batch p.written p.coordinator below,
                  subst (λ z. z < top.dcs) (sym (near_dc top node q.0.shard below)) dc,
                  of_ballot (record { ballot = r; among = kept; txn = refl; writer = q.0; named = q.1; is = refl }),
                )
            | inr i ↦ left.sends u i
          ];
        },
        (r, kept, refl),
      )

  -- ## ReplPart

  -- the part, or the ballot, was kept before
  pub part_before : (t : TxnValue) → is_known t (w.shards node) ≡ true → HasKeptPart (x.shards node) t ⊎ HasKeptBallot (x.shards node) t ⊎ Knows (x.shards node) t
  unfolding kx
  part_before t e =
      elim (known_cases t (w.shards node) e) [
        | inl b ↦ inr (inr (inl (subst (λ z. HasPrepared (x.shards node) z) b.2 (kx.entries.ballots b.0 b.1).0)))
        | inr (inl p) ↦ inr (inr (inl (prepared_on (g.shards node) p)))
        | inr (inr (inl p)) ↦ inl (kept_part_on (g.shards node) p)
        | inr (inr (inr (inl r))) ↦ inr (inl (kept_ballot_on (g.shards node) r))
        | inr (inr (inr (inr d))) ↦ inr (inr (inr (decision_on (g.shards node) d)))
      ]

  pub keeps_part_left : (k : KeptPart) → KeptPartSound top x node k → Away top x node k.txn → dc_of top node < top.dcs
      → Here x node (answer n (record (w.shards node) { kept_parts = (w.shards node).kept_parts ++ k ∷ [] }) (envelope node (shard_node top (dc_of top node) k.coordinator) n (Notify k.txn)))
      → Left top x node (answer n (record (w.shards node) { kept_parts = (w.shards node).kept_parts ++ k ∷ [] }) (envelope node (shard_node top (dc_of top node) k.coordinator) n (Notify k.txn)))
      × HasKeptPart (x.shards node) k.txn
  unfolding kx
  keeps_part_left k s away dc here =
      let has : HasKeptPart (x.shards node) k.txn = subst (λ z. HasKeptPart z k.txn) (sym here.state) (k, Contains-push (w.shards node).kept_parts k, refl) in
      let new : KeptPartLive top x node k = record { away = away; here = dc; told = record { message = _; among = here.sent _ (contains_first _ []); by = refl; for = refl; is = refl } } in
      let below : k.coordinator < top.shards = subst (λ z. z < top.shards) (sym s.coordinator) (coordinator_below top.shards s.batch some) in
      let o = kx.entries in (
        record {
          live =
              record {
                entries =
                    record {
                      prepared = o.prepared;
                      ballots = o.ballots;
                      kept_parts = λ u m. elim (last_or_old u k (w.shards node).kept_parts m) [ inl i ↦ o.kept_parts u i | inr q ↦ subst (λ z. KeptPartLive top x node z) (sym q) new ];
                      kept_ballots = o.kept_ballots;
                      early = o.early;
                      votes = o.votes;
                      notices = o.notices;
                      decided = o.decided;
                      applied = o.applied;
                      askers = o.askers;
                      told = o.told;
                    };
                counted = kx.counted;
                voted = kx.voted;
                ready = kx.ready;
              };
          sends = λ u m. subst (λ z. Fine top x z) (sym (contains_one _ u m)) (
            has,
            near_leads top x some inv.submitted node k.coordinator k.txn s.submission s.batch s.written s.coordinator below,
            sym (near_dc top node k.coordinator below),
          );
        },
        has,
      )

  -- ## PrepareRemote

  pub prepares_replica_left : (from : ℕ) (t : TxnValue) → Knows (x.shards from) t → Leads top x from t → dc_of top from ≡ dc_of top node
      → (k : KeptPart) → Contains (w.shards node).kept_parts k → k.txn ≡ t → Here x node (prepare_part top node n (w.shards node) k.txn k.rows k.coordinator Replica)
      → Left top x node (prepare_part top node n (w.shards node) k.txn k.rows k.coordinator Replica) × Knows (x.shards node) t
  unfolding kx
  prepares_replica_left from t known leads dc k m kt here =
      let s = (inv.shards node).kept_parts k (stays_in _ _ (g.shards node).kept_parts k m) in
      let same = batch_one inv.submitted leads.written (written_at kt s.written) in
      let from_there : from ≡ near top node k.coordinator = leads.here ∙ ap (λ d. lead top d leads.batch) dc ∙ ap (lead top (dc_of top node)) same ∙ ap (near top node) (sym s.coordinator) in
      let below : k.coordinator < top.shards = subst (λ z. z < top.shards) (sym s.coordinator) (coordinator_below top.shards s.batch some) in
      let r =
      prepare_left top x node n (w.shards node) k.txn k.rows k.coordinator Replica kx (λ y. (y, (k, stays_in _ _ (g.shards node).kept_parts k m, refl))) (
        inr (subst₂ (λ c z. Knows (x.shards c) z) from_there (sym kt) known),
        record { submission = s.submission; batch = s.batch; written = s.written; cohort = s.cohort },
        near_leads top x some inv.submitted node k.coordinator k.txn s.submission s.batch s.written s.coordinator below,
        sym (near_dc top node k.coordinator below),
      ) here in
      (r.0, subst (λ z. Knows (x.shards node) z) kt r.1)

  -- ## DepCheck

  pub asked_before : (k : Asker) → is_asker (w.shards node).askers k.dependency k.waiter k.from ≡ true → Acted top x k.from node (OfDepCheck k.dependency k.waiter)
  asked_before k e =
      let r = any_found (λ y. is_same_txn y.dependency k.dependency && is_same_txn y.waiter k.waiter && (y.from == k.from)) (w.shards node).askers e in
      let p = and_parts (is_same_txn r.0.dependency k.dependency && is_same_txn r.0.waiter k.waiter) (r.0.from == k.from) r.2 in
      let q = and_parts (is_same_txn r.0.dependency k.dependency) (is_same_txn r.0.waiter k.waiter) p.0 in
      inr (r.0, stays_in _ _ (g.shards node).askers r.0 r.1, same_txn r.0.dependency k.dependency q.0, same_txn r.0.waiter k.waiter q.1, eqb-true r.0.from k.from p.1)

  pub remembers_left : (k : Asker) → Leads top x node k.dependency → dc_of top node < top.dcs → WaitsFor top x (dc_of top node) k.from k.waiter k.dependency
      → decision_of k.dependency (w.shards node) ≡ None → Here x node (quiet n (with_asker (w.shards node) k.dependency k.waiter k.from))
      → Left top x node (quiet n (with_asker (w.shards node) k.dependency k.waiter k.from)) × Acted top x k.from node (OfDepCheck k.dependency k.waiter)
  unfolding kx
  remembers_left k leads dc awaits none here =
      let o = kx.entries in
      let new : AskerLive top x node k = record { leads = leads; here = dc; awaits = awaits } in (
        record {
          live =
              record {
                entries =
                    record {
                      prepared = o.prepared;
                      ballots = o.ballots;
                      kept_parts = o.kept_parts;
                      kept_ballots = o.kept_ballots;
                      early = o.early;
                      votes = o.votes;
                      notices = o.notices;
                      decided = o.decided;
                      applied = o.applied;
                      askers = λ u m. elim (last_or_old u k (w.shards node).askers m) [ inl i ↦ o.askers u i | inr q ↦ subst (λ z. AskerLive top x node z) (sym q) new ];
                      told = λ u d m i q. elim (last_or_old u k (w.shards node).askers m) [
                        | inl y ↦ o.told u d y i q
                        | inr y ↦ absurd (absent (λ d. d.txn) k.dependency (w.shards node).decided (find_none (λ d. is_same_txn d.txn k.dependency) (w.shards node).decided none) d i (q ∙ ap (λ (z : Asker). z.dependency) y))
                      ];
                    };
                counted = kx.counted;
                voted = kx.voted;
                ready = kx.ready;
              };
          sends = λ u m. absurd (none_in_empty u m);
        },
        inr (subst (λ z. (y : Asker) × Contains z.askers y × (y.dependency ≡ k.dependency) × (y.waiter ≡ k.waiter) × (y.from ≡ k.from)) (sym here.state) (k, Contains-push (w.shards node).askers k, refl, refl, refl)),
      )
