-- What Commit, At, NotBy, Check and the messages of reads leave under way.
use Rattle.std.proofs.Common.{◌≡◌, ℕ, ◌<◌, true, ◌&&◌, List, [], ◌∷◌, ◌++◌, map, None, ◌⊎◌, inl, inr, refl, sym, ◌∙◌, subst, subst₂, eqb-true}
use Rattle.std.specs.Prelude.{◌==◌, nat_le, Contains}
use Rattle.std.proofs.lemmas.Bool.{and_parts, cases_eq}
use Rattle.logical_time.specs.Stamps.{StampValue, TxnValue, WriterValue}
use Rattle.slice.specs.declared.read.Read.{Read}
use Rattle.store.specs.declared.part.Applied.{Applied}
use Rattle.planner.specs.Plan.{cohorts_of}
use Rattle.messages.specs.declared.body.Body.TheVariants.{ReplPart}
use Rattle.messages.specs.declared.envelope.Envelope.{Envelope}
use Rattle.messages.specs.Topology.{TopologyValue, shard_of, shard_node}
use Rattle.messages.specs.Words.{is_same_txn, envelope, other_dcs}
use Rattle.messages.specs.Shard.{Role, Own, Cohort, Replica, PreparedPart}
use Rattle.messages.specs.Known.{prepared_part, is_applied}
use Rattle.messages.specs.Reads.{check_of, is_waiting, waiting_read, let_go}
use Rattle.messages.specs.Commits.{applied_part, repl_parts, apply_part}
use Rattle.world.specs.Run.{Run}
use Rattle.world.proofs.lists.Members.{none_in_empty, Contains-push, last_or_old, Contains-append_left, Contains-append_cases, contains_map, mapped_from, any_found, find_none}
use Rattle.world.proofs.safety.Facts.{near, RoleFits, PreparedSound, Sees}
use Rattle.world.proofs.safety.Invariant.{Inv}
use Rattle.world.proofs.safety.Ables.{absent}
use Rattle.world.proofs.envelopes.Near.{cohort_other, peer_dc, peer_number}
use Rattle.world.proofs.safety.OneBatch.{applied_sees}
use Rattle.world.proofs.safety.OneBatch.{written_at, batch_one}
use Rattle.world.proofs.envelopes.About.{OfReplPart, OfReadAt, OfPartAt, Sent}
use Rattle.world.proofs.under_way.Underway.{HasPrepared, HasKeptPart, Aside, Away, Onward, HasWait, Round, RoleLive, AppliedLive, ShardLive, Acted}
use Rattle.world.proofs.under_way.LiveGrow.{stays_in, sees_on, shard_on}
use Rattle.world.proofs.under_way.LivePlaces.{other_dc}
use Rattle.world.proofs.under_way.LiveSteps.{Here, Fine, Left, clock_live, Rounds, let_go_sends}

module _ (top : TopologyValue) (w x : Run) (node n : ℕ) (some : 0 < top.shards) (inv : Inv top x) (g : Onward top w x)
    (live : ShardLive top w node (w.shards node)) (rounds : Rounds x (w.shards node).waiting) where
  kx : ShardLive top x node (w.shards node)
  kx = shard_on g live

  part_of_run : (p : PreparedPart) → Contains (w.shards node).prepared p → PreparedSound top x node p
  part_of_run p m = (inv.shards node).prepared p (stays_in _ _ (g.shards node).prepared p m)

  -- ## Commit

  abbrev applied_as : PreparedPart → ℕ → StampValue → Applied
  applied_as p commit stamp = applied_part p.txn p.coordinator p.rows commit stamp

  -- what is replicated goes to a cohort in another data centre
  parts_fine : (p : PreparedPart) (stamp : StampValue) → Contains (w.shards node).prepared p → (role : Role) → p.role ≡ role → (e : Envelope) → Contains (repl_parts role top node n p stamp) e → Fine top x e
  parts_fine p stamp m Own q e i = absurd (none_in_empty e i)
  parts_fine p stamp m Replica q e i = absurd (none_in_empty e i)
  parts_fine p stamp m Cohort q e i =
      let s = part_of_run p m in
      let r = mapped_from (λ d. envelope node (shard_node top d (shard_of top node)) n (ReplPart p.txn p.rows stamp p.coordinator)) (other_dcs top node) e i in
      let d = other_dc top node r.0 r.1 in
      let dc = peer_dc top node r.0 some in
      subst (λ z. Fine top x z) (sym r.2) (
        record {
          submission = s.submission;
          batch = s.batch;
          written = s.written;
          cohort = subst (λ c. Contains (cohorts_of top.shards s.batch) c) (sym (peer_number top node r.0 some)) (subst (λ z. RoleFits z top s.batch node) q s.role);
        },
        record { submission = s.submission; batch = s.batch; written = s.written; away = λ z. d.1 (sym dc ∙ z ∙ sym (s.origin q)) },
        subst (λ z. z < top.dcs) (sym dc) d.0,
      )

  apply_left : (p : PreparedPart) (commit : ℕ) (stamp : StampValue) → Contains (w.shards node).prepared p → AppliedLive top x node (applied_as p commit stamp)
      → Left top x node (apply_part top node n (w.shards node) p commit stamp)
  unfolding kx
  apply_left p commit stamp m new =
      let e = kx.entries in
      record {
        live =
            record {
              entries =
                  record {
                    prepared = e.prepared;
                    ballots = e.ballots;
                    kept_parts = e.kept_parts;
                    kept_ballots = e.kept_ballots;
                    early = e.early;
                    votes = e.votes;
                    notices = e.notices;
                    decided = e.decided;
                    applied = λ v i. elim (last_or_old v (applied_as p commit stamp) (w.shards node).applied i) [ inl o ↦ e.applied v o | inr q ↦ subst (λ z. AppliedLive top x node z) (sym q) new ];
                    askers = e.askers;
                    told = e.told;
                  };
              counted = kx.counted;
              voted = kx.voted;
              ready = kx.ready;
            };
        sends = λ u i. elim (Contains-append_cases (repl_parts p.role top node n p stamp) _ u i) [
          | inl o ↦ parts_fine p stamp m p.role refl u o
          | inr o ↦ let_go_sends top x node n (record (w.shards node) { applied = (w.shards node).applied ++ applied_as p commit stamp ∷ [] }) p.txn (λ z. true) (w.shards node).waiting rounds u o
        ];
      }

  apply_sees : (p : PreparedPart) (commit : ℕ) (stamp : StampValue) (t : TxnValue) → p.txn ≡ t → Here x node (apply_part top node n (w.shards node) p commit stamp) → Sees (x.shards node).applied t
  apply_sees p commit stamp t q here = subst (λ z. Sees z.applied t) (sym here.state) (applied_as p commit stamp, Contains-push (w.shards node).applied (applied_as p commit stamp), q)

  parts_sent : (p : PreparedPart) (commit : ℕ) (stamp : StampValue) → Here x node (apply_part top node n (w.shards node) p commit stamp) → p.role ≡ Cohort
      → (dc : ℕ) → Contains (other_dcs top node) dc → Sent x.sent node (shard_node top dc (shard_of top node)) (OfReplPart p.txn)
  parts_sent p commit stamp here q dc m =
      let f : ℕ → Envelope = λ d. envelope node (shard_node top d (shard_of top node)) n (ReplPart p.txn p.rows stamp p.coordinator) in
      record {
        message = f dc;
        among = here.sent (f dc) (Contains-append_left (repl_parts p.role top node n p stamp) _ (f dc) (subst (λ r. Contains (repl_parts r top node n p stamp) (f dc)) (sym q) (contains_map f (other_dcs top node) dc m)));
        by = refl;
        for = refl;
        is = refl;
      }

  -- what the shard keeps of a transaction kept elsewhere
  kept_away : (t : TxnValue) → HasKeptPart (w.shards node) t → Away top x node t
  unfolding kx
  kept_away t k = subst (λ z. Away top x node z) k.2 (kx.entries.kept_parts k.0 k.1).away

  role_go : (t : TxnValue) (commit : ℕ) (stamp : StampValue) (p : PreparedPart) → Contains (w.shards node).prepared p → (p.role ≡ Own → ⊥)
      → (role : Role) → p.role ≡ role → Here x node (apply_part top node n (w.shards node) p commit stamp) → AppliedLive top x node (applied_as p commit stamp)
  role_go t commit stamp p m theirs Own r here = absurd (theirs r)
  role_go t commit stamp p m theirs Cohort r here = inr (inr (parts_sent p commit stamp here r))
  role_go t commit stamp p m theirs Replica r here =
      inr (inl (kept_away p.txn (subst (λ z. RoleLive z w node (near top node p.coordinator) p.txn) r (live.entries.prepared p m)).1))

  pub applies_left : (t : TxnValue) (commit : ℕ) (stamp : StampValue) (p : PreparedPart) → Contains (w.shards node).prepared p → p.txn ≡ t → (p.role ≡ Own → ⊥)
      → Here x node (apply_part top node n (w.shards node) p commit stamp)
      → Left top x node (apply_part top node n (w.shards node) p commit stamp) × Sees (x.shards node).applied t
  applies_left t commit stamp p m q theirs here = (
    apply_left p commit stamp m (role_go t commit stamp p m theirs p.role refl here),
    apply_sees p commit stamp t q here,
  )

  -- what isn't applied now was applied before: a cohort's part is no coordinator's
  pub applied_before : (t : TxnValue)
      → (prepared_part t (w.shards node) ≡ None)
      ⊎ ((p : PreparedPart) × Contains (w.shards node).prepared p × (p.txn ≡ t) × ((p.role ≡ Own) ⊎ (is_applied p.txn (w.shards node) ≡ true)))
      → HasPrepared (w.shards node) t → Aside top x node t → Sees (x.shards node).applied t
  applied_before t (inl e) p aside =
      absurd (absent (λ p. p.txn) t (w.shards node).prepared (find_none (λ p. is_same_txn p.txn t) (w.shards node).prepared e) p.0 p.1 p.2)
  applied_before t (inr (p, has, q, inl r)) known aside =
      let s = part_of_run p has in
      let own : shard_of top node ≡ _ = subst (λ z. RoleFits z top s.batch node) r s.role in
      absurd (cohort_other top.shards s.batch (shard_of top node) (subst (λ l. Contains (cohorts_of top.shards l) (shard_of top node)) (batch_one inv.submitted aside.written (written_at q s.written)) aside.cohort) own)
  applied_before t (inr (p, has, q, inr e)) known aside = subst (λ z. Sees (x.shards node).applied z) q (sees_on (g.shards node) (applied_sees p.txn (w.shards node) e))

  -- ## NotBy

  pub not_by_left : (t : TxnValue) (time : ℕ) → Left top x node (let_go node n (w.shards node) t (λ x. nat_le x.time time) [])
  unfolding kx
  not_by_left t time =
      record {
        live = clock_live n (w.shards node).low _ kx;
        sends = λ e m. let_go_sends top x node n (w.shards node) t (λ x. nat_le x.time time) (w.shards node).waiting rounds e m;
      }

  -- ## Reads

  -- a read that waits already is answered, or waits, or is of a round that is over
  pub waits_already : (from number time : ℕ) → is_waiting (w.shards node) from number ≡ true → Acted top x from node (OfReadAt number time)
  waits_already from number time e =
      let r = any_found (λ x. (x.session == from) && (x.number == number)) (w.shards node).waiting e in
      let p = and_parts (r.0.session == from) (r.0.number == number) r.2 in
      let e1 = eqb-true r.0.session from p.0 in
      let e2 = eqb-true r.0.number number p.1 in
      elim (cases_eq r.0.time time) [
        | inl q ↦ elim (g.waits node r.0 r.1) [
          | inl y ↦ inr (inl (y.0, y.1, y.2 ∙ e1, y.3 ∙ e2, y.4 ∙ q))
          | inr y ↦ inl (subst (λ z. Sent x.sent node from (OfPartAt number z)) q (subst₂ (λ i n. Sent x.sent node i (OfPartAt n r.0.time)) e1 e2 y))
        ]
        | inr ne ↦ inr (inr (r.0.time, ne, subst₂ (λ i n. Round (x.sessions i) n r.0.time) e1 e2 (rounds r.0 r.1)))
      ]

  pub waits_left : (from number time : ℕ) (read : Read) (u : WriterValue) (us : List WriterValue)
      → Here x node (record { state = record (w.shards node) { clock = n; waiting = (w.shards node).waiting ++ waiting_read from number time read (u ∷ us) ∷ [] }; sends = map (check_of top node n time) (u ∷ us) })
      → Left top x node (record { state = record (w.shards node) { clock = n; waiting = (w.shards node).waiting ++ waiting_read from number time read (u ∷ us) ∷ [] }; sends = map (check_of top node n time) (u ∷ us) })
      × HasWait (x.shards node) from number time
  unfolding kx
  waits_left from number time read u us here = (
    record {
      live = clock_live n (w.shards node).low _ kx;
      sends = λ e m. let q = mapped_from (check_of top node n time) (u ∷ us) e m in subst (λ z. Fine top x z) (sym q.2) tt;
    },
    subst (λ z. HasWait z from number time) (sym here.state) (_, Contains-push (w.shards node).waiting _, refl, refl, refl),
  )
