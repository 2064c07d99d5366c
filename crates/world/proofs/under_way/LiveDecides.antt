-- What a decision leaves under way.
use Rattle.std.proofs.Common.{◌≡◌, ℕ, ◌<◌, true, [], ◌∷◌, ◌++◌, Option, Some, None, ◌⊎◌, inl, inr, refl, sym, ap, ◌∙◌, subst}
use Rattle.std.specs.Prelude.{filter, Contains}
use Rattle.logical_time.specs.Stamps.{StampValue, WriterValue}
use Rattle.store.specs.declared.part.Applied.{Applied}
use Rattle.planner.specs.Plan.{cohorts_of}
use Rattle.messages.specs.declared.body.Body.TheVariants.{Commit, ReplBegin, DepOk}
use Rattle.messages.specs.declared.envelope.Envelope.{Envelope}
use Rattle.messages.specs.Topology.{TopologyValue, dc_of, shard_of, shard_node}
use Rattle.messages.specs.Words.{is_same_txn, envelope, other_dcs}
use Rattle.messages.specs.Shard.{ShardState, BegunBallot, Decision, KeptBallot, Asker}
use Rattle.messages.specs.Commits.{applied_part, commits, stamp_for, announcements, dep_oks, decide}
use Rattle.world.specs.Run.{Run}
use Rattle.world.proofs.lists.Members.{none_in_empty, contains_first, contains_rest, contains_cases, Contains-push, last_or_old, Contains-append_left, Contains-append_right, Contains-append_cases, contains_map, mapped_from, contains_filter, filter_contains, same_txn}
use Rattle.world.proofs.safety.Facts.{near}
use Rattle.world.proofs.safety.Invariant.{Inv}
use Rattle.world.proofs.envelopes.Near.{peer_dc}
use Rattle.world.proofs.safety.OneBatch.{batch_one}
use Rattle.world.proofs.envelopes.About.{OfCommit, OfReplBegin, OfDepOk, OfDone, Sent}
use Rattle.world.proofs.under_way.Underway.{HasDecision, Knows, WaitsFor, vote_of, met_of, Away, DecisionLive, Entries, EarlyCounted}
use Rattle.world.proofs.under_way.LivePlaces.{same_at, other_dc, away_home, cohort_aside}
use Rattle.world.proofs.under_way.LiveSteps.{Here, Fine, Left, Rounds, let_go_sends, BallotAt, some_none}

-- ## A decision

abbrev decision : ℕ → ℕ → BegunBallot → Decision
decision node n b = record { txn = b.txn; commit = n; stamp = stamp_for node n b.stamp }

module _ (top : TopologyValue) (x : Run) (node n : ℕ) (some : 0 < top.shards) (inv : Inv top x) (a : ShardState) (b : BegunBallot)
    (ballot : BallotAt top x node b) (from : (b.stamp ≡ None) ⊎ Away top x node b.txn) (rounds : Rounds x a.waiting) (here : Here x node (decide top node n a b))
    (entries : Entries top x node a) where
  none_at : dc_of top node ≡ ballot.submission.home → b.stamp ≡ None
  none_at e = elim from [ inl q ↦ q | inr q ↦ absurd (away_home top x some inv.submitted node b.txn ballot.submission ballot.batch q ballot.written e) ]

  -- ## What it sends

  head : (e : Envelope) → Contains (commits top node n b.txn (stamp_for node n b.stamp) b.cohorts ++ announcements top node n b b.stamp ++ dep_oks node n b.txn a.askers) e → Contains x.sent e
  head e m = here.sent e (Contains-append_left _ _ e m)

  commit_sent : (c : ℕ) → Contains b.cohorts c → Sent x.sent node (near top node c) (OfCommit b.txn)
  commit_sent c m =
      let cs = commits top node n b.txn (stamp_for node n b.stamp) b.cohorts in
      let ns = announcements top node n b b.stamp in
      record {
        message = _;
        among = head _ (Contains-append_left (cs ++ ns) _ _ (Contains-append_left cs ns _ (contains_map (λ s. envelope node (shard_node top (dc_of top node) s) n (Commit b.txn n (stamp_for node n b.stamp))) b.cohorts c m)));
        by = refl;
        for = refl;
        is = refl;
      }

  announced : (o : Option StampValue) → b.stamp ≡ o → (e : Envelope) → Contains (announcements top node n b o) e → Contains x.sent e
  announced o q e m =
      let cs = commits top node n b.txn (stamp_for node n b.stamp) b.cohorts in
      let ns = announcements top node n b b.stamp in
      head e (Contains-append_left (cs ++ ns) _ e (Contains-append_right cs ns e (subst (λ z. Contains (announcements top node n b z) e) (sym q) m)))

  told_sent : (k : Asker) → Contains a.askers k → k.dependency ≡ b.txn → Sent x.sent node k.from (OfDepOk b.txn k.waiter)
  told_sent k m e =
      let cs = commits top node n b.txn (stamp_for node n b.stamp) b.cohorts in
      let ns = announcements top node n b b.stamp in
      record {
        message = _;
        among = head _ (Contains-append_right (cs ++ ns) _ _ (contains_map (λ k. envelope node k.from n (DepOk b.txn k.waiter n)) (filter (λ k. is_same_txn k.dependency b.txn) a.askers) k (contains_filter (λ k. is_same_txn k.dependency b.txn) a.askers k m (same_at k.dependency b.txn e))));
        by = refl;
        for = refl;
        is = refl;
      }

  done_go : (o : Option StampValue) → b.stamp ≡ o → o ≡ None → Sent x.sent node b.txn.session (OfDone b.txn)
  done_go (Some s) e q = absurd (some_none s q)
  done_go None e q = record { message = _; among = announced None e _ (contains_first _ _); by = refl; for = refl; is = refl }

  copies_go : (o : Option StampValue) → b.stamp ≡ o → o ≡ None → (dc : ℕ) → Contains (other_dcs top node) dc → Sent x.sent node (shard_node top dc (shard_of top node)) (OfReplBegin b.txn)
  copies_go (Some s) e q dc m = absurd (some_none s q)
  copies_go None e q dc m =
      record {
        message = _;
        among = announced None e _ (contains_rest _ _ _ (contains_map (λ d. envelope node (shard_node top d (shard_of top node)) n (ReplBegin b.cohorts b.txn b.rows (stamp_for node n None) b.dependencies)) (other_dcs top node) dc m));
        by = refl;
        for = refl;
        is = refl;
      }

  decision_live : DecisionLive top x node (decision node n b)
  decision_live =
      record {
        submission = ballot.submission;
        batch = ballot.batch;
        written = ballot.written;
        cohorts = λ c m. commit_sent c (subst (λ l. Contains l c) (sym ballot.cohorts) m);
        done = λ e. done_go b.stamp refl (none_at e);
        copies = λ e dc m. copies_go b.stamp refl (none_at e) dc m;
      }

  -- ## What that rests on

  commit_fine : (e : Envelope) → Contains (commits top node n b.txn (stamp_for node n b.stamp) b.cohorts) e → Fine top x e
  commit_fine e m =
      let q = mapped_from (λ s. envelope node (shard_node top (dc_of top node) s) n (Commit b.txn n (stamp_for node n b.stamp))) b.cohorts e m in
      let d = (inv.shards node).decided (decision node n b) (subst (λ z. Contains z.decided (decision node n b)) (sym here.state) (Contains-push a.decided (decision node n b))) in
      let c = subst (λ l. Contains l q.0) ballot.cohorts q.1 in
      let v = d.cohorts q.0 (subst (λ l. Contains (cohorts_of top.shards l) q.0) (batch_one inv.submitted ballot.written d.written) c) in
      subst (λ z. Fine top x z) (sym q.2)
      ((v.part, v.among, v.txn), cohort_aside top x some inv.submitted node b.txn ballot.submission ballot.batch q.0 ballot.written c)

  announce_fine : (o : Option StampValue) → b.stamp ≡ o → (e : Envelope) → Contains (announcements top node n b o) e → Fine top x e
  announce_fine (Some s) q e m = absurd (none_in_empty e m)
  announce_fine None q e m = elim (contains_cases _ e _ m) [
    | inl i ↦ subst (λ z. Fine top x z) (sym i) refl
    | inr r ↦
        let i = mapped_from (λ d. envelope node (shard_node top d (shard_of top node)) n (ReplBegin b.cohorts b.txn b.rows (stamp_for node n None) b.dependencies)) (other_dcs top node) e r in
        let p = other_dc top node i.0 i.1 in
        let at_dc = peer_dc top node i.0 some in
        subst (λ z. Fine top x z) (sym i.2) (
          record { submission = ballot.submission; batch = ballot.batch; written = ballot.written; away = λ z. p.1 (sym at_dc ∙ z ∙ sym (ballot.origin q)) },
          subst (λ d. d < top.dcs) (sym at_dc) p.0,
        )
  ]

  told_fine : (e : Envelope) → Contains (dep_oks node n b.txn a.askers) e → Fine top x e
  told_fine e m =
      let q = mapped_from (λ k. envelope node k.from n (DepOk b.txn k.waiter n)) (filter (λ k. is_same_txn k.dependency b.txn) a.askers) e m in
      let p = filter_contains (λ k. is_same_txn k.dependency b.txn) a.askers q.0 q.1 in
      subst (λ z. Fine top x z) (sym q.2) (subst (λ t. WaitsFor top x (dc_of top node) q.0.from q.0.waiter t) (same_txn q.0.dependency b.txn p.1) (entries.askers q.0 p.0).awaits)

  decide_fine : (e : Envelope) → Contains (decide top node n a b).sends e → Fine top x e
  decide_fine e m =
      let cs = commits top node n b.txn (stamp_for node n b.stamp) b.cohorts in
      let ns = announcements top node n b b.stamp in
      let ks = dep_oks node n b.txn a.askers in
      elim (Contains-append_cases ((cs ++ ns) ++ ks) _ e m) [
        | inl l ↦ elim (Contains-append_cases (cs ++ ns) ks e l) [
          | inl d ↦ elim (Contains-append_cases cs ns e d) [ inl c ↦ commit_fine e c | inr k ↦ announce_fine b.stamp refl e k ]
          | inr k ↦ told_fine e k
        ]
        | inr r ↦
            let_go_sends top x node n
            (record a { decided = a.decided ++ decision node n b ∷ []; applied = a.applied ++ applied_part b.txn (shard_of top node) b.rows n (stamp_for node n b.stamp) ∷ [] })
            b.txn (λ z. true) a.waiting rounds e r
      ]

  -- ## The shard

  decide_entries : Entries top x node (decide top node n a b).state
  decide_entries =
      let e = entries in
      record {
        prepared = e.prepared;
        ballots = e.ballots;
        kept_parts = e.kept_parts;
        kept_ballots = e.kept_ballots;
        early = e.early;
        votes = e.votes;
        notices = e.notices;
        decided = λ d m. elim (last_or_old d (decision node n b) a.decided m) [ inl o ↦ e.decided d o | inr q ↦ subst (λ z. DecisionLive top x node z) (sym q) decision_live ];
        applied = λ v m. elim (last_or_old v _ a.applied m) [ inl o ↦ e.applied v o | inr q ↦ inl (ap (λ (z : Applied). z.part.writer.shard) q) ];
        askers = e.askers;
        told = λ k d m i q. elim (last_or_old d (decision node n b) a.decided i) [
          | inl o ↦ e.told k d m o q
          | inr p ↦ let z : k.dependency ≡ b.txn = sym q ∙ ap (λ (z : Decision). z.txn) p in subst (λ t. Sent x.sent node k.from (OfDepOk t k.waiter)) (sym z) (told_sent k m z)
        ];
      }

  decided_last : HasDecision (decide top node n a b).state b.txn
  decided_last = (decision node n b, Contains-push a.decided (decision node n b), refl)

  pub decide_left : EarlyCounted a
      → ((u : BegunBallot) → Contains a.ballots u → ((c : ℕ) → Contains u.cohorts c → Contains a.votes (vote_of u.txn (near top node c))) → HasDecision a u.txn ⊎ (u.txn ≡ b.txn))
      → ((r : KeptBallot) → Contains a.kept_ballots r → ((c : ℕ) → Contains r.cohorts c → Contains a.notices (vote_of r.txn (near top node c)))
      → ((k : WriterValue) → Contains r.dependencies k → Contains a.met (met_of r.txn k.txn)) → Knows a r.txn ⊎ (r.txn ≡ b.txn))
      → Left top x node (decide top node n a b)
  decide_left counted f g =
      record {
        live =
            record {
              entries = decide_entries;
              counted = counted;
              voted = λ u m i. elim (f u m i) [
                | inl q ↦ (q.0, Contains-append_left a.decided _ q.0 q.1, q.2)
                | inr q ↦ (decision node n b, Contains-push a.decided (decision node n b), sym q)
              ];
              ready = λ r m i j. elim (g r m i j) [
                | inl (inl q) ↦ inl (q.0, q.1, q.2)
                | inl (inr q) ↦ inr (q.0, Contains-append_left a.decided _ q.0 q.1, q.2)
                | inr q ↦ inr (decision node n b, Contains-push a.decided (decision node n b), sym q)
              ];
            };
        sends = decide_fine;
      }

  pub decide_known : HasDecision (x.shards node) b.txn
  decide_known = subst (λ z. HasDecision z b.txn) (sym here.state) decided_last
