-- What Begin, Prepare and Yes leave under way.
use Rattle.std.proofs.Common.{◌≡◌, ℕ, ◌<◌, Bool, true, false, List, [], ◌++◌, None, ◌⊎◌, inl, inr, refl, sym, ◌∙◌, subst, ap}
use Rattle.std.specs.Prelude.{filter, find, is_some, if◌then◌else◌, Contains}
use Rattle.std.proofs.lemmas.Bool.{false≢true}
use Rattle.logical_time.specs.Stamps.{TxnValue}
use Rattle.column_family.specs.declared.batch.Change.{Change}
use Rattle.planner.specs.Plan.{cohorts_of}
use Rattle.messages.specs.Topology.{TopologyValue, dc_of, shard_of}
use Rattle.messages.specs.Words.{is_same_txn}
use Rattle.messages.specs.Shard.{ShardState, Cohort, BegunBallot, Vote, ShardStep, quiet, Role, Own, Replica, PreparedPart}
use Rattle.messages.specs.Known.{decision_of, standing_ballot, is_known, all_voted, has_vote, is_cohort, is_awaited}
use Rattle.messages.specs.Commits.{decide, hold, prepare_part, with_vote}
use Rattle.shard.proofs.steps.HandledCases.{with_early}
use Rattle.world.specs.Run.{Run}
use Rattle.world.proofs.lists.Members.{none_in_empty, Contains-push, last_or_old, Contains-append_left, Contains-append_cases, contains_filter, filter_contains, find_none, same_txn}
use Rattle.world.proofs.safety.Facts.{near, RoleFits}
use Rattle.world.proofs.safety.Invariant.{PrepareSound, Inv}
use Rattle.world.proofs.safety.Ables.{absent, unbegun, unprepared, undecided}
use Rattle.world.proofs.envelopes.Near.{near_dc, coordinator_below}
use Rattle.world.proofs.under_way.Underway.{HasPrepared, HasDecision, Knows, vote_of, Away, AtOrigin, Onward, ShardLive, EarlyLive, HasBallot, Aside, Leads, RoleLive, Entries, EarlyCounted, Acted}
use Rattle.world.proofs.under_way.LiveGrow.{stays_in, prepared_on, decision_on, shard_on}
use Rattle.world.proofs.under_way.LivePlaces.{same_at, all_voted_from, known_cases, decision_found, away_origin, near_leads, not_and, txn_split, vote_from, lead_beside, among_cohorts}
use Rattle.world.proofs.under_way.LiveSteps.{Here, Left, Rounds, BallotAt, quiet_left, ballot_at}
use Rattle.world.proofs.under_way.LiveDecides.{decide_left, decide_known}
use Rattle.world.proofs.under_way.LiveHeld.{hold_left, hold_known, prepare_left}
use Rattle.world.proofs.safety.OneBatch.{written_at, batch_one}
use Rattle.world.proofs.envelopes.About.{OfYes}

-- where no ballot of a transaction stands it was decided or not begun
pub standing_none : (t : TxnValue) (a : ShardState) → standing_ballot t a ≡ None → HasDecision a t ⊎ ((b : BegunBallot) → Contains a.ballots b → b.txn ≡ t → ⊥)
standing_none t a e = go (is_some (decision_of t a)) refl e
  where
    go : (d : Bool) → is_some (decision_of t a) ≡ d → (if d then None else find (λ b. is_same_txn b.txn t) a.ballots) ≡ None → HasDecision a t ⊎ ((b : BegunBallot) → Contains a.ballots b → b.txn ≡ t → ⊥)
    go true d e = inl (decision_found t a d)
    go false d e = inr (absent (λ b. b.txn) t a.ballots (find_none (λ b. is_same_txn b.txn t) a.ballots e))

module _ (top : TopologyValue) (w x : Run) (node n : ℕ) (some : 0 < top.shards) (inv : Inv top x) (g : Onward top w x)
    (live : ShardLive top w node (w.shards node)) (rounds : Rounds x (w.shards node).waiting) where
  kx : ShardLive top x node (w.shards node)
  kx = shard_on g live

  -- what is known at its origin is prepared or decided
  pub known_at_origin : (t : TxnValue) → AtOrigin top x node t → is_known t (w.shards node) ≡ true → Knows (x.shards node) t
  unfolding kx
  known_at_origin t o e =
      elim (known_cases t (w.shards node) e) [
        | inl b ↦ inl (subst (λ z. HasPrepared (x.shards node) z) b.2 (kx.entries.ballots b.0 b.1).0)
        | inr (inl p) ↦ inl (prepared_on (g.shards node) p)
        | inr (inr (inl k)) ↦ absurd (away_origin top x some inv.submitted node t (subst (λ z. Away top x node z) k.2 (kx.entries.kept_parts k.0 k.1).away) o)
        | inr (inr (inr (inl r))) ↦ absurd (away_origin top x some inv.submitted node t (subst (λ z. Away top x node z) r.2 (kx.entries.kept_ballots r.0 r.1).away) o)
        | inr (inr (inr (inr d))) ↦ inr (decision_on (g.shards node) d)
      ]

  -- ## Begin

  pub begin_decides_left : (b : BegunBallot) → b.stamp ≡ None → BallotAt top x node b → Here x node (decide top node n (w.shards node) b)
      → Left top x node (decide top node n (w.shards node) b) × Knows (x.shards node) b.txn
  unfolding kx
  begin_decides_left b none k here = (
    decide_left top x node n some inv (w.shards node) b k (inl none) rounds here kx.entries kx.counted (λ u m i. inl (kx.voted u m i)) (λ r m i j. inl (kx.ready r m i j)),
    inr (decide_known top x node n some inv (w.shards node) b k (inl none) rounds here kx.entries),
  )

  pub begin_holds_left : (b : BegunBallot) → b.stamp ≡ None → BallotAt top x node b → is_known b.txn (w.shards node) ≡ false
      → all_voted top node b.cohorts (w.shards node).early b.txn ≡ false
      → Here x node (hold top node n (w.shards node) b (filter (λ v. is_same_txn v.txn b.txn) (w.shards node).early) [])
      → Left top x node (hold top node n (w.shards node) b (filter (λ v. is_same_txn v.txn b.txn) (w.shards node).early) []) × Knows (x.shards node) b.txn
  unfolding kx
  begin_holds_left b none k e f here =
      let counted = filter (λ v. is_same_txn v.txn b.txn) (w.shards node).early in
      let of : (v : Vote) → Contains counted v → v.txn ≡ b.txn = λ v m. same_txn v.txn b.txn (filter_contains (λ v. is_same_txn v.txn b.txn) (w.shards node).early v m).1 in
      let early : b.stamp ≡ None → (v : Vote) → Contains (w.shards node).early v → v.txn ≡ b.txn → Contains counted v =
      λ s v m q. contains_filter (λ v. is_same_txn v.txn b.txn) (w.shards node).early v m (same_at v.txn b.txn q) in
      let unvoted : (v : Vote) → Contains (w.shards node).votes v → v.txn ≡ b.txn → ⊥ = λ v m q. let y = live.entries.votes v m in unbegun b.txn (w.shards node) e y.0 y.1 (y.2 ∙ q) in
      let missing : ((c : ℕ) → Contains b.cohorts c → Contains ((w.shards node).votes ++ counted) (vote_of b.txn (near top node c))) → ⊥ =
      λ i. false≢true (sym f ∙ all_voted_from top node b.cohorts (w.shards node).early b.txn
      (λ c m. elim (Contains-append_cases (w.shards node).votes counted (vote_of b.txn (near top node c)) (i c m)) [
        | inl o ↦ absurd (unvoted (vote_of b.txn (near top node c)) o refl)
        | inr o ↦ (filter_contains (λ v. is_same_txn v.txn b.txn) (w.shards node).early (vote_of b.txn (near top node c)) o).0
      ])) in (
        hold_left top x node n (w.shards node) b counted [] kx.entries kx.counted here (inl none) of early missing
            (λ u m i. kx.voted u m (λ c j. elim (Contains-append_cases (w.shards node).votes counted (vote_of u.txn (near top node c)) (i c j)) [
              | inl o ↦ o
              | inr o ↦ absurd (unbegun b.txn (w.shards node) e u m (of (vote_of u.txn (near top node c)) o))
            ]))
            (λ r m i j. inl (kx.ready r m i j)) (λ e m. absurd (none_in_empty e m)),
        inl (hold_known top x node n (w.shards node) b counted [] kx.entries kx.counted here (inl none) of early missing),
      )

  -- ## Prepare

  pub prepares_left : (t : TxnValue) (rows : List Change) (c : ℕ) → PrepareSound top x node t rows c → Here x node (prepare_part top node n (w.shards node) t rows c Cohort)
      → Left top x node (prepare_part top node n (w.shards node) t rows c Cohort) × Knows (x.shards node) t
  unfolding kx
  prepares_left t rows c k here =
      let below : c < top.shards = subst (λ z. z < top.shards) (sym k.coordinator) (coordinator_below top.shards k.batch some) in
      let dc = near_dc top node c below in
      prepare_left top x node n (w.shards node) t rows c Cohort kx (λ s. s) (
        inl (record { submission = k.submission; batch = k.batch; written = k.written; here = dc ∙ k.origin }),
        record { submission = k.submission; batch = k.batch; written = k.written; cohort = k.cohort },
        near_leads top x some inv.submitted node c t k.submission k.batch k.written k.coordinator below,
        sym dc,
      ) here

  -- ## Yes

  ballot_of_run : (b : BegunBallot) → Contains (w.shards node).ballots b → BallotAt top x node b
  ballot_of_run b m = ballot_at ((inv.shards node).ballots b (stays_in _ _ (g.shards node).ballots b m))

  -- two ballots of a transaction have the same cohorts
  same_cohorts : (u b : BegunBallot) → Contains (w.shards node).ballots u → Contains (w.shards node).ballots b → u.txn ≡ b.txn → b.cohorts ≡ u.cohorts
  same_cohorts u b m i e =
      let k = ballot_of_run u m in
      let l = ballot_of_run b i in
      l.cohorts ∙ ap (cohorts_of top.shards) (batch_one inv.submitted l.written (written_at e k.written)) ∙ sym k.cohorts

  -- where a vote for a coordinator is neither for a ballot nor early, the transaction is decided
  unstanding : (t : TxnValue) → Leads top x node t → AtOrigin top x node t ⊎ Knows (w.shards node) t → ((b : BegunBallot) → Contains (w.shards node).ballots b → b.txn ≡ t → ⊥) → is_known t (w.shards node) ≡ true → HasDecision (w.shards node) t
  unfolding kx
  unstanding t leads says none e =
      elim (known_cases t (w.shards node) e) [
        | inl b ↦ absurd (none b.0 b.1 b.2)
        | inr (inl p) ↦ absurd (part_go p.0 p.1 p.2)
        | inr (inr (inl k)) ↦ absurd (let s = (inv.shards node).kept_parts k.0 (stays_in _ _ (g.shards node).kept_parts k.0 k.1) in lead_beside top x some inv.submitted node t leads (record { submission = s.submission; batch = s.batch; written = written_at k.2 s.written; cohort = s.cohort }))
        | inr (inr (inr (inl r))) ↦ elim says [
          | inl o ↦ absurd (away_origin top x some inv.submitted node t (subst (λ z. Away top x node z) r.2 (kx.entries.kept_ballots r.0 r.1).away) o)
          | inr (inl p) ↦ absurd (part_go p.0 p.1 p.2)
          | inr (inr d) ↦ d
        ]
        | inr (inr (inr (inr d))) ↦ d
      ]
    where
      role_go : (p : PreparedPart) (role : Role) → p.role ≡ role → Contains (w.shards node).prepared p → p.txn ≡ t → ⊥
      role_go p Own r m q =
          let b = subst (λ z. RoleLive z w node (near top node p.coordinator) p.txn) r (live.entries.prepared p m) in
          none b.0 b.1 (b.2 ∙ q)
      role_go p Cohort r m q =
          let s = (inv.shards node).prepared p (stays_in _ _ (g.shards node).prepared p m) in
          lead_beside top x some inv.submitted node t leads (record { submission = s.submission; batch = s.batch; written = written_at q s.written; cohort = subst (λ z. RoleFits z top s.batch node) r s.role })
      role_go p Replica r m q =
          let s = (inv.shards node).prepared p (stays_in _ _ (g.shards node).prepared p m) in
          lead_beside top x some inv.submitted node t leads (record { submission = s.submission; batch = s.batch; written = written_at q s.written; cohort = subst (λ z. RoleFits z top s.batch node) r s.role })

      part_go : (p : PreparedPart) → Contains (w.shards node).prepared p → p.txn ≡ t → ⊥
      part_go p m q = role_go p p.role refl m q

  module _ (t : TxnValue) (from : ℕ) (says : AtOrigin top x node t ⊎ Knows (w.shards node) t) (aside : Aside top x from t) (leads : Leads top x node t)
      (dc : dc_of top from ≡ dc_of top node) where
    -- ## A vote for a ballot

    vote_entries : (b : BegunBallot) → Contains (w.shards node).ballots b → Entries top x node (with_vote (w.shards node) b.txn from)
    unfolding kx
    vote_entries b m =
        let e = kx.entries in
        record {
          prepared = e.prepared;
          ballots = e.ballots;
          kept_parts = e.kept_parts;
          kept_ballots = e.kept_ballots;
          early = e.early;
          votes = λ v i. elim (last_or_old v (vote_of b.txn from) (w.shards node).votes i) [
            | inl o ↦ e.votes v o
            | inr q ↦ subst (λ z. HasBallot (x.shards node) z.txn) (sym q) (b, stays_in _ _ (g.shards node).ballots b m, refl)
          ];
          notices = e.notices;
          decided = e.decided;
          applied = e.applied;
          askers = e.askers;
          told = e.told;
        }

    vote_counted : (b : BegunBallot) → EarlyCounted (with_vote (w.shards node) b.txn from)
    unfolding kx
    vote_counted b u v m s i q = Contains-append_left (w.shards node).votes _ v (kx.counted u v m s i q)

    -- another transaction's votes were there before
    old_voted : (b u : BegunBallot) → Contains (w.shards node).ballots u → (u.txn ≡ b.txn → ⊥)
        → ((c : ℕ) → Contains u.cohorts c → Contains (with_vote (w.shards node) b.txn from).votes (vote_of u.txn (near top node c))) → HasDecision (w.shards node) u.txn
    unfolding kx
    old_voted b u m ne f =
        kx.voted u m (λ c i. elim (last_or_old (vote_of u.txn (near top node c)) (vote_of b.txn from) (w.shards node).votes (f c i)) [
          | inl o ↦ o
          | inr q ↦ absurd (ne (ap (λ (z : Vote). z.txn) q))
        ])

    from_origin : (b : BegunBallot) → Contains (w.shards node).ballots b → (b.stamp ≡ None) ⊎ Away top x node b.txn
    unfolding kx
    from_origin b m = elim (kx.entries.ballots b m).1 [ inl q ↦ inl q | inr q ↦ inr q.0 ]

    has_vote_now : (st : ShardStep) (b : BegunBallot) → b.txn ≡ t → st.state.votes ≡ (with_vote (w.shards node) b.txn from).votes → Here x node st
        → Contains (x.shards node).votes (vote_of t from)
    has_vote_now st b q e here =
        subst (λ z. Contains z.votes (vote_of t from)) (sym here.state)
        (subst (λ l. Contains l (vote_of t from)) (sym e)
        (subst (λ z. Contains (with_vote (w.shards node) b.txn from).votes (vote_of z from)) q (Contains-push (w.shards node).votes (vote_of b.txn from))))

    pub vote_decides_left : (b : BegunBallot) → Contains (w.shards node).ballots b → b.txn ≡ t → Here x node (decide top node n (with_vote (w.shards node) b.txn from) b)
        → Left top x node (decide top node n (with_vote (w.shards node) b.txn from) b) × Contains (x.shards node).votes (vote_of t from)
    unfolding kx
    vote_decides_left b m q here = (
      decide_left top x node n some inv (with_vote (w.shards node) b.txn from) b (ballot_of_run b m) (from_origin b m) rounds here (vote_entries b m) (vote_counted b)
          (λ u i f. elim (txn_split u.txn b.txn) [ inl z ↦ inr z | inr ne ↦ inl (old_voted b u i ne f) ])
          (λ r i f h. inl (kx.ready r i f h)),
      has_vote_now _ b q refl here,
    )

    pub vote_counts_left : (b : BegunBallot) → Contains (w.shards node).ballots b → b.txn ≡ t
        → all_voted top node b.cohorts (with_vote (w.shards node) b.txn from).votes b.txn ≡ false
        → Here x node (quiet n (with_vote (w.shards node) b.txn from))
        → Left top x node (quiet n (with_vote (w.shards node) b.txn from)) × Contains (x.shards node).votes (vote_of t from)
    unfolding kx
    vote_counts_left b m q e here = (
      quiet_left n
          (record {
            entries = vote_entries b m;
            counted = vote_counted b;
            voted = λ u i f. elim (txn_split u.txn b.txn) [
              | inl z ↦ absurd (false≢true (sym e ∙ all_voted_from top node b.cohorts (with_vote (w.shards node) b.txn from).votes b.txn
                  (λ c j. subst (λ y. Contains (with_vote (w.shards node) b.txn from).votes (vote_of y (near top node c))) z (f c (subst (λ l. Contains l c) (same_cohorts u b i m z) j)))))
              | inr ne ↦ old_voted b u i ne f
            ];
            ready = kx.ready;
          }),
      has_vote_now _ b q refl here,
    )

    -- a vote that isn't awaited was counted: its sender is a cohort
    pub counted_before : (b : BegunBallot) → Contains (w.shards node).ballots b → b.txn ≡ t → is_awaited top node b.cohorts (w.shards node).votes t from ≡ false → Contains (w.shards node).votes (vote_of t from)
    counted_before b m q e =
        let k = ballot_of_run b m in
        let cohort = subst (λ l. Contains l (shard_of top from)) (ap (cohorts_of top.shards) (batch_one inv.submitted aside.written (written_at q k.written)) ∙ sym k.cohorts) aside.cohort in
        vote_from (w.shards node).votes t from
        (not_and (is_cohort top node b.cohorts from) (has_vote (w.shards node).votes t from) e (among_cohorts top node from b.cohorts cohort dc))

    -- ## A vote without one

    -- it was kept before, or the transaction is decided
    pub early_before : standing_ballot t (w.shards node) ≡ None → (is_known t (w.shards node) ≡ true) ⊎ (has_vote (w.shards node).early t from ≡ true)
        → Acted top x from node (OfYes t)
    early_before none (inl e) =
        inr (inr (decision_on (g.shards node) (elim (standing_none t (w.shards node) none) [ inl d ↦ d | inr i ↦ unstanding t leads says i e ])))
    early_before none (inr f) = inr (inl (stays_in _ _ (g.shards node).early (vote_of t from) (vote_from (w.shards node).early t from f)))

    pub early_left : is_known t (w.shards node) ≡ false → Here x node (quiet n (with_early (w.shards node) t from))
        → Left top x node (quiet n (with_early (w.shards node) t from)) × Acted top x from node (OfYes t)
    unfolding kx
    early_left e here =
        let k = kx.entries in
        let origin : AtOrigin top x node t =
        elim says [
          | inl o ↦ o
          | inr (inl p) ↦ absurd (unprepared t (w.shards node) e p.0 p.1 p.2)
          | inr (inr d) ↦ absurd (undecided t (w.shards node) e d.0 d.1 d.2)
        ] in (
          record {
            live =
                record {
                  entries =
                      record {
                        prepared = k.prepared;
                        ballots = k.ballots;
                        kept_parts = k.kept_parts;
                        kept_ballots = k.kept_ballots;
                        early = λ v m. elim (last_or_old v (vote_of t from) (w.shards node).early m) [ inl o ↦ k.early v o | inr q ↦ subst (λ z. EarlyLive top x node z) (sym q) (origin, leads) ];
                        votes = k.votes;
                        notices = k.notices;
                        decided = k.decided;
                        applied = k.applied;
                        askers = k.askers;
                        told = k.told;
                      };
                  counted = λ u v m s i q. elim (last_or_old v (vote_of t from) (w.shards node).early i) [
                    | inl o ↦ kx.counted u v m s o q
                    | inr z ↦ absurd (unbegun t (w.shards node) e u m (sym q ∙ ap (λ (y : Vote). y.txn) z))
                  ];
                  voted = kx.voted;
                  ready = kx.ready;
                };
            sends = λ y m. absurd (none_in_empty y m);
          },
          inr (inl (subst (λ z. Contains z.early (vote_of t from)) (sym here.state) (Contains-push (w.shards node).early (vote_of t from)))),
        )
