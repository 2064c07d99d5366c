-- Where a run is quiet among the shards of a data centre and a session, each coordinator there that knows a transaction of the
-- session has decided it, its cohorts there have applied it, and the session was told.
use Rattle.std.proofs.Common.{◌≡◌, ℕ, ◌<◌, List, [], ◌∷◌, ◌⊎◌, inl, inr, refl, sym, ap, ◌∙◌, subst, subst₂}
use Rattle.std.specs.Prelude.{Contains}
use Rattle.logical_time.specs.Stamps.{TxnValue}
use Rattle.column_family.specs.declared.batch.Change.{Change}
use Rattle.planner.specs.Plan.{coordinator_of, cohorts_of}
use Rattle.messages.specs.Topology.{TopologyValue, dc_of, shard_of, shard_node}
use Rattle.messages.specs.Shard.{Role, Own, Cohort, Replica, BegunBallot}
use Rattle.messages.proofs.Numbering.{number_of_shard, shard_again}
use Rattle.world.specs.Run.{Run, Submission}
use Rattle.world.specs.Quiet.{IsQuietAmong}
use Rattle.world.proofs.safety.Facts.{txn_of, IsWritten, near, lead, RoleFits, StampFits, Sees}
use Rattle.world.proofs.safety.Invariant.{Inv}
use Rattle.world.proofs.safety.OneBatch.{written_at, submitted_one, batch_one}
use Rattle.world.proofs.envelopes.Near.{coordinator_below, cohort_below, cohort_other, near_dc, lead_dc, lead_number, shard_below}
use Rattle.world.proofs.envelopes.About.{Kind, OfBegin, OfPrepare, OfYes, OfCommit, OfPrepareRemote, OfDone, kind_of, Sent}
use Rattle.world.proofs.under_way.Underway.{HasDecision, Knows, vote_of, Leads, RoleLive, Acted, HasEnded, Live}
use Rattle.world.proofs.lists.Members.{none_in_empty, contains_first, contains_rest, contains_cases}

-- ## Lists

-- each element has the property, or something else is so
pub each_or : {X : Type 0} {P : X → Type 0} {Q : Type 0} (xs : List X) → ((x : X) → Contains xs x → P x ⊎ Q) → ((x : X) → Contains xs x → P x) ⊎ Q
each_or [] f = inl (λ x m. absurd (none_in_empty x m))
each_or {X} {P} {Q} (y ∷ ys) f = go (f y (contains_first y ys)) (each_or ys (λ x m. f x (contains_rest y x ys m)))
  where
    go : P y ⊎ Q → ((x : X) → Contains ys x → P x) ⊎ Q → ((x : X) → Contains (y ∷ ys) x → P x) ⊎ Q
    go (inr q) r = inr q
    go (inl p) (inr q) = inr q
    go (inl p) (inl g) = inl (λ x m. elim (contains_cases y x ys m) [ inl e ↦ subst P (sym e) p | inr n ↦ g x n ])

-- the shards of this data centre are among these actors
abbrev pub Around : TopologyValue → (ℕ → Type 0) → ℕ → Type 0
Around top among dc = (c : ℕ) → c < top.shards → among (shard_node top dc c)

module _ (top : TopologyValue) (w : Run) (some : 0 < top.shards) (inv : Inv top w) where
  -- a cohort decides nothing
  pub cohort_undecided : (node : ℕ) (t : TxnValue) (b : Submission) (batch : List Change) → IsWritten w t b batch
      → Contains (cohorts_of top.shards batch) (shard_of top node) → HasDecision (w.shards node) t → ⊥
  cohort_undecided node t b batch k m d =
      let ds = (inv.shards node).decided d.0 d.1 in
      let same = batch_one inv.submitted (written_at d.2 ds.written) k in
      cohort_other top.shards batch (shard_of top node) m (lead_number top node (dc_of top node) ds.batch some ds.here ∙ ap (coordinator_of top.shards) same)

  pub lead_leads : (dc : ℕ) (t : TxnValue) (b : Submission) (batch : List Change) → IsWritten w t b batch → Leads top w (lead top dc batch) t
  lead_leads dc t b batch k =
      record { submission = b; batch = batch; written = k; here = ap (λ d. lead top d batch) (sym (lead_dc top dc batch some)) }

module _ (top : TopologyValue) (w : Run) (some : 0 < top.shards) (inv : Inv top w) (live : Live top w) (among : ℕ → Type 0)
    (quiet : IsQuietAmong among w) where
  -- what these actors sent each other was handled, so it left what it leaves
  pub act : (s r : ℕ) (k : Kind) → among s → among r → Sent w.sent s r k → Acted top w s r k
  act s r k from to m =
      let g = quiet m.message m.among (subst among (sym m.by) from) (subst among (sym m.for) to) in
      let a = live.acted g.0 m.message g.1 g.2 in
      subst (λ z. Acted top w s r z) m.is (subst₂ (λ a b. Acted top w a b (kind_of m.message.body)) m.by m.for a)

  -- a shard of the data centre is among them
  pub one_around : (node : ℕ) → Around top among (dc_of top node) → among node
  one_around node around = subst among (shard_again top node) (around (shard_of top node) (shard_below top node some))

  -- ## A coordinator that knows its transaction has decided it

  -- a part that a cohort prepared has its vote, unless it is decided
  role_vote : (r : Role) (c s : ℕ) (t : TxnValue) (batch : List Change) → among c → among s
      → Contains (cohorts_of top.shards batch) (shard_of top c)
      → RoleFits r top batch c → RoleLive r w c s t
      → Acted top w c s (OfYes t)
  role_vote Own c s t batch from to m fits k = absurd (cohort_other top.shards batch (shard_of top c) m fits)
  role_vote Cohort c s t batch from to m fits k = act c s (OfYes t) from to k
  role_vote Replica c s t batch from to m fits k = act c s (OfYes t) from to k.0

  cohort_vote : (c s : ℕ) (t : TxnValue) (b : Submission) (batch : List Change) → among c → among s → IsWritten w t b batch
      → s ≡ lead top (dc_of top c) batch
      → Contains (cohorts_of top.shards batch) (shard_of top c) → Knows (w.shards c) t
      → Acted top w c s (OfYes t)
  cohort_vote c s t b batch from to k here m (inr d) = absurd (cohort_undecided top w some inv c t b batch k m d)
  cohort_vote c s t b batch from to k here m (inl (p, i, e)) =
      let ps = (inv.shards c).prepared p i in
      let same = batch_one inv.submitted (written_at e ps.written) k in
      let at : near top c p.coordinator ≡ s = ap (near top c) (ps.coordinator ∙ ap (coordinator_of top.shards) same) ∙ sym here in
      role_vote p.role c s t batch from to m (subst (λ z. RoleFits p.role top z c) same ps.role)
      (subst₂ (λ n u. RoleLive p.role w c n u) at e ((live.shards c).entries.prepared p i))

  -- an early vote for a ballot is counted: nobody votes early in another data centre
  early_counted : (s m : ℕ) (u : BegunBallot) → Contains (w.shards s).ballots u → Contains (w.shards s).early (vote_of u.txn m)
      → Contains (w.shards s).votes (vote_of u.txn m)
  early_counted s m u i v =
      elim ((live.shards s).entries.ballots u i).1 [
        | inl none ↦ (live.shards s).counted u (vote_of u.txn m) i none v refl
        | inr y ↦
            let o = ((live.shards s).entries.early (vote_of u.txn m) v).0 in
            absurd (y.0.away (o.here ∙ ap (λ z. z.home) (submitted_one inv.submitted o.written y.0.written)))
      ]

  -- the shards of this one's data centre are among them, and so is the session of the transaction
  module _ (s : ℕ) (around : Around top among (dc_of top s)) where
    -- each cohort of a ballot was asked
    asked : (u : BegunBallot) → among u.txn.session → Contains (w.shards s).ballots u → (c : ℕ) → Contains u.cohorts c
        → Knows (w.shards (near top s c)) u.txn
    asked u own m c i =
        let bs = (inv.shards s).ballots u m in
        let n = subst (λ l. Contains l c) bs.cohorts i in
        let to = around c (cohort_below top.shards bs.batch c n) in
        elim ((live.shards s).entries.ballots u m).1 [
          | inl none ↦
              let home : dc_of top s ≡ bs.submission.home = subst (λ z. StampFits top w s (w.shards s).clock bs.submission bs.batch z) none bs.stamp in
              let p = (live.submitted bs.submission bs.batch bs.written.among bs.written.op).prepared c n in
              let q = subst (λ d. Sent w.sent bs.submission.session (shard_node top d c) (OfPrepare (txn_of bs.submission))) (sym home) p in
              let from : among bs.submission.session = subst among (sym (ap (λ (z : TxnValue). z.session) bs.written.txn)) own in
              subst (λ t. Knows (w.shards (near top s c)) t) bs.written.txn
              (act bs.submission.session (near top s c) (OfPrepare (txn_of bs.submission)) from to q)
          | inr y ↦ act s (near top s c) (OfPrepareRemote u.txn) (one_around s around) to (y.1 c i)
        ]

    pub ballot_decided : (u : BegunBallot) → among u.txn.session → Contains (w.shards s).ballots u → HasDecision (w.shards s) u.txn
    ballot_decided u own i =
        elim (each_or u.cohorts vote) [
          | inl all ↦ (live.shards s).voted u i all
          | inr d ↦ d
        ]
      where
        counted : (m : ℕ) → Acted top w m s (OfYes u.txn) → Contains (w.shards s).votes (vote_of u.txn m) ⊎ HasDecision (w.shards s) u.txn
        counted m (inl v) = inl v
        counted m (inr (inl v)) = inl (early_counted s m u i v)
        counted m (inr (inr d)) = inr d

        vote : (c : ℕ) → Contains u.cohorts c → Contains (w.shards s).votes (vote_of u.txn (near top s c)) ⊎ HasDecision (w.shards s) u.txn
        vote c j =
            let bs = (inv.shards s).ballots u i in
            let n = subst (λ l. Contains l c) bs.cohorts j in
            let lt = cohort_below top.shards bs.batch c n in
            counted (near top s c)
            (cohort_vote (near top s c) s u.txn bs.submission bs.batch (around c lt) (one_around s around) bs.written
            (bs.here ∙ ap (λ d. lead top d bs.batch) (sym (near_dc top s c lt)))
            (subst (λ z. Contains (cohorts_of top.shards bs.batch) z) (sym (number_of_shard top (dc_of top s) c lt)) n)
            (asked u own i c j))

    -- what a coordinator prepared has its ballot
    own_decided : (r : Role) (c : ℕ) (t : TxnValue) (batch : List Change) → among t.session → shard_of top s ≡ coordinator_of top.shards batch
        → RoleFits r top batch s
        → RoleLive r w s c t → HasDecision (w.shards s) t
    own_decided Own c t batch own e fits k =
        let d = ballot_decided k.0 (subst among (sym (ap (λ (z : TxnValue). z.session) k.2)) own) k.1 in (d.0, d.1, d.2 ∙ k.2)
    own_decided Cohort c t batch own e fits k = absurd (cohort_other top.shards batch (shard_of top s) fits e)
    own_decided Replica c t batch own e fits k = absurd (cohort_other top.shards batch (shard_of top s) fits e)

    pub known_decided : (t : TxnValue) → among t.session → Leads top w s t → Knows (w.shards s) t → HasDecision (w.shards s) t
    known_decided t own l (inr d) = d
    known_decided t own l (inl (p, i, e)) =
        let ps = (inv.shards s).prepared p i in
        let same = batch_one inv.submitted (written_at e ps.written) l.written in
        own_decided p.role (near top s p.coordinator) t l.batch own (lead_number top s (dc_of top s) l.batch some l.here)
        (subst (λ z. RoleFits p.role top z s) same ps.role) (subst (λ u. RoleLive p.role w s (near top s p.coordinator) u) e ((live.shards s).entries.prepared p i))

    -- the cohorts of what is decided have applied it
    pub cohort_applied : (t : TxnValue) (b : Submission) (batch : List Change) → IsWritten w t b batch → HasDecision (w.shards s) t → (c : ℕ)
        → Contains (cohorts_of top.shards batch) c → Sees (w.shards (near top s c)).applied t
    cohort_applied t b batch k (d, i, e) c m =
        let l = (live.shards s).entries.decided d i in
        let same = batch_one inv.submitted (written_at e l.written) k in
        let r = act s (near top s c) (OfCommit d.txn) (one_around s around) (around c (cohort_below top.shards batch c m))
        (l.cohorts c (subst (λ z. Contains (cohorts_of top.shards z) c) (sym same) m)) in
        (r.0, r.1, r.2 ∙ e)

  -- ## Where it was submitted

  module _ (t : TxnValue) (b : Submission) (batch : List Change) (k : IsWritten w t b batch) (around : Around top among b.home) (own : among t.session) where
    abbrev s0 : ℕ
    s0 = lead top b.home batch

    around_lead : Around top among (dc_of top s0)
    around_lead = subst (λ d. Around top among d) (sym (lead_dc top b.home batch some)) around

    pub home_decided : HasDecision (w.shards s0) t
    home_decided =
        let from : among b.session = subst among (sym (ap (λ (z : TxnValue). z.session) k.txn)) own in
        let to = around (coordinator_of top.shards batch) (coordinator_below top.shards batch some) in
        known_decided s0 around_lead t own (lead_leads top w some inv b.home t b batch k)
        (subst (λ u. Knows (w.shards s0) u) k.txn (act b.session s0 (OfBegin (txn_of b)) from to (live.submitted b batch k.among k.op).begun))

    -- the session was told
    pub write_ended : HasEnded w t
    write_ended =
        let d = home_decided in
        let l = (live.shards s0).entries.decided d.0 d.1 in
        let one = submitted_one inv.submitted (written_at d.2 l.written) k in
        let to : among d.0.txn.session = subst among (sym (ap (λ (z : TxnValue). z.session) d.2)) own in
        let r = act s0 d.0.txn.session (OfDone d.0.txn) (one_around s0 around_lead) to (l.done (lead_dc top b.home batch some ∙ ap (λ z. z.home) (sym one))) in
        subst (λ u. HasEnded w u) d.2 r
