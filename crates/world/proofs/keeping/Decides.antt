-- A coordinator decides.
use Rattle.std.proofs.Common.{◌≡◌, ℕ, ◌<◌, ◌≤◌, [], ◌∷◌, ◌++◌, Option, Some, None, ◌⊎◌, inl, inr, refl, sym, ap, ap₂, ◌∙◌, subst, subst₂, arith, le_refl, le_of_lt}
use Rattle.std.specs.Prelude.{filter, Contains}
use Rattle.logical_time.specs.Stamps.{StampValue}
use Rattle.store.specs.declared.part.Applied.{Applied}
use Rattle.planner.specs.Plan.{coordinator_of}
use Rattle.messages.specs.declared.body.Body.TheVariants.{Commit, ReplBegin, DepOk}
use Rattle.messages.specs.declared.envelope.Envelope.{Envelope}
use Rattle.messages.specs.Topology.{TopologyValue, dc_of, shard_of, shard_node}
use Rattle.messages.specs.Words.{is_same_txn, envelope, other_dcs}
use Rattle.messages.specs.Shard.{ShardState, BegunBallot, KeptBallot, Decision, Asker}
use Rattle.messages.specs.Commits.{applied_part, commits, stamp_for, announcements, dep_oks, decide}
use Rattle.world.specs.Run.{Run}
use Rattle.world.proofs.lists.Members.{none_in_empty, contains_cases, Contains-push, last_or_old, Contains-append_left, Contains-append_cases, mapped_from, filter_contains}
use Rattle.world.proofs.growing.Growth.{NewDecision, ShardGrows}
use Rattle.world.proofs.safety.Facts.{near, lead, IsDecided, IsStamp, DecidedOnce, PreparedBefore, StampFits, BallotSound, KeptBallotSound, DecisionSound, AppliedSound}
use Rattle.world.proofs.safety.Invariant.{MayWait, EnvelopeSound, Inv}
use Rattle.world.proofs.safety.Able.{AddsSound, Able}
use Rattle.world.proofs.safety.Lasting.{before_grows, ballot_grows}
use Rattle.world.proofs.safety.LastingAll.{may_wait_grows}
use Rattle.world.proofs.envelopes.Near.{cohort_below, near_dc, lead_number, peer_dc, peer_part}
use Rattle.world.proofs.safety.Ables.{Alike, told_sound}
use Rattle.world.proofs.safety.OneBatch.{once_more}

-- what is decided anew
abbrev decision : ℕ → ℕ → BegunBallot → Decision
decision node n b = record { txn = b.txn; commit = n; stamp = stamp_for node n b.stamp }

-- and applied
abbrev part : TopologyValue → ℕ → ℕ → BegunBallot → Applied
part top node n b = applied_part b.txn (shard_of top node) b.rows n (stamp_for node n b.stamp)

decided_new : (node n : ℕ) (a : ShardState) (b : BegunBallot) → a.clock < n → ((d : Decision) → Contains a.decided d → d.txn ≡ b.txn → ⊥)
    → (d : Decision) → Contains (a.decided ++ decision node n b ∷ []) d → Contains a.decided d ⊎ NewDecision a d
decided_new node n a b lt none d m =
    elim (last_or_old d (decision node n b) a.decided m) [ inl o ↦ inl o | inr q ↦ inr (subst (λ z. NewDecision a z) (sym q) (record { above = lt; undecided = none })) ]

decide_grows : (top : TopologyValue) (node n : ℕ) (a : ShardState) (b : BegunBallot) → a.clock < n → ((d : Decision) → Contains a.decided d
    → d.txn ≡ b.txn → ⊥) → ShardGrows a (decide top node n a b).state
decide_grows top node n a b lt none =
    record {
      clock = le_of_lt lt;
      prepared = λ p m. m;
      prepared_new = λ p m. inl m;
      decided = λ d m. Contains-append_left a.decided (decision node n b ∷ []) d m;
      decided_new = decided_new node n a b lt none;
      applied = λ v m. Contains-append_left a.applied (part top node n b ∷ []) v m;
    }

-- In a run after the decision: what it adds is sound
module _ (top : TopologyValue) (x : Run) (node n : ℕ) (a : ShardState) (b : BegunBallot)
    (some : 0 < top.shards)
    (at : x.shards node ≡ (decide top node n a b).state)
    (early : (d : Decision) → Contains a.decided d → d.commit < n)
    (none : (d : Decision) → Contains a.decided d → d.txn ≡ b.txn → ⊥)
    (once : DecidedOnce a.decided)
    (ballot : BallotSound top x node n b)
    (votes : (c : ℕ) → Contains b.cohorts c → PreparedBefore x (near top node c) b.txn n)
    (askers : (k : Asker) → Contains a.askers k → MayWait top x node k.waiter k.from) where
  clock : n ≤ (x.shards node).clock
  clock = subst (λ z. n ≤ z.clock) (sym at) (le_refl n)

  among_decided : Contains (x.shards node).decided (decision node n b)
  among_decided = subst (λ z. Contains z.decided (decision node n b)) (sym at) (Contains-push a.decided (decision node n b))

  among_applied : Contains (x.shards node).applied (part top node n b)
  among_applied = subst (λ z. Contains z.applied (part top node n b)) (sym at) (Contains-push a.applied (part top node n b))

  is_decided : IsDecided x node b.txn n (stamp_for node n b.stamp)
  is_decided = record { decision = decision node n b; among = among_decided; txn = refl; commit = refl; stamp = refl }

  -- the origin's own stamp, or the one that came
  stamp_go : (o : Option StampValue) → b.stamp ≡ o → StampFits top x node n ballot.submission ballot.batch o → IsStamp top x ballot.submission ballot.batch (stamp_for node n o) × ((stamp_for node n o).time ≤ n)
  stamp_go (Some s) e k = k
  stamp_go None e k =
      let here : node ≡ lead top ballot.submission.home ballot.batch = ballot.here ∙ ap (λ d. lead top d ballot.batch) k in
      let dec : IsDecided x node b.txn n (stamp_for node n None) = subst (λ z. IsDecided x node b.txn n (stamp_for node n z)) e is_decided in
      (record { decided = subst₂ (λ t c. IsDecided x c t n (stamp_for node n None)) (sym ballot.written.txn) here dec; node = here }, le_refl n)

  the_stamp : IsStamp top x ballot.submission ballot.batch (stamp_for node n b.stamp) × ((stamp_for node n b.stamp).time ≤ n)
  the_stamp = stamp_go b.stamp refl ballot.stamp

  one_go : (e : Decision) → Contains (a.decided ++ decision node n b ∷ []) e → e.txn ≡ b.txn → e ≡ decision node n b
  one_go e m r = elim (last_or_old e (decision node n b) a.decided m) [ inl o ↦ absurd (none e o r) | inr q ↦ q ]

  time_go : (e : Decision) → Contains (a.decided ++ decision node n b ∷ []) e → e.commit ≡ n → e ≡ decision node n b
  time_go e m r = elim (last_or_old e (decision node n b) a.decided m) [ inl o ↦ (let lt = early e o in absurd (omega arith)) | inr q ↦ q ]

  own : shard_of top node ≡ coordinator_of top.shards ballot.batch
  own = lead_number top node (dc_of top node) ballot.batch some ballot.here

  decision_sound : DecisionSound top x node (decision node n b)
  decision_sound =
      record {
        submission = ballot.submission;
        batch = ballot.batch;
        written = ballot.written;
        here = ballot.here;
        commit = clock;
        applied = (part top node n b, among_applied, refl);
        cohorts = λ c m. votes c (subst (λ l. Contains l c) (sym ballot.cohorts) m);
        one = λ e m q. one_go e (subst (λ z. Contains z.decided e) at m) q;
        one_time = λ e m q. time_go e (subst (λ z. Contains z.decided e) at m) q;
        stamp = the_stamp.0;
        stamp_time = the_stamp.1;
        begun = ballot.begun;
        done = ballot.done;
      }

  part_sound : AppliedSound top x node (part top node n b)
  part_sound =
      record {
        submission = ballot.submission;
        batch = ballot.batch;
        written = ballot.written;
        coordinator = own;
        rows = ballot.rows;
        decided = subst (λ c. IsDecided x c b.txn n (stamp_for node n b.stamp)) (ballot.here ∙ sym (ap (shard_node top (dc_of top node)) own)) is_decided;
        early = clock;
      }

  -- ## What it sends

  commit_go : (e : Envelope) → Contains (commits top node n b.txn (stamp_for node n b.stamp) b.cohorts) e → EnvelopeSound top x e
  commit_go e m =
      let q = mapped_from (λ s. envelope node (shard_node top (dc_of top node) s) n (Commit b.txn n (stamp_for node n b.stamp))) b.cohorts e m in
      let c = cohort_below top.shards ballot.batch q.0 (subst (λ l. Contains l q.0) ballot.cohorts q.1) in
      subst (λ z. EnvelopeSound top x z) (sym q.2) (record { decided = is_decided; time = le_refl n }, sym (near_dc top node q.0 c))

  abbrev replicated : StampValue → KeptBallot
  replicated s = record { txn = b.txn; rows = b.rows; stamp = s; cohorts = b.cohorts; dependencies = b.dependencies }

  replicated_sound : (d : ℕ) (s : StampValue) → IsStamp top x ballot.submission ballot.batch s → s.time ≤ n → KeptBallotSound top x (shard_node top d (shard_of top node)) n (replicated s)
  replicated_sound d s k le =
      record {
        submission = ballot.submission;
        batch = ballot.batch;
        written = ballot.written;
        here = ap₂ (shard_node top) (sym (peer_dc top node d some)) own;
        rows = ballot.rows ∙ peer_part top ballot.batch node d some;
        cohorts = ballot.cohorts;
        dependencies = ballot.dependencies;
        stamp = k;
        time = le;
        begun = ballot.begun;
      }

  announce_go : (o : Option StampValue) → b.stamp ≡ o → StampFits top x node n ballot.submission ballot.batch o → (e : Envelope) → Contains (announcements top node n b o) e → EnvelopeSound top x e
  announce_go (Some s) e k u m = absurd (none_in_empty u m)
  announce_go None e k u m = elim (contains_cases _ u _ m) [
    | inl q ↦ subst (λ z. EnvelopeSound top x z) (sym q) (
      record { decided = subst (λ z. IsDecided x node b.txn n (stamp_for node n z)) e is_decided; time = le_refl n },
      record { submission = ballot.submission; batch = ballot.batch; written = ballot.written; here = k },
    )
    | inr r ↦
        let q = mapped_from (λ d. envelope node (shard_node top d (shard_of top node)) n (ReplBegin b.cohorts b.txn b.rows (stamp_for node n None) b.dependencies)) (other_dcs top node) u r in
        let s = stamp_go None e k in
        subst (λ z. EnvelopeSound top x z) (sym q.2) (replicated_sound q.0 (stamp_for node n None) s.0 s.1)
  ]

  dep_ok_go : (e : Envelope) → Contains (dep_oks node n b.txn a.askers) e → EnvelopeSound top x e
  dep_ok_go e m =
      let q = mapped_from (λ k. envelope node k.from n (DepOk b.txn k.waiter n)) (filter (λ k. is_same_txn k.dependency b.txn) a.askers) e m in
      let p = filter_contains (λ k. is_same_txn k.dependency b.txn) a.askers q.0 q.1 in
      subst (λ z. EnvelopeSound top x z) (sym q.2) ((stamp_for node n b.stamp, record { decided = is_decided; time = le_refl n }), askers q.0 p.0)

  sends_go : (e : Envelope) → Contains (decide top node n a b).sends e → EnvelopeSound top x e
  sends_go e m =
      let cs = commits top node n b.txn (stamp_for node n b.stamp) b.cohorts in
      let ns = announcements top node n b b.stamp in
      let ks = dep_oks node n b.txn a.askers in
      elim (Contains-append_cases ((cs ++ ns) ++ ks) _ e m) [
        | inl l ↦ elim (Contains-append_cases (cs ++ ns) ks e l) [
          | inl d ↦ elim (Contains-append_cases cs ns e d) [ inl c ↦ commit_go e c | inr k ↦ announce_go b.stamp refl ballot.stamp e k ]
          | inr k ↦ dep_ok_go e k
        ]
        | inr r ↦ told_sound top x node n (record a { decided = a.decided ++ decision node n b ∷ []; applied = a.applied ++ part top node n b ∷ [] }) _ e r
      ]

  pub decide_fresh : AddsSound top x node a (decide top node n a b)
  decide_fresh =
      record {
        prepared = λ e m. inl m;
        ballots = λ e m. inl m;
        early = λ e m. inl m;
        votes = λ e m. inl m;
        decided = λ d m. elim (last_or_old d (decision node n b) a.decided m) [ inl o ↦ inl o | inr q ↦ inr (subst (λ z. DecisionSound top x node z) (sym q) decision_sound) ];
        once = once_more a.decided (decision node n b) once none;
        applied = λ v m. elim (last_or_old v (part top node n b) a.applied m) [ inl o ↦ inl o | inr q ↦ inr (subst (λ z. AppliedSound top x node z) (sym q) part_sound) ];
        kept_parts = λ e m. inl m;
        kept_ballots = λ e m. inl m;
        met = λ e m. inl m;
        askers = λ e m. inl m;
        sends = sends_go;
      }

-- A coordinator decides, at a shard that differs in kept inputs alone
pub decide_able : (top : TopologyValue) (w : Run) (node n : ℕ) (a : ShardState) (b : BegunBallot) → 0 < top.shards → Inv top w → (w.shards node).clock < n → Alike (w.shards node) a
    → BallotSound top w node n b → ((d : Decision) → Contains (w.shards node).decided d → d.txn ≡ b.txn → ⊥) → ((c : ℕ) → Contains b.cohorts c → PreparedBefore w (near top node c) b.txn n)
    → Able top w node a (decide top node n a b)
unfolding ballot_grows
decide_able top w node n a b some inv lt like k none votes =
    let old = inv.shards node in
    let never : (d : Decision) → Contains a.decided d → d.txn ≡ b.txn → ⊥ = λ d m. none d (subst (λ l. Contains l d) like.decided m) in
    record {
      grows = decide_grows top node n a b (subst (λ c. c < n) (sym like.clock) lt) never;
      fresh = λ x gr at.
          decide_fresh top x node n a b some at
          (λ d m. let le = (old.decided d (subst (λ l. Contains l d) like.decided m)).commit in omega arith)
          never
          (subst DecidedOnce (sym like.decided) old.once)
          (ballot_grows gr (le_refl n) k)
          (λ c m. before_grows gr (le_refl n) (votes c m))
          (λ u m. may_wait_grows gr (old.askers u (subst (λ l. Contains l u) like.askers m)));
    }
