-- What each case of a message makes of a shard keeps all.
use Rattle.std.proofs.Common.{◌≡◌, ℕ, ◌<◌, ◌≤◌, true, false, ◌&&◌, List, inl, inr, refl, sym, subst, subst₂, eqb-true, le_of_lt, [], ◌∷◌, ◌++◌, None, ap, ◌∙◌, le_refl, le_trans, map, arith}
use Rattle.std.specs.Prelude.{◌==◌, is_some, nat_le, Contains}
use Rattle.std.proofs.lemmas.Bool.{and_parts}
use Rattle.logical_time.specs.Stamps.{TxnValue, StampValue, WriterValue}
use Rattle.slice.specs.declared.read.Read.{Read}
use Rattle.slice.specs.Rows.{row_of}
use Rattle.planner.specs.Plan.{cohorts_of}
use Rattle.store.specs.declared.part.Applied.{Applied}
use Rattle.store.proofs.times.EvtBelow.{evt_early}
use Rattle.messages.specs.Topology.{TopologyValue, dc_of, shard_node, shard_of}
use Rattle.messages.specs.Words.{is_same_txn, envelope, other_dcs}
use Rattle.messages.specs.Shard.{ShardStep, BegunBallot, Vote, quiet, ShardState, Role, Own, Cohort, Replica, PreparedPart, Decision, KeptPart, Asker, KeptBallot, Met}
use Rattle.messages.specs.Known.{decision_of, has_vote, all_voted, is_applied, prepared_part, is_met, all_met}
use Rattle.messages.specs.Commits.{decide, with_vote, applied_part, repl_parts, apply_part, prepare_part}
use Rattle.messages.specs.declared.body.Body.TheVariants.{NotBy, ReplPart, PartNow, Notify, PrepareRemote, DepCheck}
use Rattle.messages.specs.declared.envelope.Envelope.{Envelope}
use Rattle.messages.specs.Reads.{answer, let_go, asked_below, check_of, waiting_read}
use Rattle.messages.specs.declared.rows_now.RowNow.{RowNow}
use Rattle.messages.specs.Rows.{row_now}
use Rattle.messages.specs.Replication.{ballot_of, sent_before, is_ready, dep_checks, with_ballot, with_notice, with_met}
use Rattle.messages.specs.declared.body.Body.{Body}
use Rattle.shard.proofs.steps.HandledCases.{Stands, with_early, with_asker, ReadyStep, misses, alone, asks, replicated, Brings, the_ballot, a_notice, an_answer}
use Rattle.world.specs.Run.{Run}
use Rattle.world.proofs.lists.Members.{none_in_empty, last_or_old, Contains-append_left, Contains-append_cases, mapped_from, any_found, all_have, find_none, same_txn}
use Rattle.world.proofs.safety.Facts.{near, PreparedBefore, lead, IsDecided, RoleFits, PreparedSound, KeptPartSound, AppliedSound, IsDone, DecidedOnce, BallotSound, KeptBallotSound}
use Rattle.world.proofs.safety.Invariant.{Inv, IsLead, TellsDecision, EnvelopeSound, MayWait, Untouched, TellsCommit, MovesTo, of_shard, of_move, Says}
use Rattle.world.proofs.safety.Able.{Able}
use Rattle.world.proofs.safety.Lasting.{before_grows, ballot_grows, written_grows, decided_grows, kept_part_grows, done_grows, kept_ballot_grows}
use Rattle.world.proofs.safety.Ables.{same_run, stores, none_new, one_new, undecided, undecided_at, quiet_able, added, absent, answer_able, let_go_able, waits_able, not_found, prepare_able, Alike, hold_able, unbegun, unprepared}
use Rattle.world.proofs.keeping.Decides.{decide_able}
use Rattle.world.proofs.growing.Growth.{ShardGrows, Grows}
use Rattle.world.proofs.safety.LastingAll.{lead_grows, may_wait_grows}
use Rattle.world.proofs.envelopes.Near.{peer_number, peer_part, near_dc, coordinator_below, lead_number, cohort_other}
use Rattle.world.proofs.safety.OneBatch.{written_at, batch_one}
use Rattle.world.proofs.keeping.AskedMarks.{asked_prepared}
use Rattle.world.proofs.shards.RightAnswers.{unready_untouched}

-- ## Votes

-- where all votes are there, each cohort has prepared its part
pub vote_prepared : (top : TopologyValue) (w : Run) (node n : ℕ) (t : TxnValue) (votes : List Vote) (cohorts : List ℕ)
    → ((v : Vote) → Contains votes v → PreparedBefore w v.node v.txn n) → all_voted top node cohorts votes t ≡ true
    → (c : ℕ) → Contains cohorts c → PreparedBefore w (near top node c) t n
vote_prepared top w node n t votes cohorts k e c m =
    let h = all_have (λ s. has_vote votes t (shard_node top (dc_of top node) s)) cohorts c e m in
    let r = any_found (λ v. is_same_txn v.txn t && (v.node == near top node c)) votes h in
    let p = and_parts (is_same_txn r.0.txn t) (r.0.node == near top node c) r.2 in
    subst₂ (λ u z. PreparedBefore w z u n) (same_txn r.0.txn t p.0) (eqb-true r.0.node (near top node c) p.1) (k r.0 r.1)

-- a cohort has prepared its part, and its vote is here
module _ (top : TopologyValue) (w : Run) (node n from : ℕ) (t : TxnValue) (some : 0 < top.shards) (inv : Inv top w) (lt : (w.shards node).clock < n)
    (k : PreparedBefore w from t n) where
  -- a vote is counted first
  pub voted_able : (b : BegunBallot) → b.txn ≡ t → (st : ShardStep) → st.state.clock ≡ n → Able top w node (with_vote (w.shards node) b.txn from) st
      → Able top w node (w.shards node) st
  voted_able b same st at next =
      let a = w.shards node in
      let c = with_vote a b.txn from in
      stores top w node a c st (record { clock = refl; prepared = refl; decided = refl; applied = refl; askers = refl }) refl (inv.shards node).once
      (λ x gr le. record {
        early = none_new _ a.early;
        votes = one_new _ a.votes (record { txn = b.txn; node = from })
            (subst (λ u. PreparedBefore x from u (x.shards node).clock) (sym same) (before_grows gr (subst (λ z. z ≤ (x.shards node).clock) at le) k));
        kept_parts = none_new _ a.kept_parts;
        kept_ballots = none_new _ a.kept_ballots;
        met = none_new _ a.met;
      }) next

  -- the last vote decides
  pub vote_decides_able : (b : BegunBallot) → Stands t (w.shards node) b → all_voted top node b.cohorts (with_vote (w.shards node) b.txn from).votes b.txn ≡ true
      → Able top w node (w.shards node) (decide top node n (with_vote (w.shards node) b.txn from) b)
  unfolding ballot_grows
  vote_decides_able b is all =
      let a = w.shards node in
      let never = undecided_at b.txn a (subst (λ u. is_some (decision_of u a) ≡ false) (sym is.txn) is.undecided) in
      voted_able b is.txn _ refl
      (decide_able top w node n (with_vote a b.txn from) b some inv lt (record { clock = refl; prepared = refl; decided = refl; applied = refl; askers = refl })
      (ballot_grows (same_run top w) (le_of_lt lt) ((inv.shards node).ballots b is.among)) never
      (vote_prepared top w node n b.txn (with_vote a b.txn from).votes b.cohorts
      (λ u i. elim (last_or_old u (record { txn = b.txn; node = from }) a.votes i) [
        | inl o ↦ before_grows (same_run top w) (le_of_lt lt) ((inv.shards node).votes u o)
        | inr q ↦ subst (λ z. PreparedBefore w z.node z.txn n) (sym q) (subst (λ u. PreparedBefore w from u n) (sym is.txn) k)
      ]) all))

  -- a vote is kept until the transaction is begun
  pub early_able : Able top w node (w.shards node) (quiet n (with_early (w.shards node) t from))
  early_able =
      let a = w.shards node in
      let b = with_early a t from in
      stores top w node a b (quiet n b) (record { clock = refl; prepared = refl; decided = refl; applied = refl; askers = refl }) refl (inv.shards node).once
      (λ x gr le. record {
        early = one_new _ a.early (record { txn = t; node = from }) (before_grows gr le k);
        votes = none_new _ a.votes;
        kept_parts = none_new _ a.kept_parts;
        kept_ballots = none_new _ a.kept_ballots;
        met = none_new _ a.met;
      })
      (quiet_able top w node n b lt (inv.shards node).once)

-- ## A part is applied

-- the part of a prepared part, as it is applied
abbrev part : PreparedPart → ℕ → StampValue → Applied
part p commit stamp = applied_part p.txn p.coordinator p.rows commit stamp

abbrev with_part : ShardState → Applied → ShardState
with_part a v = record a { applied = a.applied ++ v ∷ [] }

copy_sound : (top : TopologyValue) (w x : Run) (node d : ℕ) (p : PreparedPart) (k : PreparedSound top w node p) → 0 < top.shards → Grows top w x
    → Contains (cohorts_of top.shards k.batch) (shard_of top node) → (stamp : StampValue)
    → KeptPartSound top x (shard_node top d (shard_of top node)) (record { txn = p.txn; rows = p.rows; stamp = stamp; coordinator = p.coordinator })
copy_sound top w x node d p k some gr cohort stamp =
    record {
      submission = k.submission;
      batch = k.batch;
      written = written_grows gr k.written;
      coordinator = k.coordinator;
      rows = k.rows ∙ peer_part top k.batch node d some;
      cohort = subst (λ s. Contains (cohorts_of top.shards k.batch) s) (sym (peer_number top node d some)) cohort;
    }

-- where the write was submitted, a cohort's part goes to each other data centre
repl_go : (top : TopologyValue) (w x : Run) (node n : ℕ) (p : PreparedPart) (stamp : StampValue) (k : PreparedSound top w node p) → 0 < top.shards → Grows top w x
    → (r : Role) → RoleFits r top k.batch node → (e : Envelope) → Contains (repl_parts r top node n p stamp) e → EnvelopeSound top x e
repl_go top w x node n p stamp k some gr Own fits e m = absurd (none_in_empty e m)
repl_go top w x node n p stamp k some gr Replica fits e m = absurd (none_in_empty e m)
repl_go top w x node n p stamp k some gr Cohort fits e m =
    let q = mapped_from (λ d. envelope node (shard_node top d (shard_of top node)) n (ReplPart p.txn p.rows stamp p.coordinator)) (other_dcs top node) e m in
    subst (λ z. EnvelopeSound top x z) (sym q.2) (copy_sound top w x node q.0 p k some gr fits stamp)

pub apply_able : (top : TopologyValue) (w : Run) (node n from : ℕ) (commit : ℕ) (stamp : StampValue) (p : PreparedPart) → 0 < top.shards → Inv top w → (w.shards node).clock < n → commit ≤ n
    → IsDecided w from p.txn commit stamp → dc_of top from ≡ dc_of top node → Contains (w.shards node).prepared p → is_applied p.txn (w.shards node) ≡ false
    → Able top w node (w.shards node) (apply_part top node n (w.shards node) p commit stamp)
apply_able top w node n from commit stamp p some inv lt le k here m never =
    let a = w.shards node in
    let ps = (inv.shards node).prepared p m in
    let ds = (inv.shards from).decided k.decision k.among in
    let one : ds.batch ≡ ps.batch = batch_one inv.submitted (written_at k.txn ds.written) ps.written in
    let coord : from ≡ near top node p.coordinator =
    ds.here ∙ ap (λ d. lead top d ds.batch) here ∙ ap (lead top (dc_of top node)) one ∙ sym (ap (shard_node top (dc_of top node)) ps.coordinator) in
    let kc : IsDecided w (near top node p.coordinator) p.txn commit stamp = subst (λ c. IsDecided w c p.txn commit stamp) coord k in
    let v = part p commit stamp in
    let b = with_part a v in
    let sends = repl_parts p.role top node n p stamp in
    let g : ShardGrows a b =
    record { clock = le_refl a.clock; prepared = λ e m. m; prepared_new = λ e m. inl m; decided = λ d m. m; decided_new = λ d m. inl m; applied = λ u m. Contains-append_left a.applied (v ∷ []) u m } in
    added top w node a b (let_go node n b p.txn (λ y. true) sends) g
    (λ x gr late. record {
      prepared = λ e m. inl m;
      ballots = λ e m. inl m;
      early = λ e m. inl m;
      votes = λ e m. inl m;
      decided = λ e m. inl m;
      once = (inv.shards node).once;
      applied = λ u i. elim (last_or_old u v a.applied i) [
        | inl o ↦ inl o
        | inr q ↦
            inr (subst (λ z. AppliedSound top x node z) (sym q)
            (record { submission = ps.submission; batch = ps.batch; written = written_grows gr ps.written; coordinator = ps.coordinator; rows = ps.rows; decided = decided_grows gr kc; early = le_trans le late }))
      ];
      kept_parts = λ e m. inl m;
      kept_ballots = λ e m. inl m;
      met = λ e m. inl m;
      askers = λ e m. inl m;
      sends = λ e m. absurd (none_in_empty e m);
    })
    (let_go_able top w node n b p.txn (λ y. true) sends lt (inv.shards node).once
    (λ x gr at e i. repl_go top w x node n p stamp ps some gr p.role ps.role e i))

-- ## NotBy and Check

pub not_by_able : (top : TopologyValue) (w : Run) (node n : ℕ) (t : TxnValue) (bound : ℕ) → Inv top w → (w.shards node).clock < n
    → Able top w node (w.shards node) (let_go node n (w.shards node) t (λ y. nat_le y.time bound) [])
not_by_able top w node n t bound inv lt =
    let_go_able top w node n (w.shards node) t (λ y. nat_le y.time bound) [] lt (inv.shards node).once (λ x gr at e m. absurd (none_in_empty e m))

pub tells_none_able : (top : TopologyValue) (w : Run) (node n from : ℕ) (t : TxnValue) (bound : ℕ) → Inv top w → (w.shards node).clock < n → bound ≤ n
    → IsLead top w (dc_of top from) node t → decision_of t (w.shards node) ≡ None
    → Able top w node (w.shards node) (answer n (w.shards node) (envelope node from n (NotBy t bound)))
tells_none_able top w node n from t bound inv lt le k e =
    answer_able top w node n (w.shards node) _ lt (inv.shards node).once
    (λ x gr at. (
      record {
        clock = subst (λ z. bound ≤ z.clock) (sym at) le;
        above = λ d j z. absurd (absent (λ d. d.txn) t (w.shards node).decided (find_none (λ d. is_same_txn d.txn t) (w.shards node).decided e) d (subst (λ z. Contains z.decided d) at j) z);
      },
      lead_grows gr k,
    ))

-- what was decided is told
pub decided_here : (top : TopologyValue) (w : Run) (node n : ℕ) (t : TxnValue) (d : Decision) → Inv top w → (w.shards node).clock < n → Contains (w.shards node).decided d → d.txn ≡ t
    → TellsDecision w node n t d.commit d.stamp
decided_here top w node n t d inv lt m is =
    record {
      decided = record { decision = d; among = m; txn = is; commit = refl; stamp = refl };
      time = le_trans ((inv.shards node).decided d m).commit (le_of_lt lt);
    }

-- ## Read and ReadAt

module _ (top : TopologyValue) (w : Run) (node n : ℕ) (inv : Inv top w) (lt : (w.shards node).clock < n) where
  -- ## Read

  early : (read : Read) (r : RowNow) → Contains (map (row_now n (w.shards node) read) read.keys) r → r.evt ≤ n
  early read r m =
      let a = w.shards node in
      let q = mapped_from (row_now n a read) read.keys r m in
      subst (λ (z : RowNow). z.evt ≤ n) (sym q.2)
      (evt_early n a.applied (row_of read q.0) read.predicate (λ v has. le_trans ((inv.shards node).applied v has).early (le_of_lt lt)))

  pub read_able : (from number : ℕ) (read : Read)
      → Able top w node (w.shards node) (answer n (w.shards node) (envelope node from n (PartNow number (map (row_now n (w.shards node) read) read.keys))))
  read_able from number read = answer_able top w node n (w.shards node) _ lt (inv.shards node).once (λ x gr at. early read)

  -- ## ReadAt

  asked_sound : (some : 0 < top.shards) (x : Run) (time : ℕ) (read : Read) (k : WriterValue) → Grows top w x → time ≤ n → Contains (asked_below (w.shards node) time read) k → EnvelopeSound top x (check_of top node n time k)
  asked_sound some x time read k gr le m =
      let q = asked_prepared (w.shards node) time read k m in
      let p = q.0 in
      let ps = (inv.shards node).prepared p q.1 in
      let lt : p.coordinator < top.shards = subst (λ c. c < top.shards) (sym ps.coordinator) (coordinator_below top.shards ps.batch some) in
      subst (λ z. EnvelopeSound top x (check_of top node n time z)) (sym q.2)
      (le, sym (near_dc top node p.coordinator lt), record { submission = ps.submission; batch = ps.batch; written = written_grows gr ps.written; here = ap (near top node) ps.coordinator })

  pub wait_able : (from number time : ℕ) (read : Read) → 0 < top.shards → time ≤ n → (k : WriterValue) (ks : List WriterValue) → asked_below (w.shards node) time read ≡ k ∷ ks
      → Able top w node (w.shards node)
      (record {
        state = record (w.shards node) { clock = n; waiting = (w.shards node).waiting ++ waiting_read from number time read (k ∷ ks) ∷ [] };
        sends = map (check_of top node n time) (k ∷ ks);
      })
  wait_able from number time read some le k ks e =
      waits_able top w node n (w.shards node) _ _ _ lt (inv.shards node).once
      (λ x gr at u m.
      let q = mapped_from (check_of top node n time) (k ∷ ks) u m in
      subst (λ z. EnvelopeSound top x z) (sym q.2) (asked_sound some x time read q.0 gr le (subst (λ l. Contains l q.0) (sym e) q.1)))

-- ## ReplPart

-- a part is kept, and its coordinator gets a notice
pub keeps_part_able : (top : TopologyValue) (w : Run) (node n : ℕ) (k : KeptPart) → Inv top w → (w.shards node).clock < n → KeptPartSound top w node k
    → Able top w node (w.shards node)
    (answer n (record (w.shards node) { kept_parts = (w.shards node).kept_parts ++ k ∷ [] }) (envelope node (shard_node top (dc_of top node) k.coordinator) n (Notify k.txn)))
keeps_part_able top w node n k inv lt sound =
    let a = w.shards node in
    let b = record a { kept_parts = a.kept_parts ++ k ∷ [] } in
    stores top w node a b _ (record { clock = refl; prepared = refl; decided = refl; applied = refl; askers = refl }) refl (inv.shards node).once
    (λ x gr le. record {
      early = none_new _ a.early;
      votes = none_new _ a.votes;
      kept_parts = one_new _ a.kept_parts k (kept_part_grows gr sound);
      kept_ballots = none_new _ a.kept_ballots;
      met = none_new _ a.met;
    })
    (answer_able top w node n b _ lt (inv.shards node).once (λ x gr at. tt))

-- ## PrepareRemote

-- a cohort of a transaction decides nothing of it
pub cohort_undecided : (top : TopologyValue) (w : Run) (node : ℕ) (k : KeptPart) → 0 < top.shards → Inv top w → KeptPartSound top w node k → (d : Decision) → Contains (w.shards node).decided d → d.txn ≡ k.txn → ⊥
cohort_undecided top w node k some inv sound d m q =
    let ds = (inv.shards node).decided d m in
    let same = batch_one inv.submitted (written_at (sym q) sound.written) ds.written in
    cohort_other top.shards ds.batch (shard_of top node) (subst (λ z. Contains (cohorts_of top.shards z) (shard_of top node)) same sound.cohort) (lead_number top node (dc_of top node) ds.batch some ds.here)

replica_cohort : Replica ≡ Cohort → ⊥
replica_cohort e = cc

pub prepare_replica_able : (top : TopologyValue) (w : Run) (node n : ℕ) (k : KeptPart) → 0 < top.shards → Inv top w → (w.shards node).clock < n
    → Contains (w.shards node).kept_parts k → is_some (prepared_part k.txn (w.shards node)) ≡ false
    → Able top w node (w.shards node) (prepare_part top node n (w.shards node) k.txn k.rows k.coordinator Replica)
prepare_replica_able top w node n k some inv lt m q =
    let a = w.shards node in
    let sound = (inv.shards node).kept_parts k m in
    prepare_able top w node n a k.txn k.rows k.coordinator Replica sound.submission sound.batch lt (inv.shards node).once
    (absent (λ p. p.txn) k.txn a.prepared (not_found (λ p. is_same_txn p.txn k.txn) a.prepared q))
    (cohort_undecided top w node k some inv sound) sound.written sound.coordinator sound.rows sound.cohort (λ z. absurd (replica_cohort z))

-- ## DepCheck

pub remember_able : (top : TopologyValue) (w : Run) (node n from : ℕ) (dependency waiter : TxnValue) → Inv top w → (w.shards node).clock < n → MayWait top w node waiter from
    → Able top w node (w.shards node) (quiet n (with_asker (w.shards node) dependency waiter from))
remember_able top w node n from dependency waiter inv lt here =
    let a = w.shards node in
    record {
      grows = record { clock = le_of_lt lt; prepared = λ p m. m; prepared_new = λ p m. inl m; decided = λ d m. m; decided_new = λ d m. inl m; applied = λ v m. m };
      fresh = λ x gr at. record {
        prepared = λ e m. inl m;
        ballots = λ e m. inl m;
        early = λ e m. inl m;
        votes = λ e m. inl m;
        decided = λ e m. inl m;
        once = (inv.shards node).once;
        applied = λ e m. inl m;
        kept_parts = λ e m. inl m;
        kept_ballots = λ e m. inl m;
        met = λ e m. inl m;
        askers = one_new (λ (z : Asker). MayWait top x node z.waiter z.from) a.askers (record { dependency = dependency; waiter = waiter; from = from }) (may_wait_grows gr here);
        sends = λ e m. absurd (none_in_empty e m);
      };
    }

-- ## A replicated ballot

-- these envelopes are sent before
pub before_able : (top : TopologyValue) (w : Run) (node : ℕ) (a : ShardState) (sends : List Envelope) (st : ShardStep) → ((x : Run) → Grows top w x → (e : Envelope) → Contains sends e → EnvelopeSound top x e)
    → Able top w node a st → Able top w node a (sent_before sends st)
before_able top w node a sends st f k =
    record {
      grows = k.grows;
      fresh = λ x gr at.
          let g = k.fresh x gr at in
          record {
            prepared = g.prepared;
            ballots = g.ballots;
            early = g.early;
            votes = g.votes;
            decided = g.decided;
            once = g.once;
            applied = g.applied;
            kept_parts = g.kept_parts;
            kept_ballots = g.kept_ballots;
            met = g.met;
            askers = g.askers;
            sends = λ e m. elim (Contains-append_cases sends st.sends e m) [ inl o ↦ f x gr e o | inr o ↦ g.sends e o ];
          };
    }

-- the last missing thing is there, at a shard that differs in kept inputs alone, whose answers are right
module _ (top : TopologyValue) (w : Run) (node n : ℕ) (a : ShardState) (some : 0 < top.shards) (inv : Inv top w) (lt : (w.shards node).clock < n) (like : Alike (w.shards node) a)
    (met : (m : Met) → Contains a.met m → IsDone top w (dc_of top node) m.dependency n) where
  once_here : DecidedOnce a.decided
  once_here = subst DecidedOnce (sym like.decided) (inv.shards node).once

  clock_here : a.clock < n
  clock_here = subst (λ c. c < n) (sym like.clock) lt

  -- each answer is there, so each dependency is done
  done_all : (r : KeptBallot) → all_met a.met r.txn r.dependencies ≡ true → (k : WriterValue) → Contains r.dependencies k → IsDone top w (dc_of top node) k.txn n
  done_all r e k m =
      let f = any_found (λ m. is_same_txn m.waiter r.txn && is_same_txn m.dependency k.txn) a.met (all_have (λ w. is_met a.met r.txn w.txn) r.dependencies k e m) in
      let p = and_parts (is_same_txn f.0.waiter r.txn) (is_same_txn f.0.dependency k.txn) f.2 in
      subst (λ t. IsDone top w (dc_of top node) t n) (same_txn f.0.dependency k.txn p.1) (met f.0 f.1)

  ballot_ready : (r : KeptBallot) → KeptBallotSound top w node n r → all_met a.met r.txn r.dependencies ≡ true → BallotSound top w node n (ballot_of r)
  ballot_ready r k e =
      record {
        submission = k.submission;
        batch = k.batch;
        written = k.written;
        here = k.here;
        rows = k.rows;
        cohorts = k.cohorts;
        dependencies = k.dependencies;
        done = λ d m. done_all r e d (subst (λ l. Contains l d) (sym k.dependencies) m);
        begun = k.begun;
        stamp = (k.stamp, k.time);
      }

  pub ready_able : (r : KeptBallot) (st : ShardStep) → ReadyStep top node n a r st → KeptBallotSound top w node n r
      → Untouched (w.shards node).ballots (w.shards node).prepared (w.shards node).decided r.txn → Able top w node a st
  ready_able r st (misses e) k u = quiet_able top w node n a clock_here once_here
  ready_able r st (alone e q) k u =
      decide_able top w node n a (ballot_of r) some inv lt like
      (ballot_ready r k (and_parts (all_voted top node r.cohorts a.notices r.txn) (all_met a.met r.txn r.dependencies) e).1) u.undecided
      (λ c m. absurd (none_in_empty c (subst (λ l. Contains l c) q m)))
  ready_able r st (asks e c cs q) k u =
      hold_able top w node n a (ballot_of r) [] _ some clock_here once_here
      (λ p m. u.unprepared p (subst (λ l. Contains l p) like.prepared m)) (λ d m. u.undecided d (subst (λ l. Contains l d) like.decided m))
      (ballot_ready r k (and_parts (all_voted top node r.cohorts a.notices r.txn) (all_met a.met r.txn r.dependencies) e).1) (λ v m. absurd (none_in_empty v m))
      (λ x gr at e m.
      let p = mapped_from (λ s. envelope node (shard_node top (dc_of top node) s) n (PrepareRemote r.txn)) (c ∷ cs) e m in subst (λ z. EnvelopeSound top x z) (sym p.2) tt)

pub ready_clock : (top : TopologyValue) (node n : ℕ) (a : ShardState) (r : KeptBallot) (st : ShardStep) → ReadyStep top node n a r st → st.state.clock ≡ n
ready_clock top node n a r st (misses e) = refl
ready_clock top node n a r st (alone e q) = refl
ready_clock top node n a r st (asks e c cs q) = refl

module _ (top : TopologyValue) (w : Run) (node n : ℕ) (some : 0 < top.shards) (inv : Inv top w) (lt : (w.shards node).clock < n) where
  -- each answer that is kept is right at this clock
  old_met : (m : Met) → Contains (w.shards node).met m → IsDone top w (dc_of top node) m.dependency n
  old_met m i = done_grows (same_run top w) (le_of_lt lt) ((inv.shards node).met m i)

  old_ballot : (r : KeptBallot) → Contains (w.shards node).kept_ballots r → KeptBallotSound top w node n r
  old_ballot r m = kept_ballot_grows (same_run top w) (le_of_lt lt) ((inv.shards node).kept_ballots r m)

  -- ## What the message says

  check_sound : (x : Run) → Grows top w x → (r : KeptBallot) → KeptBallotSound top w node n r → (e : Envelope) → Contains (dep_checks top node n r) e → EnvelopeSound top x e
  check_sound x gr r k e m =
      let q = mapped_from (λ u. envelope node (shard_node top (dc_of top node) u.shard) n (DepCheck u.txn r.txn)) r.dependencies e m in
      let placed = inv.submitted.placed k.submission q.0 k.written.among (subst (λ l. Contains l q.0) k.dependencies q.1) in
      subst (λ z. EnvelopeSound top x z) (sym q.2) (of_shard k.submission k.batch (written_grows gr k.written) (sym (near_dc top node q.0.shard placed)))

  -- what a kept ballot waits for is decided in its data centre
  waits_here : (from : ℕ) (t : TxnValue) → MayWait top w from t node → (r : KeptBallot) → KeptBallotSound top w node n r → r.txn ≡ t → dc_of top from ≡ dc_of top node
  waits_here from t (of_shard b batch written e) r k q = sym e
  waits_here from t (of_move b m is own to) r k q =
      let same : b ≡ k.submission = inv.submitted.one b k.submission m k.written.among (is ∙ sym (k.written.txn ∙ q)) in
      absurd (subst (MovesTo (dc_of top from)) (ap (λ z. z.op) same ∙ k.written.op) to)

  told_done : (from time : ℕ) (dependency waiter : TxnValue) (commit : ℕ) → time < n → TellsCommit w from time dependency commit → MayWait top w from waiter node
      → (r : KeptBallot) → Contains (w.shards node).kept_ballots r → r.txn ≡ waiter → IsDone top w (dc_of top node) dependency n
  told_done from time dependency waiter commit late k may r m q =
      let d = k.1.decided in
      let le = k.1.time in
      let same = d.commit in
      record {
        node = from;
        here = waits_here from waiter may r (old_ballot r m) q;
        decision = d.decision;
        among = d.among;
        txn = d.txn;
        commit = omega arith;
      }

  -- ## It is stored, and may be the last missing thing

  alike : (b : ShardState) → b.clock ≡ (w.shards node).clock → b.prepared ≡ (w.shards node).prepared → b.decided ≡ (w.shards node).decided
      → b.applied ≡ (w.shards node).applied → b.askers ≡ (w.shards node).askers → Alike (w.shards node) b
  alike b clock prepared decided applied askers = record { clock = clock; prepared = prepared; decided = decided; applied = applied; askers = askers }

  pub notice_able : (t : TxnValue) (from : ℕ) (st : ShardStep) → Able top w node (with_notice (w.shards node) t from) st → Able top w node (w.shards node) st
  notice_able t from st next =
      let a = w.shards node in
      stores top w node a (with_notice a t from) st (alike (with_notice a t from) refl refl refl refl refl) refl (inv.shards node).once
      (λ x gr le. record {
        early = none_new _ a.early;
        votes = none_new _ a.votes;
        kept_parts = none_new _ a.kept_parts;
        kept_ballots = none_new _ a.kept_ballots;
        met = none_new _ a.met;
      }) next

  -- a kept ballot that misses something was never begun
  unready : (r : KeptBallot) → Contains (w.shards node).kept_ballots r → is_ready top node (w.shards node) r ≡ false
      → Untouched (w.shards node).ballots (w.shards node).prepared (w.shards node).decided r.txn
  unready r has missing = unready_untouched top w inv node r has missing

  pub brings_able : (from time : ℕ) (m : Body) (r : KeptBallot) (b : ShardState) (first : List Envelope) (st : ShardStep)
      → Brings top node n (w.shards node) from m r b first → ReadyStep top node n b r st → time < n → Says top w from node time m
      → Able top w node (w.shards node) (sent_before first st)
  brings_able from time m r b first st (the_ballot t rows stamp cohorts dependencies new) step late says =
      let a = w.shards node in
      let kept = replicated t rows stamp cohorts dependencies in
      let k : KeptBallotSound top w node n kept = kept_ballot_grows (same_run top w) (le_of_lt late) says in
      let like = alike (with_ballot a kept) refl refl refl refl refl in
      before_able top w node a (dep_checks top node n kept) st (λ x gr i m. check_sound x gr kept k i m)
      (stores top w node a (with_ballot a kept) st like refl (inv.shards node).once
      (λ x gr le. record {
        early = none_new _ a.early;
        votes = none_new _ a.votes;
        kept_parts = none_new _ a.kept_parts;
        kept_ballots = one_new _ a.kept_ballots kept
            (kept_ballot_grows gr (subst (λ c. c ≤ (x.shards node).clock) (ready_clock top node n (with_ballot a kept) kept st step) le) k);
        met = none_new _ a.met;
      })
      (ready_able top w node n (with_ballot a kept) some inv lt like old_met kept st step k
      (record { unbegun = unbegun t a new; unprepared = unprepared t a new; undecided = undecided t a new })))
  brings_able from time m r b first st (a_notice t kept has same awaited missing) step late says =
      let c = with_notice (w.shards node) kept.txn from in
      notice_able kept.txn from st
      (ready_able top w node n c some inv lt (alike c refl refl refl refl refl) old_met kept st step (old_ballot kept has) (unready kept has missing))
  brings_able from time m r b first st (an_answer dependency waiter commit kept has same unmet missing) step late says =
      let a = w.shards node in
      let c = with_met a kept.txn dependency in
      let u : Met = record { waiter = kept.txn; dependency = dependency } in
      let is_done = told_done from time dependency waiter commit late says.0 says.1 kept has same in
      stores top w node a c st (alike c refl refl refl refl refl) refl (inv.shards node).once
      (λ x gr le. record {
        early = none_new _ a.early;
        votes = none_new _ a.votes;
        kept_parts = none_new _ a.kept_parts;
        kept_ballots = none_new _ a.kept_ballots;
        met = one_new _ a.met u (done_grows gr (subst (λ c. c ≤ (x.shards node).clock) (ready_clock top node n c kept st step) le) is_done);
      })
      (ready_able top w node n c some inv lt (alike c refl refl refl refl refl)
      (λ i m. elim (last_or_old i u a.met m) [ inl o ↦ old_met i o | inr q ↦ subst (λ z. IsDone top w (dc_of top node) z.dependency n) (sym q) is_done ])
      kept st step (old_ballot kept has) (unready kept has missing))
