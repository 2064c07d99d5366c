-- Each envelope that a shard handles, and each collection, keeps all.
use Rattle.std.proofs.Common.{ℕ, ◌<◌, le_trans, le_of_lt, lt_of_le_of_lt, Ok, ◌≡◌, Some, inl, inr, ap, refl, sym, subst, false, [], arith}
use Rattle.std.specs.Prelude.{filter, is_some, Contains}
use Rattle.logical_time.specs.Stamps.{StampValue, TxnValue}
use Rattle.messages.specs.declared.body.Body.{Body}
use Rattle.messages.specs.declared.envelope.Envelope.{Envelope}
use Rattle.messages.specs.declared.event.ActorEvent.TheVariants.{Handle, Collect as CollectHere}
use Rattle.messages.specs.Topology.{TopologyValue, dc_of}
use Rattle.messages.specs.Words.{is_same_txn}
use Rattle.messages.specs.Shard.{ShardStep, Cohort, Vote}
use Rattle.messages.specs.Known.{prepared_part}
use Rattle.messages.specs.Commits.{with_vote}
use Rattle.messages.specs.Replication.{with_notice}
use Rattle.messages.specs.ShardEvents.{handled, collected}
use Rattle.messages.specs.Clock.{ticked, on_clock}
use Rattle.shard.proofs.steps.HandledCases.{IsTelling, begun, copied, StepOf, still, begin_decides, begin_holds, prepares, vote_decides, vote_counts, vote_early, applies, lets_go, tells_commit, tells_none, reads_now, reads_collected, reads_at, waits, readies, notice_early, keeps_part, prepares_replica, tells_decided, remembers, handled_cases}
use Rattle.shard.proofs.steps.Handles.{ticked_above}
use Rattle.world.specs.Run.{Run, RunEvent, after_shard}
use Rattle.world.proofs.safety.Invariant.{TellsDecision, Says, Inv}
use Rattle.world.proofs.safety.Able.{Able}
use Rattle.world.proofs.safety.Facts.{IsDecided, PreparedBefore}
use Rattle.world.proofs.safety.Lasting.{before_grows, decided_grows, ballot_grows}
use Rattle.world.proofs.safety.LastingAll.{tells_grows, may_wait_grows}
use Rattle.world.proofs.keeping.ShardSteps.{shard_step_kept}
use Rattle.world.proofs.safety.Ables.{same_run, alike_self, unprepared, undecided, quiet_able, waits_able, answer_able, prepare_able, hold_able}
use Rattle.world.proofs.keeping.Decides.{decide_able}
use Rattle.world.proofs.keeping.CasesKept.{vote_prepared, voted_able, vote_decides_able, early_able, apply_able, not_by_able, tells_none_able, decided_here, read_able, wait_able, keeps_part_able, prepare_replica_able, remember_able, notice_able, brings_able}
use Rattle.world.proofs.lists.Members.{none_in_empty, filter_contains}
use Rattle.world.proofs.shards.Playing.{shard_played}
use Rattle.world.proofs.steps.OwnSends.{handled_own, none}

module _ (top : TopologyValue) (w : Run) (node n from time : ℕ) (some : 0 < top.shards) (inv : Inv top w) (lt : (w.shards node).clock < n) (late : time < n) where
  -- what was kept is right at this clock too
  early_now : (v : Vote) → Contains (w.shards node).early v → PreparedBefore w v.node v.txn n
  early_now v m = before_grows (same_run top w) (le_of_lt lt) ((inv.shards node).early v m)

  -- a decision that is told
  told : (m : Body) (t : TxnValue) (commit : ℕ) (stamp : StampValue) → IsTelling m t commit stamp → Says top w from node time m
      → TellsDecision w from time t commit stamp × (dc_of top from ≡ dc_of top node)
  told m t commit stamp (inl q) says = subst (Says top w from node time) q says
  told m t commit stamp (inr q) says = subst (Says top w from node time) q says

  step_able : (m : Body) → Says top w from node time m → (st : ShardStep) → StepOf top node n (w.shards node) from m st → Able top w node (w.shards node) st
  unfolding ballot_grows
  step_able m k st (still none) = quiet_able top w node n (w.shards node) lt (inv.shards node).once
  step_able m k st (begin_decides t rows cohorts dependencies new all) =
      decide_able top w node n (w.shards node) (begun t rows cohorts dependencies) some inv lt (alike_self (w.shards node))
      (ballot_grows (same_run top w) (le_of_lt late) k) (undecided t (w.shards node) new) (vote_prepared top w node n t (w.shards node).early cohorts early_now all)
  step_able m k st (begin_holds t rows cohorts dependencies new missing) =
      hold_able top w node n (w.shards node) (begun t rows cohorts dependencies) (filter (λ v. is_same_txn v.txn t) (w.shards node).early) [] some lt (inv.shards node).once
      (unprepared t (w.shards node) new) (undecided t (w.shards node) new) (ballot_grows (same_run top w) (le_of_lt late) k)
      (λ v m. early_now v (filter_contains (λ v. is_same_txn v.txn t) (w.shards node).early v m).0) (λ x gr at e m. absurd (none_in_empty e m))
  step_able m k st (prepares t rows coordinator new) =
      prepare_able top w node n (w.shards node) t rows coordinator Cohort k.submission k.batch lt (inv.shards node).once
      (unprepared t (w.shards node) new) (undecided t (w.shards node) new) k.written k.coordinator k.rows k.cohort (λ q. k.origin)
  step_able m k st (vote_decides t b is awaited all) =
      vote_decides_able top w node n from t some inv lt (before_grows (same_run top w) (omega (arith, late)) k) b is all
  step_able m k st (vote_counts t b is awaited missing) =
      voted_able top w node n from t some inv lt (before_grows (same_run top w) (omega (arith, late)) k) b is.txn _ refl
      (quiet_able top w node n (with_vote (w.shards node) b.txn from) lt (inv.shards node).once)
  step_able m k st (vote_early t none new first) = early_able top w node n from t some inv lt (before_grows (same_run top w) (omega (arith, late)) k)
  step_able m k st (applies t commit stamp tells p has is theirs new) =
      let says = told m t commit stamp tells k in
      apply_able top w node n from commit stamp p some inv lt (le_of_lt (lt_of_le_of_lt says.0.time late))
      (subst (λ u. IsDecided w from u commit stamp) (sym is) says.0.decided) says.1 has new
  step_able m k st (lets_go t bound) = not_by_able top w node n t bound inv lt
  step_able m k st (tells_commit t bound d has is) =
      let told = decided_here top w node n t d inv lt has is in
      answer_able top w node n (w.shards node) _ lt (inv.shards node).once
      (λ x gr at. (record { decided = decided_grows gr told.decided; time = told.time }, sym k.1))
  step_able m k st (tells_none t bound none) = tells_none_able top w node n from t bound inv lt (le_of_lt (lt_of_le_of_lt k.0 late)) k.2 none
  step_able m k st (reads_now number read) = read_able top w node n inv lt from number read
  step_able m k st (reads_collected number bound read new low) =
      answer_able top w node n (w.shards node) _ lt (inv.shards node).once (λ x gr at. tt)
  step_able m k st (reads_at number bound read new above none) =
      answer_able top w node n (w.shards node) _ lt (inv.shards node).once (λ x gr at. tt)
  step_able m k st (waits number bound read new above u us asked) = wait_able top w node n inv lt from number bound read some (le_trans k.0 (le_of_lt late)) u us asked
  step_able m k st (readies brings step) = brings_able top w node n some inv lt from time m _ _ _ _ brings step late k
  step_able m k st (notice_early t none new first) =
      notice_able top w node n some inv lt t from _ (quiet_able top w node n (with_notice (w.shards node) t from) lt (inv.shards node).once)
  step_able m k st (keeps_part t rows stamp coordinator new) = keeps_part_able top w node n (copied t rows stamp coordinator) inv lt k
  step_able m k st (prepares_replica t kept has is new) =
      prepare_replica_able top w node n kept some inv lt has
      (subst (λ u. is_some (prepared_part u (w.shards node)) ≡ false) (sym is) new)
  step_able m k st (tells_decided dependency waiter d has is) =
      let told = decided_here top w node n dependency d inv lt has is in
      answer_able top w node n (w.shards node) _ lt (inv.shards node).once (λ x gr at. ((d.stamp, tells_grows gr told), may_wait_grows gr k))
  step_able m k st (remembers dependency waiter none new) = remember_able top w node n from dependency waiter inv lt k

pub handle_able : (top : TopologyValue) (w : Run) (node n from time : ℕ) (b : Body) → 0 < top.shards → Inv top w → (w.shards node).clock < n → time < n → Says top w from node time b
    → Able top w node (w.shards node) (handled top node n (w.shards node) from b)
handle_able top w node n from time b some inv lt late k =
    step_able top w node n from time some inv lt late b k (handled top node n (w.shards node) from b) (handled_cases top node n (w.shards node) from b)

pub handle_kept : (top : TopologyValue) (w : Run) (e : Envelope) (n : ℕ) (ev : RunEvent) → 0 < top.shards → Inv top w → Contains w.sent e
    → ticked (w.shards e.to).clock e.time ≡ Some n → Inv top (after_shard (Ok (handled top e.to n (w.shards e.to) e.from e.body)) w ev e.to)
handle_kept top w e n ev some inv m q =
    let above = ticked_above (w.shards e.to).clock e.time n q in
    let st = handled top e.to n (w.shards e.to) e.from e.body in
    shard_step_kept top w e.to st ev inv (handle_able top w e.to n e.from e.time e.body some inv above.0 above.1 (inv.sent e m))
    (shard_played top w e.to n ev (Handle e) st (ap (λ o. on_clock o (λ k. handled top e.to k (w.shards e.to) e.from e.body)) q)
    (λ f is. let same : e ≡ f = cc in subst (λ z. Contains w.sent z × (z.to ≡ e.to)) same (m, refl))
    (handled_own top e.to n (w.shards e.to) e.from e.body).1 inv.played)

-- ## Collections

pub collect_able : (top : TopologyValue) (w : Run) (node n time : ℕ) → Inv top w → (w.shards node).clock < n → Able top w node (w.shards node) (collected n (w.shards node) time)
collect_able top w node n time inv lt = waits_able top w node n (w.shards node) _ _ [] lt (inv.shards node).once (λ x gr at e m. absurd (none_in_empty e m))

pub collect_kept : (top : TopologyValue) (w : Run) (node n time : ℕ) (ev : RunEvent) → Inv top w → ticked (w.shards node).clock (w.shards node).clock ≡ Some n
    → Inv top (after_shard (Ok (collected n (w.shards node) time)) w ev node)
collect_kept top w node n time ev inv q =
    let above = ticked_above (w.shards node).clock (w.shards node).clock n q in
    let st = collected n (w.shards node) time in
    shard_step_kept top w node st ev inv (collect_able top w node n time inv above.0)
    (shard_played top w node n ev (CollectHere time) st (ap (λ o. on_clock o (λ k. collected k (w.shards node) time)) q) (λ f is. absurd (cc)) none inv.played)
