-- What every message leaves under way at a shard.
use Rattle.std.proofs.Common.{◌≡◌, ℕ, ◌<◌, Bool, true, false, [], ◌⊎◌, inl, inr, refl, sym, subst, le_trans}
use Rattle.std.specs.Prelude.{Contains}
use Rattle.std.proofs.lemmas.Bool.{false≢true}
use Rattle.logical_time.specs.Stamps.{StampValue, TxnValue, WriterValue}
use Rattle.messages.specs.declared.body.Body.{Body}
use Rattle.messages.specs.declared.body.Body.TheVariants.{Begin, Prepare, Yes, Commit, At, NotBy, Check, Read as ReadNow, ReadAt, ReplBegin, ReplPart, Notify, PrepareRemote, DepCheck, DepOk, Done, PartNow, PartAt}
use Rattle.messages.specs.declared.envelope.Envelope.{Envelope}
use Rattle.messages.specs.Topology.{TopologyValue, dc_of}
use Rattle.messages.specs.Words.{is_same_txn}
use Rattle.messages.specs.Shard.{ShardStep, KeptBallot}
use Rattle.messages.specs.Reads.{answer}
use Rattle.messages.specs.ShardEvents.{handled, collected}
use Rattle.shard.proofs.steps.HandledCases.{IsTelling, begun, replicated, copied, Ignored, the_ballot, a_notice, an_answer, StepOf, still, begin_decides, begin_holds, prepares, vote_decides, vote_counts, vote_early, applies, lets_go, tells_commit, tells_none, reads_now, reads_collected, reads_at, waits, readies, notice_early, keeps_part, prepares_replica, tells_decided, remembers, handled_cases}
use Rattle.world.specs.Run.{Run, Submission}
use Rattle.world.proofs.lists.Members.{none_in_empty, contains_first, find_none}
use Rattle.world.proofs.safety.Facts.{KeptBallotSound, Sees}
use Rattle.world.proofs.safety.Invariant.{Says, Inv}
use Rattle.world.proofs.safety.Ables.{absent}
use Rattle.world.proofs.envelopes.About.{Kind, OfDone, OfPartNow, OfPartAt, Sent, kind_of}
use Rattle.world.proofs.under_way.Underway.{vote_of, Knows, AtOrigin, Placed, Onward, ShardLive, SaysLive, Acted, Live}
use Rattle.world.proofs.under_way.LiveGrow.{stays_in, prepared_on, kept_ballot_on, known_on, kept_part_on, waits_for_on, aside_on, away_on, origin_on, leads_on, placed_on, round_on, shard_on}
use Rattle.world.proofs.under_way.LivePlaces.{prepared_found}
use Rattle.world.proofs.under_way.LiveSteps.{Here, Fine, Left, clock_live, quiet_left, answer_left, Rounds, ballot_at}
use Rattle.world.proofs.under_way.LiveVotes.{known_at_origin, begin_decides_left, begin_holds_left, prepares_left, vote_decides_left, vote_counts_left, counted_before, early_before, early_left}
use Rattle.world.proofs.under_way.LiveCommits.{applies_left, applied_before, not_by_left, waits_already, waits_left}
use Rattle.world.proofs.under_way.LiveReplicas.{known_replica, notice_before, notice_left, early_notice_before, early_notice_left, answer_before, answer_counts_left, awaits_here, was_counted, repl_begin_left, part_before, keeps_part_left, prepares_replica_left, asked_before, remembers_left}

-- a message that leaves something at a session alone
abbrev pub is_for_session : Kind → Bool
is_for_session (OfDone t) = true
is_for_session (OfPartNow number) = true
is_for_session (OfPartAt number time) = true
is_for_session other = false

-- what a handled message left, unless it is for a session
abbrev pub Acts : TopologyValue → Run → ℕ → ℕ → Kind → Type 0
Acts top x from to k = is_for_session k ≡ false → Acted top x from to k

module _ (top : TopologyValue) (w x : Run) (node n : ℕ) (some : 0 < top.shards) (was : Inv top w) (inv : Inv top x) (g : Onward top w x) (live : Live top w)
    (none : (b : Submission) → Contains w.submitted b → b.session ≡ node → ⊥) where
  here_live : ShardLive top w node (w.shards node)
  here_live = live.shards node

  rounds : Rounds x (w.shards node).waiting
  rounds y m = round_on y.session y.number y.time g (live.rounds node y m)

  -- what a replicated ballot depends on was submitted
  placed : (r : KeptBallot) (time : ℕ) → KeptBallotSound top w node time r → (k : WriterValue) → Contains r.dependencies k → Placed top x k
  placed r time s k m =
      placed_on g ((live.submitted s.submission s.batch s.written.among s.written.op).dependencies k (subst (λ l. Contains l k) s.dependencies m))

  says_on_origin : {t : TxnValue} → AtOrigin top w node t ⊎ Knows (w.shards node) t → AtOrigin top x node t ⊎ Knows (w.shards node) t
  says_on_origin (inl o) = inl (origin_on g o)
  says_on_origin (inr o) = inr o

  kx : ShardLive top x node (w.shards node)
  kx = shard_on g here_live

  -- a message that is ignored has left before what it leaves
  ignored_acts : (from time : ℕ) (m : Body) → Ignored top node (w.shards node) from m → Says top x from node time m
      → SaysLive top w from node (kind_of m) → Acts top x from node (kind_of m)
  ignored_acts from time (Begin t rows cohorts dependencies) e says k f =
      let b = ballot_at says in
      known_at_origin top w x node n some inv g here_live rounds t (record { submission = b.submission; batch = b.batch; written = b.written; here = b.origin refl }) e
  ignored_acts from time (Prepare t rows coordinator) e says k f =
      known_at_origin top w x node n some inv g here_live rounds t (record { submission = says.submission; batch = says.batch; written = says.written; here = says.origin }) e
  ignored_acts from time (Yes t) (inl (b, is, e)) says (o, aside, leads, dc) f =
      inl (stays_in _ _ (g.shards node).votes (vote_of t from)
      (counted_before top w x node n some inv g here_live rounds t from (says_on_origin o) (aside_on g aside) (leads_on g leads) dc b is.among is.txn e))
  ignored_acts from time (Yes t) (inr (none, e)) says (o, aside, leads, dc) f =
      early_before top w x node n some inv g here_live rounds t from (says_on_origin o) (aside_on g aside) (leads_on g leads) dc none e
  ignored_acts from time (Commit t commit stamp) e says k f = applied_before top w x node n some inv g here_live rounds t e k.0 (aside_on g k.1)
  ignored_acts from time (At t commit stamp) e says k f = tt
  ignored_acts from time (NotBy t bound) e says k f = tt
  ignored_acts from time (Check t bound) e says k f = tt
  ignored_acts from time (ReadNow number read) e says k f = absurd e
  ignored_acts from time (ReadAt number bound read) e says k f = waits_already top w x node n some inv g here_live rounds from number bound e
  ignored_acts from time (ReplBegin cohorts t rows stamp dependencies) e says k f =
      elim (known_replica top w x node n some was inv g here_live rounds t (record { submission = says.submission; batch = says.batch; written = says.written; here = says.here }) e) [
        | inl y ↦ inl (kept_ballot_on (g.shards node) y)
        | inr y ↦ inr y
      ]
  ignored_acts from time (ReplPart t rows stamp coordinator) e says k f = part_before top w x node n some was inv g here_live rounds t e
  ignored_acts from time (Notify t) (inl (r, has, is, e)) says k f =
      inl (notice_before top w x node n some was inv g here_live rounds t from (kept_part_on (g.shards from) k.0) k.2 r has is e)
  ignored_acts from time (Notify t) (inr (none, e)) says k f =
      early_notice_before top w x node n some was inv g here_live rounds t from (leads_on g k.1) none e
  ignored_acts from time (PrepareRemote t) (inl e) says k f =
      absurd (absent (λ p. p.txn) t (w.shards node).kept_parts (find_none (λ p. is_same_txn p.txn t) (w.shards node).kept_parts e) k.0.0 k.0.1 k.0.2)
  ignored_acts from time (PrepareRemote t) (inr e) says k f = inl (prepared_on (g.shards node) (prepared_found t (w.shards node) e))
  ignored_acts from time (DepCheck dependency waiter) (none, e) says k f =
      asked_before top w x node n some was inv g here_live rounds (record { dependency = dependency; waiter = waiter; from = from }) e
  ignored_acts from time (DepOk dependency waiter commit) e says k f =
      let awaits = awaits_here top w x node n some was inv g here_live rounds (dc_of top from) waiter dependency none k in
      was_counted top w x node n some was inv g here_live rounds waiter dependency awaits (answer_before top w x node n some was inv g here_live rounds waiter dependency awaits e)
  ignored_acts from time (Done t commit stamp) e says k f = absurd (false≢true (sym f))
  ignored_acts from time (PartNow number rows) e says k f = absurd (false≢true (sym f))
  ignored_acts from time (PartAt number bound answer) e says k f = absurd (false≢true (sym f))

  told : (from : ℕ) (m : Body) (t : TxnValue) (commit : ℕ) (stamp : StampValue) → IsTelling m t commit stamp → Sees (x.shards node).applied t → Acts top x from node (kind_of m)
  told from m t commit stamp (inl q) sees = subst (λ z. Acts top x from node (kind_of z)) (sym q) (λ f. sees)
  told from m t commit stamp (inr q) sees = subst (λ z. Acts top x from node (kind_of z)) (sym q) (λ f. tt)

  -- one envelope is sent, and the clock moves
  answers_left : (e : Envelope) → Fine top x e → Here x node (answer n (w.shards node) e) → Left top x node (answer n (w.shards node) e) × Sent x.sent e.from e.to (kind_of e.body)
  answers_left e fine here = (answer_left n e fine kx, record { message = e; among = here.sent e (contains_first e []); by = refl; for = refl; is = refl })

  step_left : (from time : ℕ) (m : Body) (st : ShardStep) → StepOf top node n (w.shards node) from m st → Says top w from node time m → Says top x from node time m
      → SaysLive top w from node (kind_of m) → Here x node st → Left top x node st × Acts top x from node (kind_of m)
  step_left from time m st (still e) old says k here = (quiet_left n kx, ignored_acts from time m e says k)
  step_left from time m st (begin_decides t rows cohorts dependencies new all) old says k here =
      let r = begin_decides_left top w x node n some inv g here_live rounds (begun t rows cohorts dependencies) refl (ballot_at says) here in (r.0, λ f. r.1)
  step_left from time m st (begin_holds t rows cohorts dependencies new missing) old says k here =
      let r = begin_holds_left top w x node n some inv g here_live rounds (begun t rows cohorts dependencies) refl (ballot_at says) new missing here in (r.0, λ f. r.1)
  step_left from time m st (prepares t rows coordinator new) old says k here =
      let r = prepares_left top w x node n some inv g here_live rounds t rows coordinator says here in (r.0, λ f. r.1)
  step_left from time m st (vote_decides t b is awaited all) old says (o, aside, leads, dc) here =
      let r = vote_decides_left top w x node n some inv g here_live rounds t from (says_on_origin o) (aside_on g aside) (leads_on g leads) dc b is.among is.txn here in
      (r.0, λ f. inl r.1)
  step_left from time m st (vote_counts t b is awaited missing) old says (o, aside, leads, dc) here =
      let r = vote_counts_left top w x node n some inv g here_live rounds t from (says_on_origin o) (aside_on g aside) (leads_on g leads) dc b is.among is.txn missing here in
      (r.0, λ f. inl r.1)
  step_left from time m st (vote_early t none new first) old says (o, aside, leads, dc) here =
      let r = early_left top w x node n some inv g here_live rounds t from (says_on_origin o) (aside_on g aside) (leads_on g leads) dc new here in (r.0, λ f. r.1)
  step_left from time m st (applies t commit stamp tells p has is theirs new) old says k here =
      let r = applies_left top w x node n some inv g here_live rounds t commit stamp p has is theirs here in
      (r.0, told from m t commit stamp tells r.1)
  step_left from time m st (lets_go t bound) old says k here = (not_by_left top w x node n some inv g here_live rounds t bound, λ f. tt)
  step_left from time m st (tells_commit t bound d has is) old says k here = (answer_left n _ tt kx, λ f. tt)
  step_left from time m st (tells_none t bound none) old says k here = (answer_left n _ tt kx, λ f. tt)
  step_left from time m st (reads_now number read) old says k here =
      let r = answers_left _ (le_trans k.0 (g.sessions from).count) here in (r.0, λ f. r.1)
  step_left from time m st (reads_collected number bound read new low) old says k here =
      let r = answers_left _ (round_on from number bound g k.0) here in (r.0, λ f. inl r.1)
  step_left from time m st (reads_at number bound read new above none) old says k here =
      let r = answers_left _ (round_on from number bound g k.0) here in (r.0, λ f. inl r.1)
  step_left from time m st (waits number bound read new above u us asked) old says k here =
      let r = waits_left top w x node n some inv g here_live rounds from number bound read u us here in (r.0, λ f. inr (inl r.1))
  step_left from time m st (readies (the_ballot t rows stamp cohorts dependencies new) step) old says k here =
      let kept = replicated t rows stamp cohorts dependencies in
      let r = repl_begin_left top w x node n some was inv g here_live rounds kept (away_on g k.0) k.1 (placed kept time old) new _ step here in (r.0, λ f. inl r.1)
  step_left from time m st (readies (a_notice t kept has is awaited unready) step) old says k here =
      let r = notice_left top w x node n some was inv g here_live rounds t from (kept_part_on (g.shards from) k.0) (leads_on g k.1) k.2 kept has is unready _ step here in
      (r.0, λ f. inl r.1)
  step_left from time m st (readies (an_answer dependency waiter commit kept has is unmet unready) step) old says k here =
      let r = answer_counts_left top w x node n some was inv g here_live rounds waiter dependency kept has is unready _ step here in
      (r.0, λ f. was_counted top w x node n some was inv g here_live rounds waiter dependency (awaits_here top w x node n some was inv g here_live rounds (dc_of top from) waiter dependency none k) r.1)
  step_left from time m st (notice_early t none new first) old says k here =
      let r = early_notice_left top w x node n some was inv g here_live rounds t from (kept_part_on (g.shards from) k.0) (leads_on g k.1) k.2 none here in (r.0, λ f. r.1)
  step_left from time m st (keeps_part t rows stamp coordinator new) old says k here =
      let r = keeps_part_left top w x node n some was inv g here_live rounds (copied t rows stamp coordinator) says (away_on g k.1) k.2 here in (r.0, λ f. inl r.1)
  step_left from time m st (prepares_replica t kept has is new) old says k here =
      let r = prepares_replica_left top w x node n some was inv g here_live rounds from t (known_on (g.shards from) k.1) (leads_on g k.2) k.3 kept has is here in
      (r.0, λ f. r.1)
  step_left from time m st (tells_decided dependency waiter d has is) old says k here =
      let r = answers_left _ (waits_for_on g k.2) here in (r.0, λ f. inl r.1)
  step_left from time m st (remembers dependency waiter none new) old says k here =
      let r = remembers_left top w x node n some was inv g here_live rounds (record { dependency = dependency; waiter = waiter; from = from }) (leads_on g k.0) k.1 (waits_for_on g k.2) none here in
      (r.0, λ f. r.1)

  body_left : (from time : ℕ) (b : Body) → Says top w from node time b → Says top x from node time b → SaysLive top w from node (kind_of b) → Here x node (handled top node n (w.shards node) from b)
      → Left top x node (handled top node n (w.shards node) from b) × Acts top x from node (kind_of b)
  body_left from time b old says k here = step_left from time b (handled top node n (w.shards node) from b) (handled_cases top node n (w.shards node) from b) old says k here

-- what a message that was sent leaves at the shard that handles it, in a run after the step
pub handled_left : (top : TopologyValue) (w x : Run) (n : ℕ) → 0 < top.shards → Inv top w → Inv top x → Onward top w x → Live top w → (e : Envelope) → Contains w.sent e
    → ((b : Submission) → Contains w.submitted b → b.session ≡ e.to → ⊥) → Here x e.to (handled top e.to n (w.shards e.to) e.from e.body)
    → Left top x e.to (handled top e.to n (w.shards e.to) e.from e.body) × Acts top x e.from e.to (kind_of e.body)
handled_left top w x n some was inv g live e m none here =
    body_left top w x e.to n some was inv g live none e.from e.time e.body (was.sent e m) (inv.sent e (g.sent e m)) (live.sent e m) here

-- what a collection leaves
pub collected_left : (top : TopologyValue) (w x : Run) (node n time : ℕ) → Onward top w x → Live top w → Left top x node (collected n (w.shards node) time)
collected_left top w x node n time g live =
    record { live = clock_live n _ (w.shards node).waiting (shard_on g (live.shards node)); sends = λ e m. absurd (none_in_empty e m) }
