-- The promises of every run, from what holds of it.
use Rattle.std.proofs.Common.{◌≡◌, ℕ, ◌+◌, ◌<◌, true, List, [], ◌∷◌, ◌++◌, refl, sym, ap, ◌∙◌, subst, arith, le_refl}
use Rattle.std.specs.Prelude.{◌≢◌, Contains, AllPairs}
use Rattle.std.proofs.lemmas.Bool.Decides.{nat_tests}
use Rattle.logical_time.specs.Stamps.{StampValue, TxnValue, WriterValue, is_older}
use Rattle.column_family.specs.History.{History}
use Rattle.slice.specs.declared.read.Read.{Read}
use Rattle.messages.specs.declared.rows_at.RowAt.{RowAt}
use Rattle.messages.specs.Actors.{finished_in}
use Rattle.messages.specs.Topology.{TopologyValue, is_topology, dc_of, shard_of, shard_node}
use Rattle.messages.proofs.Numbering.{shard_again}
use Rattle.world.specs.Run.{Run, RunEvent, Submission, Completed, run, opening}
use Rattle.world.specs.Histories.{decisions_in, IsHistory}
use Rattle.world.specs.Before.{ReadRestsOn}
use Rattle.world.specs.Committed.{IsCommittedBy}
use Rattle.world.specs.Entries.{named_by, StampsAgree, WritesAreTold, TellsDecided, AreNamedOnce, CoordinatorsDecide}
use Rattle.world.specs.Quiet.{IsQuiet}
use Rattle.world.specs.Settled.{Settled}
use Rattle.world.specs.Each.{EachShardIsRight}
use Rattle.world.specs.Promises.{number_of, LaterCommitsAreAbove, EntriesAreOfSubmissions, OutcomesAreListed, ReadsShowOneTable, AnswersStay, ReadsShowTheirPast, MovesBringTheirPast, ReadsAreFresh, StampsFollowCauses, TimesNeverFall, OperationsEndOnce, HistoriesGrow, HandledIsHonest}
use Rattle.world.proofs.lists.Members.{none_in_empty, Contains-append_left}
use Rattle.world.proofs.growing.Growth.{Grows}
use Rattle.world.proofs.safety.Facts.{lead, IsDone}
use Rattle.world.proofs.safety.Invariant.{AnsweredFrom, Inv}
use Rattle.world.proofs.envelopes.Near.{shard_below}
use Rattle.world.proofs.histories.DecidedIn.{in_decisions, decided_in}
use Rattle.world.proofs.tables.ReadTables.{answered, one_table}
use Rattle.world.proofs.histories.LaterCommits.{commits_above}
use Rattle.world.proofs.tables.ReadRests.{rests_on_written}
use Rattle.world.proofs.keeping.WritersDone.{writers_done}
use Rattle.world.proofs.lists.Pairs.{no_pairs, more_pairs}
use Rattle.world.proofs.causal.Causal.{EndedOnce, NamedOnce, writers_in}
use Rattle.world.proofs.causal.CausalKept.{new_writers}
use Rattle.world.proofs.causal.CausalRuns.{every_causal}
use Rattle.world.proofs.causal.Pasts.{past_reached}
use Rattle.world.proofs.growing.Grown.{runs_only_grow}
use Rattle.world.proofs.safety.Runs.{every_run, run_grows, run_after}
use Rattle.world.proofs.histories.HistoriesGrow.{history_kept}
use Rattle.world.proofs.histories.OneStampEverywhere.{stamps_agree}
use Rattle.world.proofs.histories.WritesAreEntries.{writes_are_told}
use Rattle.world.proofs.histories.Histories.{history_tells, coordinators_decide}
use Rattle.world.proofs.safety.HonestLists.{handled_honest}
use Rattle.world.proofs.quiet.Settles.{settled}
use Rattle.world.proofs.envelopes.Addresses.{stands}
use Rattle.world.proofs.under_way.LiveEvents.{run_live}
use Rattle.world.proofs.replays.EachShard.{each_is_right}
use Rattle.world.proofs.fresh.FreshReads.{completed_fresh}
use Rattle.world.proofs.replays.OwnJournals.{each_is_its_journal}

pub reads_show_one_table : (top : TopologyValue) (events : List RunEvent) → 0 < top.shards → ReadsShowOneTable top (run top events)
reads_show_one_table top events some c read time answer h is history =
    one_table top (run top events) (every_run top events some) some c read time answer is.completed is.op is.outcome h history

-- ## Causal order

module _ (top : TopologyValue) (some : 0 < top.shards) (w : Run) (inv : Inv top w) where
  pub rests : (dc time : ℕ) (read : Read) (rows : List RowAt) → AnsweredFrom top w dc read time rows → (u : TxnValue) → ReadRestsOn top w dc read time u → (k : WriterValue) × Contains (writers_in rows) k × (k.txn ≡ u)
  rests dc time read rows from u r =
      let k = rests_on_written top w inv some dc time read rows from u r in
      (k.0, k.1, k.2)

  pub committed : (dc time : ℕ) (read : Read) (rows : List RowAt) → AnsweredFrom top w dc read time rows → (k : WriterValue) → Contains (writers_in rows) k → IsDone top w dc k.txn (time + 1)
  committed dc time read rows from k m =
      writers_done top w some inv dc time time read rows [] from (le_refl time) (λ k m. absurd (none_in_empty k m)) k (new_writers rows [] k m)

  pub done_here : (dc time : ℕ) (u : TxnValue) (d : IsDone top w dc u time) → Contains (decisions_in top w dc) d.decision
  done_here dc time u d =
      let at : Contains (w.shards (shard_node top dc (shard_of top d.node))).decided d.decision =
      subst (λ z. Contains (w.shards (shard_node top z (shard_of top d.node))).decided d.decision) d.here
      (subst (λ z. Contains (w.shards z).decided d.decision) (sym (shard_again top d.node)) d.among) in
      in_decisions top w dc (shard_of top d.node) d.decision (shard_below top d.node some) at

  done_committed : (dc time : ℕ) (u : TxnValue) → IsDone top w dc u (time + 1) → IsCommittedBy top w dc u time
  done_committed dc time u d = let lt = d.commit in (d.decision, done_here dc (time + 1) u d, d.txn, omega arith)

older_by_time : (s t : StampValue) → s.time < t.time → is_older s t ≡ true
older_by_time s t lt = grind (arith, nat_tests)

pub reads_show_their_past : (top : TopologyValue) (events : List RunEvent) → 0 < top.shards → ReadsShowTheirPast top (run top events)
reads_show_their_past top events some c read time answer u is past =
    let w = run top events in
    let inv = every_run top events some in
    let r = past_reached top w some inv (every_causal top events some) (rests top some w inv) (committed top some w inv) u (record { session = c.node; number = c.number }) past in
    done_committed top some w inv c.home time u (r.read c is.completed refl read time answer is.op is.outcome)

pub moves_bring_their_past : (top : TopologyValue) (events : List RunEvent) → 0 < top.shards → MovesBringTheirPast top (run top events)
moves_bring_their_past top events some c dc floor u has came past =
    let w = run top events in
    let inv = every_run top events some in
    let r = past_reached top w some inv (every_causal top events some) (rests top some w inv) (committed top some w inv) u (record { session = c.node; number = c.number }) past in
    done_committed top some w inv dc floor u (r.move c has refl dc floor came)

pub stamps_follow_causes : (top : TopologyValue) (events : List RunEvent) → 0 < top.shards → StampsFollowCauses top (run top events)
stamps_follow_causes top events some u v dc ec d e past hd qd he qe =
    let w = run top events in
    let inv = every_run top events some in
    let r = past_reached top w some inv (every_causal top events some) (rests top some w inv) (committed top some w inv) u v past in
    let at = decided_in top w inv ec e he in
    let home = at.sound.stamp.decided in
    let done = r.write (lead top at.sound.submission.home at.sound.batch) home.decision home.among (home.txn ∙ at.sound.written.txn ∙ qe) in
    let first = (inv.shards done.node).decided done.decision done.among in
    let its = dc_of top (lead top at.sound.submission.home at.sound.batch) in
    let same : d.stamp ≡ done.decision.stamp = (stamps_agree top w inv).one dc its d done.decision hd (done_here top some w inv its home.decision.commit u done) (qd ∙ sym done.txn) in
    let time : d.stamp.time ≡ done.decision.stamp.time = ap (λ s. s.time) same in
    let low = first.stamp_time in
    let lt = done.commit in
    let commit = home.commit in
    older_by_time d.stamp e.stamp (omega arith)

pub times_never_fall : (top : TopologyValue) (events : List RunEvent) → 0 < top.shards → TimesNeverFall (run top events)
times_never_fall top events some c e hc he node number stays =
    let w = run top events in
    (every_causal top events some).ordered c e hc he node number
    (λ d m. stays d m)

ended_apart : (cs : List Completed) → EndedOnce cs → AllPairs (λ c e. number_of c ≢ number_of e) cs
ended_apart [] k = no_pairs (λ c e. number_of c ≢ number_of e)
ended_apart (c ∷ cs) k = more_pairs (λ c e. number_of c ≢ number_of e) c cs (λ e m same. k.0 e m (sym same)) (ended_apart cs k.1)

pub operations_end_once : (top : TopologyValue) (events : List RunEvent) → 0 < top.shards → OperationsEndOnce (run top events)
operations_end_once top events some = ended_apart (run top events).transcript (every_causal top events some).once

pub entries_are_of_submissions : (top : TopologyValue) (events : List RunEvent) → 0 < top.shards → EntriesAreOfSubmissions (run top events)
entries_are_of_submissions top events some c has =
    let w = run top events in
    let k = (every_run top events some).transcript c has in
    record {
      submission = k.opened.submission;
      submitted = k.opened.among;
      session = k.opened.session;
      number = k.opened.number;
      home = k.opened.home;
      op = k.opened.op;
      fits = k.fits;
    }

-- ## Journals

pub outcomes_are_listed : (top : TopologyValue) (events : List RunEvent) → 0 < top.shards → OutcomesAreListed top (run top events)
outcomes_are_listed top events some node = sym (ap finished_in (each_is_its_journal top events node some))

-- ## Later moments

pub answers_stay : (top : TopologyValue) (before after : List RunEvent) → 0 < top.shards → AnswersStay top before after
answers_stay top before after some c read time answer h is history =
    let w = run top before in
    let v = run top (before ++ after) in
    let more = (runs_only_grow top before after).transcript in
    let still : Contains v.transcript c =
    subst (λ l. Contains l c) (sym more.1) (Contains-append_left w.transcript more.0 c is.completed) in
    reads_show_one_table top (before ++ after) some c read time answer h
    (record { completed = still; op = is.op; outcome = is.outcome }) history

-- ## Histories

pub histories_tell : (top : TopologyValue) (events : List RunEvent) (dc : ℕ) (h : History) → 0 < top.shards → IsHistory top (run top events) dc h → TellsDecided top (run top events) dc h
histories_tell top events dc h some is = history_tells top (run top events) dc h (every_run top events some) is

named_apart : (bs : List Submission) → NamedOnce bs → AllPairs (λ s t. named_by s ≢ named_by t) bs
named_apart [] k = no_pairs (λ s t. named_by s ≢ named_by t)
named_apart (b ∷ bs) k = more_pairs (λ s t. named_by s ≢ named_by t) b bs (λ c m same. k.0 c m (sym same)) (named_apart bs k.1)

pub named_in_runs : (top : TopologyValue) (events : List RunEvent) → 0 < top.shards → AreNamedOnce (run top events)
named_in_runs top events some = named_apart (run top events).submitted (every_causal top events some).named

pub coordinators_in_runs : (top : TopologyValue) (events : List RunEvent) → 0 < top.shards → CoordinatorsDecide top (run top events)
coordinators_in_runs top events some = coordinators_decide top (run top events) (every_run top events some)

pub prefix_grows : (top : TopologyValue) (before after : List RunEvent) → 0 < top.shards → Grows top (run top before) (run top (before ++ after))
prefix_grows top before after some =
    subst (λ z. Grows top (run top before) z) (sym (run_after top (opening top) before after)) (run_grows top (run top before) after some (every_run top before some))

pub histories_grow : (top : TopologyValue) (before after : List RunEvent) → 0 < top.shards → HistoriesGrow top before after
histories_grow top before after some dc g h is was =
    history_kept top (run top before) (run top (before ++ after)) dc g h (every_run top before some) (every_run top (before ++ after) some) (prefix_grows top before after some) is was

pub later_commits_are_above : (top : TopologyValue) (before after : List RunEvent) → 0 < top.shards → LaterCommitsAreAbove top before after
later_commits_are_above top before after some c read time answer d is m fresh touched =
    let inv = every_run top before some in
    let sound = answered top (run top before) inv c read time answer is.completed is.op is.outcome in
    commits_above top some (run top before) (run top (before ++ after)) inv (every_run top (before ++ after) some) (prefix_grows top before after some) c.home time read sound.rows sound.from d m fresh
    touched.batch touched.submitted touched.key touched.asked touched.name touched.touches

pub stamps_in_runs : (top : TopologyValue) (events : List RunEvent) → 0 < top.shards → StampsAgree top (run top events)
stamps_in_runs top events some = stamps_agree top (run top events) (every_run top events some)

pub writes_in_runs : (top : TopologyValue) (events : List RunEvent) → 0 < top.shards → WritesAreTold top (run top events)
writes_in_runs top events some = writes_are_told top (run top events) some (every_run top events some)

-- ## What was handled, and what is fresh

pub handled_is_honest : (top : TopologyValue) (events : List RunEvent) → 0 < top.shards → HandledIsHonest top (run top events)
handled_is_honest top events some node = handled_honest top (run top events) node (every_run top events some)

pub each_shard_is_right : (top : TopologyValue) (events : List RunEvent) → 0 < top.shards → EachShardIsRight top (run top events)
each_shard_is_right top events some node here = each_is_right top events node some here (handled_is_honest top events some node)

pub reads_are_fresh : (top : TopologyValue) (events : List RunEvent) → 0 < top.shards → ReadsAreFresh top (run top events)
reads_are_fresh top events some c has =
    completed_fresh top some (λ xs. every_run top xs some) (λ xs ys. prefix_grows top xs ys some) (λ xs. every_causal top xs some) events c has

-- ## Quiet runs

pub quiet_means_done : (top : TopologyValue) (events : List RunEvent) → is_topology top.dcs top.shards top.homes ≡ true → IsQuiet (run top events) → Settled top (run top events)
quiet_means_done top events ok quiet =
    let some = (stands top ok).some in
    settled top (run top events) some (every_run top events some) (run_live top events ok) (every_causal top events some) quiet
