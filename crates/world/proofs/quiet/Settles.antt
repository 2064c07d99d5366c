-- A quiet run is settled.
use Rattle.std.proofs.Common.{◌≡◌, ℕ, ◌<◌, List, Some, inl, inr, refl, sym, ap, ◌∙◌, subst, subst₂}
use Rattle.std.specs.Prelude.{false, Contains}
use Rattle.std.proofs.lemmas.Bool.{false≢true}
use Rattle.logical_time.specs.Stamps.{TxnValue, WriterValue}
use Rattle.std.proofs.lemmas.List.Sorted.{Contains-permutation, IsPermutation-sym}
use Rattle.column_family.specs.declared.batch.Change.{Change}
use Rattle.column_family.specs.History.{History}
use Rattle.planner.specs.Plan.{coordinator_of}
use Rattle.messages.specs.declared.op.Op.TheVariants as op
use Rattle.messages.specs.Topology.{TopologyValue, shard_node}
use Rattle.messages.specs.SessionEvents.{is_left}
use Rattle.messages.specs.Session.{Open, Idle, Writing, FirstRound, SecondRound, Moving, is_idle}
use Rattle.world.specs.Run.{Run, Submission, Completed}
use Rattle.world.specs.Histories.{history_of, IsHistory}
use Rattle.world.specs.Quiet.{IsQuiet}
use Rattle.world.specs.Local.{MovesAtMost}
use Rattle.world.specs.Settled.{IsOutcomeOf, IsCommittedIn, HasEntry, Settled}
use Rattle.world.proofs.safety.Facts.{txn_of, IsWritten}
use Rattle.world.proofs.safety.Invariant.{MovingSound, OpenSound, Inv}
use Rattle.world.proofs.causal.Causal.{Causal}
use Rattle.world.proofs.histories.DecidedIn.{decided_in, in_decisions}
use Rattle.world.proofs.histories.Entries.{batch_found}
use Rattle.world.proofs.histories.Histories.{entry_there}
use Rattle.world.proofs.safety.OneBatch.{written_at, batch_one}
use Rattle.world.proofs.envelopes.Near.{coordinator_below}
use Rattle.world.proofs.envelopes.About.{OfDepCheck, OfDepOk, Sent}
use Rattle.world.proofs.under_way.Underway.{IsNotLeft, WasCounted, by_ballot, by_move, MovingLive, OpenLive, Live}
use Rattle.world.proofs.under_way.OpenReads.{still_left}
use Rattle.world.proofs.keeping.SessionEnds.{open_txn}
use Rattle.world.proofs.quiet.Settling.{Everyone, quiet_among_all, act}
use Rattle.world.proofs.quiet.Answered.{answered, outcome_of}
use Rattle.world.proofs.quiet.SettledShards.{each_decided, no_wait, asked_decided, shard_clear}
use Rattle.world.proofs.quiet.SettledTables.{equal_tables}

module _ (top : TopologyValue) (w : Run) (some : 0 < top.shards) (inv : Inv top w) (live : Live top w) (causal : Causal top w) (quiet : IsQuiet w) where
  -- ## Writes

  committed_in : (t : TxnValue) (b : Submission) (batch : List Change) → IsWritten w t b batch → (dc : ℕ) → dc < top.dcs → IsCommittedIn top w dc t
  committed_in t b batch k dc lt =
      let d = each_decided top w some inv live quiet t b batch k dc lt in (
        d.0,
        (in_decisions top w dc (coordinator_of top.shards batch) d.0
            (coordinator_below top.shards batch some) d.1),
        d.2,
      )

  -- it has its own entry in the history
  stands_in : (b : Submission) (batch : List Change) → IsWritten w (txn_of b) b batch → (dc : ℕ) → dc < top.dcs
      → (h : History) → IsHistory top w dc h → HasEntry top w dc h b batch
  stands_in b batch k dc lt h is =
      let d = committed_in (txn_of b) b batch k dc lt in
      let e = entry_there top w dc d.0 inv d.1 in
      let s = (decided_in top w inv dc d.0 d.1).sound in
      let found : Some s.batch ≡ Some e.0.batch = sym (batch_found top w d.0.txn s.submission s.batch inv.submitted s.written) ∙ e.2.batch in
      let same : s.batch ≡ e.0.batch = cc in
      record {
        decision = d.0;
        decided = d.1;
        txn = d.2;
        entry = e.0;
        listed = Contains-permutation (history_of top w dc) h e.0 (IsPermutation-sym h (history_of top w dc) is) e.1;
        is = e.2;
        submitted = sym same ∙ batch_one inv.submitted (written_at d.2 s.written) k;
      }

  -- ## Sessions

  -- an open move would miss an answer that it was given
  module _ (node dc : ℕ) (left : List WriterValue) (floor : ℕ) (e : (w.sessions node).current ≡ Moving dc left floor)
      (s : MovingSound top w node (w.sessions node) dc left floor) (k : MovingLive top w node (w.sessions node) dc left) where
    abbrev waiter : TxnValue
    waiter = record { session = node; number = (w.sessions node).count }

    abbrev missing : WriterValue
    missing = k.some.0

    abbrev shard : ℕ
    shard = shard_node top dc missing.shard

    not_counted : WasCounted w node waiter missing.txn → ⊥
    not_counted (by_ballot r m) =
        let rs = (inv.shards node).kept_ballots r.0 r.1 in
        let same = inv.submitted.one rs.submission s.opened.submission rs.written.among s.opened.among (rs.written.txn ∙ r.2 ∙ sym (open_txn s.opened)) in
        let q : op.Batch rs.batch ≡ op.Move dc = sym rs.written.op ∙ ap (λ z. z.op) same ∙ s.opened.op in
        absurd (cc)
    not_counted (by_move b m is there moves h) =
        let has : is_left missing.txn left ≡ false = subst (λ z. IsNotLeft z missing.txn) e (h.round refl) in
        false≢true (sym has ∙ still_left left missing k.some.1)

    not_told : Sent w.sent shard node (OfDepOk missing.txn waiter) → ⊥
    not_told sent = not_counted (act top w some inv live quiet shard node (OfDepOk missing.txn waiter) sent)

    not_moving : ⊥
    not_moving =
        elim (act top w some inv live quiet node shard (OfDepCheck missing.txn waiter) (k.asked missing k.some.1)) [
          | inl sent ↦ not_told sent
          | inr z ↦
              let d = asked_decided top w some inv live quiet shard z.0 z.1 in
              let y = (live.shards shard).entries.told z.0 d.0 z.1 d.1 d.2 in
              not_told (subst (λ n. Sent w.sent shard n (OfDepOk missing.txn waiter)) z.4 (subst₂ (λ t u. Sent w.sent shard z.0.from (OfDepOk t u)) z.2 z.3 y))
        ]

  idle : (node : ℕ) → (w.sessions node).current ≡ Idle
  idle node =
      go (w.sessions node).current refl (inv.sessions node).current (live.current node)
      (answered top w some inv live causal Everyone (quiet_among_all w quiet) node tt (λ c lt. tt) (λ shard y here. no_wait top w some inv live quiet shard y)
      (w.sessions node).current refl (inv.sessions node).current (live.current node))
    where
      go : (o : Open) → (w.sessions node).current ≡ o → OpenSound top w node (w.sessions node) o → OpenLive top w node (w.sessions node) o → MovesAtMost o
          → o ≡ Idle
      go Idle e s k m = refl
      go (Writing coordinator) e s k m = absurd m
      go (FirstRound read heard) e s k m = absurd m
      go (SecondRound read time first heard) e s k m = absurd m
      go (Moving dc left floor) e s k m = absurd (not_moving node dc left floor e s k)

  outcome : (b : Submission) → Contains w.submitted b → (c : Completed) × IsOutcomeOf w b c
  outcome b m = outcome_of top w inv live b m (λ o. false≢true (sym o.current ∙ ap is_idle (idle b.session)))

  -- ## All

  pub settled : Settled top w
  settled =
      record {
        outcomes = λ b c. outcome b c;
        idle = idle;
        committed = λ b batch dc c e lt. committed_in (txn_of b) b batch (record { among = c; txn = refl; op = e }) dc lt;
        histories = λ b batch dc h c e lt is.
            stands_in b batch (record { among = c; txn = refl; op = e }) dc lt h is;
        shards = shard_clear top w some inv live quiet;
        tables = λ dc other lt below. equal_tables top w inv dc other (λ t b batch k. (committed_in t b batch k dc lt, committed_in t b batch k other below));
      }
