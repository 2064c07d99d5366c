-- A completed write stands in the history of its home, with the commit time and the stamp that its session was told.
use Rattle.std.proofs.Common.{◌≡◌, ◌∙◌, ℕ, ◌<◌, List, refl, sym, subst}
use Rattle.std.specs.Prelude.{Contains}
use Rattle.std.proofs.lemmas.List.Sorted.{Contains-permutation, IsPermutation-sym}
use Rattle.logical_time.specs.Stamps.{StampValue, TxnValue}
use Rattle.column_family.specs.declared.batch.Change.{Change}
use Rattle.column_family.specs.Normal.{committed}
use Rattle.planner.specs.Plan.{coordinator_of}
use Rattle.store.proofs.lists.Lists.{given}
use Rattle.messages.specs.declared.op.Op.{Op}
use Rattle.messages.specs.declared.op.Op.TheVariants as op
use Rattle.messages.specs.declared.outcome.Outcome.{Outcome}
use Rattle.messages.specs.declared.outcome.Outcome.TheVariants as outcome
use Rattle.messages.specs.Topology.{TopologyValue}
use Rattle.world.specs.Run.{Run, Submission}
use Rattle.world.specs.Histories.{decisions_in, committed_of, history_of}
use Rattle.world.specs.Entries.{WritesAreTold}
use Rattle.world.specs.Promises.{Fits}
use Rattle.world.proofs.steps.EndCases.{end_cases}
use Rattle.world.proofs.safety.Facts.{IsWritten, IsDecided, lead}
use Rattle.world.proofs.safety.Invariant.{Inv, IsOpen, EndSound}
use Rattle.world.proofs.envelopes.Near.{coordinator_below}
use Rattle.world.proofs.histories.Entries.{decided_in, entry_found}

-- what ended with a commit time and a stamp is a batch, decided so at its session's home
ended_so : (top : TopologyValue) (w : Run) (dc : ℕ) (t : TxnValue) (o : Op) (e : Outcome) (n : ℕ) (s : StampValue) → Fits o e → EndSound o e top w dc t
    → e ≡ outcome.Wrote n s
    → (batch : List Change) × (o ≡ op.Batch batch) × IsDecided w (lead top dc batch) t n s
ended_so top w dc t o e n s =
    end_cases (λ o e. EndSound o e top w dc t → e ≡ outcome.Wrote n s → (batch : List Change) × (o ≡ op.Batch batch) × IsDecided w (lead top dc batch) t n s)
    (record {
      wrote = λ batch m r d e.
          let times : m ≡ n = cc in
          let stamps : r ≡ s = cc in
          (batch, refl, record { decision = d.decision; among = d.among; txn = d.txn; commit = d.commit ∙ times; stamp = d.stamp ∙ stamps });
      answered = λ read m r d e. absurd (cc);
      given_up = λ read d e. absurd (cc);
      moved = λ dc floor d e. absurd (cc);
    }) o e

decided_entry : (top : TopologyValue) (w : Run) (dc : ℕ) (t : TxnValue) (b : Submission) (batch : List Change) (n : ℕ) (s : StampValue)
    → 0 < top.shards → Inv top w
    → IsWritten w t b batch → IsDecided w (lead top dc batch) t n s → Contains (history_of top w dc) (committed batch s n)
decided_entry top w dc t b batch n s some inv written d =
    let has = decided_in top w dc (coordinator_of top.shards batch) d.decision (coordinator_below top.shards batch some) d.among in
    let is = entry_found top w d.decision b batch inv (subst (λ z. IsWritten w z b batch) (sym d.txn) written) in
    subst (λ z. Contains (history_of top w dc) (committed batch s z)) d.commit
    (subst (λ z. Contains (history_of top w dc) (committed batch z d.decision.commit)) d.stamp
    (given (committed_of w) (decisions_in top w dc) d.decision (committed batch d.decision.stamp d.decision.commit) has is))

named : (w : Run) (node m dc : ℕ) (o : Op) (batch : List Change) → (p : IsOpen w node m dc o) → o ≡ op.Batch batch
    → IsWritten w (record { session = node; number = m }) p.submission batch
named w node m dc o batch p e = record {
  among = p.among;
  txn = λ i. record { session = p.session i; number = p.number i };
  op = p.op ∙ e;
}

pub writes_are_told : (top : TopologyValue) (w : Run) → 0 < top.shards → Inv top w → WritesAreTold top w
writes_are_told top w some inv c n s has e =
    let t : TxnValue = record { session = c.node; number = c.number } in
    let p = inv.transcript c has in
    let r = ended_so top w c.home t c.op c.outcome n s p.fits p.came e in
    let there = decided_entry top w c.home t p.opened.submission r.0 n s some inv (named w c.node c.number c.home c.op r.0 p.opened r.1) r.2 in
    record {
      batch = r.0;
      op = r.1;
      decision = r.2.decision;
      decided = decided_in top w c.home (coordinator_of top.shards r.0) r.2.decision (coordinator_below top.shards r.0 some) r.2.among;
      txn = r.2.txn;
      commit_told = r.2.commit;
      stamp_told = r.2.stamp;
      entry = λ h q. Contains-permutation (history_of top w c.home) h (committed r.0 s n) (IsPermutation-sym h (history_of top w c.home) q) there;
    }
