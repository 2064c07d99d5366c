-- Each fact that holds goes on holding as the run grows.
use Rattle.std.proofs.Common.{◌≡◌, ℕ, ◌<◌, ◌≤◌, true, List, Option, Some, None, ◌⊎◌, inl, inr, sym, arith, le_refl, le_trans, lt_of_lt_of_le, lt_of_le_of_lt}
use Rattle.std.specs.Prelude.{Contains}
use Rattle.logical_time.specs.Stamps.{StampValue, TxnValue}
use Rattle.column_family.specs.declared.batch.Change.{Change}
use Rattle.column_family.specs.declared.batch.Row.{Row}
use Rattle.slice.specs.declared.read.Read.{Read}
use Rattle.store.specs.declared.part.Applied.{Applied}
use Rattle.messages.specs.declared.rows_now.RowNow.{RowNow}
use Rattle.messages.specs.declared.rows_at.RowAt.{RowAt}
use Rattle.messages.specs.Topology.{TopologyValue}
use Rattle.messages.specs.Shard.{ShardState, PreparedPart, BegunBallot, Decision, KeptPart, KeptBallot}
use Rattle.messages.specs.Session.{SessionState}
use Rattle.messages.specs.Rows.{touches_row}
use Rattle.world.specs.Run.{Run, Submission}
use Rattle.world.proofs.growing.Growth.{NewPrepared, NewDecision, ShardGrows, SessionGrows, Grows}
use Rattle.world.proofs.safety.Facts.{IsWritten, near, IsDecided, IsStamp, IsDone, PreparedBefore, PreparedSound, StampFits, BallotSound, KeptBallotSound, KeptPartSound, DecisionSound, AppliedSound, Excluded, Sees, Complete, RowNowSound, RowAtSound, AnswersNow, AnswersAt, Misses}

pub same_shard_grows : (a : ShardState) → ShardGrows a a
same_shard_grows a =
    record {
      clock = le_refl a.clock;
      prepared = λ p m. m;
      prepared_new = λ p m. inl m;
      decided = λ d m. m;
      decided_new = λ d m. inl m;
      applied = λ v m. m;
    }

pub same_session_grows : (top : TopologyValue) (a : SessionState) → SessionGrows top a a
same_session_grows top a =
    record {
      clock = le_refl a.clock;
      count = le_refl a.count;
      asked_now = λ number node asked k. k;
      asked_at = λ number time node asked k. k;
    }

pub written_grows : {top : TopologyValue} {w x : Run} {t : TxnValue} {b : Submission} {batch : List Change} → Grows top w x → IsWritten w t b batch → IsWritten x t b batch
written_grows {b = b} g k = record { among = g.submitted b k.among; txn = k.txn; op = k.op }

pub decided_grows : {top : TopologyValue} {w x : Run} {node : ℕ} {t : TxnValue} {n : ℕ} {s : StampValue} → Grows top w x → IsDecided w node t n s → IsDecided x node t n s
decided_grows {node = node} g k = record { decision = k.decision; among = (g.shards node).decided k.decision k.among; txn = k.txn; commit = k.commit; stamp = k.stamp }

pub stamp_grows : {top : TopologyValue} {w x : Run} {b : Submission} {batch : List Change} {s : StampValue} → Grows top w x → IsStamp top w b batch s → IsStamp top x b batch s
stamp_grows g k = record { decided = decided_grows g k.decided; node = k.node }

pub done_grows : {top : TopologyValue} {w x : Run} {dc n m : ℕ} {t : TxnValue} → Grows top w x → n ≤ m → IsDone top w dc t n → IsDone top x dc t m
done_grows g le k =
    record {
      node = k.node;
      here = k.here;
      decision = k.decision;
      among = (g.shards k.node).decided k.decision k.among;
      txn = k.txn;
      commit = lt_of_lt_of_le k.commit le;
    }

-- done below a time is done below each later one
pub done_later : {top : TopologyValue} {w : Run} {dc n m : ℕ} {t : TxnValue} → n ≤ m → IsDone top w dc t n → IsDone top w dc t m
done_later le k = record { node = k.node; here = k.here; decision = k.decision; among = k.among; txn = k.txn; commit = lt_of_lt_of_le k.commit le }

pub before_grows : {top : TopologyValue} {w x : Run} {node : ℕ} {t : TxnValue} {n m : ℕ} → Grows top w x → n ≤ m → PreparedBefore w node t n → PreparedBefore x node t m
before_grows {node = node} g le k = record { part = k.part; among = (g.shards node).prepared k.part k.among; txn = k.txn; time = lt_of_lt_of_le k.time le }

-- ## What a shard kept

one_prepared : {top : TopologyValue} {w : Run} {node : ℕ} {p : PreparedPart} (k : PreparedSound top w node p) → Contains (w.shards node).prepared p → (e : PreparedPart) → Contains (w.shards node).prepared e ⊎ NewPrepared (w.shards node) e → e.txn ≡ p.txn → e ≡ p
one_prepared k m e (inl old) q = k.one e old q
one_prepared {p = p} k m e (inr new) q = absurd (new.unprepared p m (sym q))

below_decided : {top : TopologyValue} {w : Run} {node : ℕ} {p : PreparedPart} (k : PreparedSound top w node p) (d : Decision) → Contains (w.shards node).decided d ⊎ NewDecision (w.shards node) d → d.txn ≡ p.txn → p.time < d.commit
below_decided k d (inl old) q = k.below d old q
below_decided k d (inr new) q = let le = k.time in let lt = new.above in omega arith

pub prepared_grows : {top : TopologyValue} {w x : Run} {node : ℕ} {p : PreparedPart} → Grows top w x → Contains (w.shards node).prepared p → PreparedSound top w node p → PreparedSound top x node p
prepared_grows {node = node} g m k =
    record {
      submission = k.submission;
      batch = k.batch;
      written = written_grows g k.written;
      coordinator = k.coordinator;
      rows = k.rows;
      role = k.role;
      origin = k.origin;
      time = le_trans k.time (g.shards node).clock;
      one = λ e j q. one_prepared k m e ((g.shards node).prepared_new e j) q;
      below = λ d j q. below_decided k d ((g.shards node).decided_new d j) q;
    }

pub fits_grows : (top : TopologyValue) {w x : Run} (node : ℕ) {n m : ℕ} (b : Submission) (batch : List Change) → Grows top w x → n ≤ m → (o : Option StampValue) → StampFits top w node n b batch o → StampFits top x node m b batch o
fits_grows top node b batch g le None k = k
fits_grows top node b batch g le (Some s) k = (stamp_grows g k.0, le_trans k.1 le)

unfoldable pub ballot_grows : {top : TopologyValue} {w x : Run} {node n m : ℕ} {b : BegunBallot} → Grows top w x → n ≤ m → BallotSound top w node n b → BallotSound top x node m b
ballot_grows {top = top} {node = node} {b = b} g le k =
    record {
      submission = k.submission;
      batch = k.batch;
      written = written_grows g k.written;
      here = k.here;
      rows = k.rows;
      cohorts = k.cohorts;
      dependencies = k.dependencies;
      done = λ e m. done_grows g le (k.done e m);
      begun = le_trans k.begun le;
      stamp = fits_grows top node k.submission k.batch g le b.stamp k.stamp;
    }

pub kept_ballot_grows : {top : TopologyValue} {w x : Run} {node n m : ℕ} {r : KeptBallot} → Grows top w x → n ≤ m → KeptBallotSound top w node n r → KeptBallotSound top x node m r
kept_ballot_grows g le k =
    record {
      submission = k.submission;
      batch = k.batch;
      written = written_grows g k.written;
      here = k.here;
      rows = k.rows;
      cohorts = k.cohorts;
      dependencies = k.dependencies;
      stamp = stamp_grows g k.stamp;
      time = le_trans k.time le;
      begun = le_trans k.begun le;
    }

pub kept_part_grows : {top : TopologyValue} {w x : Run} {node : ℕ} {p : KeptPart} → Grows top w x → KeptPartSound top w node p → KeptPartSound top x node p
kept_part_grows g k =
    record {
      submission = k.submission;
      batch = k.batch;
      written = written_grows g k.written;
      coordinator = k.coordinator;
      rows = k.rows;
      cohort = k.cohort;
    }

one_decision : {top : TopologyValue} {w : Run} {node : ℕ} {d : Decision} (k : DecisionSound top w node d) → Contains (w.shards node).decided d → (e : Decision) → Contains (w.shards node).decided e ⊎ NewDecision (w.shards node) e → e.txn ≡ d.txn → e ≡ d
one_decision k m e (inl old) q = k.one e old q
one_decision {d = d} k m e (inr new) q = absurd (new.undecided d m (sym q))

one_at_time : {top : TopologyValue} {w : Run} {node : ℕ} {d : Decision} (k : DecisionSound top w node d) (e : Decision) → Contains (w.shards node).decided e ⊎ NewDecision (w.shards node) e → e.commit ≡ d.commit → e ≡ d
one_at_time k e (inl old) q = k.one_time e old q
one_at_time k e (inr new) q = let le = k.commit in let lt = new.above in absurd (omega arith)

pub decision_grows : {top : TopologyValue} {w x : Run} {node : ℕ} {d : Decision} → Grows top w x → Contains (w.shards node).decided d → DecisionSound top w node d → DecisionSound top x node d
decision_grows {node = node} g m k =
    record {
      submission = k.submission;
      batch = k.batch;
      written = written_grows g k.written;
      here = k.here;
      commit = le_trans k.commit (g.shards node).clock;
      applied = (k.applied.0, (g.shards node).applied k.applied.0 k.applied.1, k.applied.2);
      cohorts = λ c i. before_grows g (le_refl _) (k.cohorts c i);
      one = λ e j q. one_decision k m e ((g.shards node).decided_new e j) q;
      one_time = λ e j q. one_at_time k e ((g.shards node).decided_new e j) q;
      stamp = stamp_grows g k.stamp;
      stamp_time = k.stamp_time;
      begun = k.begun;
      done = λ e j. done_grows g (le_refl _) (k.done e j);
    }

pub applied_grows : {top : TopologyValue} {w x : Run} {node : ℕ} {v : Applied} → Grows top w x → AppliedSound top w node v → AppliedSound top x node v
applied_grows {node = node} g k =
    record {
      submission = k.submission;
      batch = k.batch;
      written = written_grows g k.written;
      coordinator = k.coordinator;
      rows = k.rows;
      decided = decided_grows g k.decided;
      early = le_trans k.early (g.shards node).clock;
    }

-- ## What a shard answered

excluded_above : {w : Run} {node : ℕ} {t : TxnValue} {n : ℕ} → Excluded w node t n → (d : Decision) → Contains (w.shards node).decided d ⊎ NewDecision (w.shards node) d → d.txn ≡ t → n < d.commit
excluded_above k d (inl old) e = k.above d old e
excluded_above k d (inr new) e = let le = k.clock in let lt = new.above in omega arith

pub excluded_grows : {top : TopologyValue} {w x : Run} {node : ℕ} {t : TxnValue} {n : ℕ} → Grows top w x → Excluded w node t n → Excluded x node t n
excluded_grows {node = node} g k =
    record { clock = le_trans k.clock (g.shards node).clock; above = λ d m e. excluded_above k d ((g.shards node).decided_new d m) e }

-- what is above a time is above each earlier one
pub excluded_below : {w : Run} {node : ℕ} {t : TxnValue} {n m : ℕ} → m ≤ n → Excluded w node t n → Excluded w node t m
excluded_below le k = record { clock = le_trans le k.clock; above = λ d i e. lt_of_le_of_lt le (k.above d i e) }

prepared_cases : {top : TopologyValue} {w x : Run} {node n : ℕ} {r : Row} {seen : List Applied} → Grows top w x → Complete top w node r n seen → (p : PreparedPart) → Contains (w.shards node).prepared p ⊎ NewPrepared (w.shards node) p → touches_row r p ≡ true → Sees seen p.txn ⊎ (n ≤ p.time) ⊎ Excluded x (near top node p.coordinator) p.txn n
prepared_cases g k p (inr new) e = inr (inl (let le = k.clock in let lt = new.above in omega arith))
prepared_cases g k p (inl old) e = elim (k.prepared p old e) [ inl s ↦ inl s | inr (inl le) ↦ inr (inl le) | inr (inr ex) ↦ inr (inr (excluded_grows g ex)) ]

decided_cases : {top : TopologyValue} {w x : Run} {node n : ℕ} {r : Row} {seen : List Applied} → Grows top w x → Complete top w node r n seen → (d : Decision)
    → Contains (w.shards node).decided d ⊎ NewDecision (w.shards node) d → Sees seen d.txn ⊎ (n < d.commit) ⊎ Misses top x node r d.txn
decided_cases g k d (inl old) =
    elim (k.decided d old) [
      | inl s ↦ inl s
      | inr (inl lt) ↦ inr (inl lt)
      | inr (inr m) ↦ inr (inr (record { submission = m.submission; batch = m.batch; written = written_grows g m.written; misses = m.misses }))
    ]
decided_cases g k d (inr new) = inr (inl (let le = k.clock in let lt = new.above in omega arith))

pub complete_grows : {top : TopologyValue} {w x : Run} {node n : ℕ} {r : Row} {seen : List Applied} → Grows top w x → Complete top w node r n seen → Complete top x node r n seen
complete_grows {node = node} g k =
    record {
      clock = le_trans k.clock (g.shards node).clock;
      apart = k.apart;
      applied = λ v m. (g.shards node).applied v (k.applied v m);
      prepared = λ p m e. prepared_cases g k p ((g.shards node).prepared_new p m) e;
      decided = λ d m. decided_cases g k d ((g.shards node).decided_new d m);
    }

pub row_now_grows : {top : TopologyValue} {w x : Run} {node n m : ℕ} {read : Read} {r : RowNow} → Grows top w x → n ≤ m → RowNowSound top w node n read r → RowNowSound top x node m read r
row_now_grows g le k = record { seen = k.seen; shown = k.shown; early = le_trans k.early le; complete = complete_grows g k.complete }

pub row_at_grows : {top : TopologyValue} {w x : Run} {node n : ℕ} {read : Read} {r : RowAt} → Grows top w x → RowAtSound top w node n read r → RowAtSound top x node n read r
row_at_grows g k = record { seen = k.seen; shown = k.shown; complete = complete_grows g k.complete }

pub answers_now_grow : {top : TopologyValue} {w x : Run} {node n m : ℕ} {read : Read} {rows : List RowNow} → Grows top w x → n ≤ m → AnswersNow top w node n read rows → AnswersNow top x node m read rows
answers_now_grow g le k = record { keys = k.keys; rows = λ r m. row_now_grows g le (k.rows r m) }

pub answers_at_grow : {top : TopologyValue} {w x : Run} {node n : ℕ} {read : Read} {rows : List RowAt} → Grows top w x → AnswersAt top w node n read rows → AnswersAt top x node n read rows
answers_at_grow g k = record { keys = k.keys; rows = λ r m. row_at_grows g (k.rows r m) }
