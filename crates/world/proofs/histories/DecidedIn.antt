-- What the coordinators of a data centre decided, and the entries that this makes in its history: a stamp names one.
use Rattle.std.proofs.Common.{◌≡◌, ◌∙◌, ℕ, ◌<◌, sym, ap, subst, refl, Bool, List, Option, Some, None, find}
use Rattle.std.specs.Prelude.{option_map, option_and_then, Contains}
use Rattle.std.specs.List.{range_with_len}
use Rattle.std.proofs.lemmas.Bool.{false≢true}
use Rattle.logical_time.specs.Stamps.{StampValue, TxnValue}
use Rattle.column_family.specs.declared.batch.Change.{Change}
use Rattle.column_family.specs.declared.batch.Committed.{Committed}
use Rattle.slice.specs.Parts.{AreStampedApart}
use Rattle.store.specs.declared.part.Applied.{Applied}
use Rattle.store.proofs.lists.Lists.{given, given_only}
use Rattle.planner.proofs.Members.{contains_flat, flat_contains, contains_below}
use Rattle.messages.specs.declared.op.Op.{Op}
use Rattle.messages.specs.Topology.{TopologyValue, dc_of, shard_node}
use Rattle.messages.specs.Words.{is_same_txn}
use Rattle.messages.specs.Shard.{Decision}
use Rattle.world.specs.Run.{Run, Submission, submission_of}
use Rattle.world.specs.Histories.{batch_in, batch_submitted, decisions_in, committed_of, history_of}
use Rattle.messages.proofs.Numbering.{dc_of_shard}
use Rattle.world.proofs.envelopes.Near.{coordinator_below, listed_below}
use Rattle.world.proofs.lists.Members.{any_false, found, find_none, same_txn, same_txn_self}
use Rattle.world.proofs.safety.Facts.{txn_of, IsWritten, lead, part_on, IsStamp, DecisionSound, AppliedSound}
use Rattle.world.proofs.safety.Invariant.{SubmittedSound, Inv}

-- ---- a transaction has one submission, with one batch
pub found_submission : (top : TopologyValue) (w : Run) → SubmittedSound top w → (b : Submission) (t : TxnValue) → Contains w.submitted b → txn_of b ≡ t
    → submission_of w.submitted t ≡ Some b
found_submission top w sound b t m e = go (find is_it w.submitted) refl
  where
    is_it : Submission → Bool
    is_it s = is_same_txn (txn_of s) t

    go : (o : Option Submission) → find is_it w.submitted ≡ o → find is_it w.submitted ≡ Some b
    go None f =
        absurd (false≢true (sym (any_false is_it w.submitted (find_none is_it w.submitted f) b m)
        ∙ ap (λ (u : TxnValue). is_same_txn u t) e ∙ same_txn_self t))
    go (Some c) f =
        let is = found is_it w.submitted c f in
        f ∙ ap Some (sound.one c b is.0 m (same_txn (txn_of c) t is.1 ∙ sym e))

pub written_batch : (top : TopologyValue) (w : Run) → SubmittedSound top w → (b : Submission) (t : TxnValue) (batch : List Change)
    → IsWritten w t b batch → batch_submitted w t ≡ Some batch
written_batch top w sound b t batch is =
    ap (λ (o : Option Submission). option_and_then (λ s. batch_in s.op) o) (found_submission top w sound b t is.among is.txn) ∙ ap (λ (o : Op). batch_in o) is.op

pub one_batch : (top : TopologyValue) (w : Run) → SubmittedSound top w → {b c : Submission} {t u : TxnValue} {batch other : List Change} → t ≡ u
    → IsWritten w t b batch → IsWritten w u c other → batch ≡ other
one_batch top w sound {b} {c} {t} {u} {batch} {other} e is was =
    let some : Some batch ≡ Some other =
    sym (written_batch top w sound b t batch is) ∙ ap (batch_submitted w) e ∙ written_batch top w sound c u other was in
    cc

-- ---- a stamp names one transaction
pub one_stamp : (top : TopologyValue) (w : Run) → Inv top w → (b c : Submission) (batch other : List Change) (s : StampValue)
    → IsStamp top w b batch s → IsStamp top w c other s → txn_of b ≡ txn_of c
one_stamp top w inv b c batch other s is was =
    let node : lead top b.home batch ≡ lead top c.home other = sym is.node ∙ was.node in
    let sound = (inv.shards (lead top c.home other)).decided was.decided.decision was.decided.among in
    let same : is.decided.decision ≡ was.decided.decision =
    sound.one_time is.decided.decision (subst (λ n. Contains (w.shards n).decided is.decided.decision) node is.decided.among) (is.decided.commit ∙ sym was.decided.commit) in
    sym is.decided.txn ∙ ap (λ (d : Decision). d.txn) same ∙ was.decided.txn

-- ---- the decisions of a data centre
-- a coordinator of the data centre decided so
pub record DecidedIn (top : TopologyValue) (w : Run) (dc : ℕ) (d : Decision) : Type 0 where
  pub node : ℕ
  pub among : Contains (w.shards node).decided d
  pub sound : DecisionSound top w node d
  pub here : dc_of top node ≡ dc

pub decided_in : (top : TopologyValue) (w : Run) → Inv top w → (dc : ℕ) (d : Decision) → Contains (decisions_in top w dc) d → DecidedIn top w dc d
decided_in top w inv dc d m =
    let r = flat_contains (λ shard. (w.shards (shard_node top dc shard)).decided) (range_with_len 0 top.shards) d m in
    let node = shard_node top dc r.0 in
    let has = r.2 in
    record {
      node = node;
      among = has;
      sound = (inv.shards node).decided d has;
      here = dc_of_shard top dc r.0 (listed_below top.shards r.0 r.1);
    }

pub in_decisions : (top : TopologyValue) (w : Run) (dc shard : ℕ) (d : Decision) → shard < top.shards
    → Contains (w.shards (shard_node top dc shard)).decided d → Contains (decisions_in top w dc) d
in_decisions top w dc shard d below m =
    (contains_flat (λ shard. (w.shards (shard_node top dc shard)).decided) (range_with_len 0 top.shards) shard d
    (contains_below top.shards shard below) m)

pub on_lead : (top : TopologyValue) (w : Run) (dc : ℕ) (d : Decision) (is : DecidedIn top w dc d) → is.node ≡ lead top dc is.sound.batch
on_lead top w dc d is = is.sound.here ∙ ap (λ (z : ℕ). lead top z is.sound.batch) is.here

-- a transaction has one decision there
pub one_decision : (top : TopologyValue) (w : Run) → Inv top w → (dc : ℕ) (d e : Decision) → DecidedIn top w dc d → DecidedIn top w dc e
    → d.txn ≡ e.txn → d ≡ e
one_decision top w inv dc d e is was same =
    let batch = one_batch top w inv.submitted same is.sound.written was.sound.written in
    let node : is.node ≡ was.node = on_lead top w dc d is ∙ ap (lead top dc) batch ∙ sym (on_lead top w dc e was) in
    was.sound.one d (subst (λ n. Contains (w.shards n).decided d) node is.among) same

-- and so has a stamp
pub stamp_decision : (top : TopologyValue) (w : Run) → Inv top w → (dc : ℕ) (d e : Decision) → DecidedIn top w dc d → DecidedIn top w dc e
    → d.stamp ≡ e.stamp → d ≡ e
stamp_decision top w inv dc d e is was same =
    one_decision top w inv dc d e is was
    (sym is.sound.written.txn
    ∙ one_stamp top w inv is.sound.submission was.sound.submission is.sound.batch was.sound.batch e.stamp
    (subst (λ s. IsStamp top w is.sound.submission is.sound.batch s) same is.sound.stamp) was.sound.stamp
    ∙ was.sound.written.txn)

-- ---- what a shard of it applied
-- the part is that of a decision of the data centre
pub record IsAppliedIn (top : TopologyValue) (w : Run) (node : ℕ) (v : Applied) : Type 0 where
  pub decision : Decision
  pub among : Contains (decisions_in top w (dc_of top node)) decision
  pub decided : DecidedIn top w (dc_of top node) decision
  pub txn : decision.txn ≡ v.part.writer.txn
  pub commit : decision.commit ≡ v.commit
  pub stamp : decision.stamp ≡ v.stamp
  pub batch : v.part.batch ≡ part_on top decided.sound.batch node

pub applied_in : (top : TopologyValue) (w : Run) → Inv top w → 0 < top.shards → (node : ℕ) (v : Applied) → AppliedSound top w node v
    → IsAppliedIn top w node v
applied_in top w inv some node v sound =
    let d = sound.decided.decision in
    let below = subst (λ s. s < top.shards) (sym sound.coordinator) (coordinator_below top.shards sound.batch some) in
    let has = in_decisions top w (dc_of top node) v.part.writer.shard d below sound.decided.among in
    let is = decided_in top w inv (dc_of top node) d has in
    let same = one_batch top w inv.submitted (sym sound.decided.txn) sound.written is.sound.written in
    record {
      decision = d;
      among = has;
      decided = is;
      txn = sound.decided.txn;
      commit = sound.decided.commit;
      stamp = sound.decided.stamp;
      batch = sound.rows ∙ ap (λ (batch : List Change). part_on top batch node) same;
    }

-- ---- the entries of its history
-- the entry is that of a decision
pub record IsEntry (top : TopologyValue) (w : Run) (dc : ℕ) (c : Committed) : Type 0 where
  pub decision : Decision
  pub among : Contains (decisions_in top w dc) decision
  pub made : committed_of w decision ≡ Some c
  pub decided : DecidedIn top w dc decision
  pub batch : c.batch ≡ decided.sound.batch
  pub stamp : c.stamp ≡ decision.stamp
  pub commit : c.commit ≡ decision.commit

-- the entry that a decision makes
abbrev pub entry : Decision → List Change → Committed
entry d batch = record { batch = batch; stamp = d.stamp; commit = d.commit }

made_so : (top : TopologyValue) (w : Run) → Inv top w → (dc : ℕ) (d : Decision) (is : DecidedIn top w dc d)
    → committed_of w d ≡ Some (entry d is.sound.batch)
made_so top w inv dc d is =
    ap (λ (o : Option (List Change)). option_map (λ batch. entry d batch) o)
    (written_batch top w inv.submitted is.sound.submission d.txn is.sound.batch is.sound.written)

pub entry_among : (top : TopologyValue) (w : Run) → Inv top w → (dc : ℕ) (d : Decision) → Contains (decisions_in top w dc) d
    → (is : DecidedIn top w dc d) → Contains (history_of top w dc) (entry d is.sound.batch)
entry_among top w inv dc d m is =
    given (committed_of w) (decisions_in top w dc) d (entry d is.sound.batch) m (made_so top w inv dc d is)

pub entry_is : (top : TopologyValue) (w : Run) → Inv top w → (dc : ℕ) (c : Committed) → Contains (history_of top w dc) c → IsEntry top w dc c
entry_is top w inv dc c m =
    let r = given_only (committed_of w) (decisions_in top w dc) c m in
    let has = r.1 in
    let is = decided_in top w inv dc r.0 has in
    let same = sym r.2 ∙ made_so top w inv dc r.0 is in
    let whole : c ≡ entry r.0 is.sound.batch = cc in
    record {
      decision = r.0;
      among = has;
      made = r.2;
      decided = is;
      batch = ap (λ (e : Committed). e.batch) whole;
      stamp = ap (λ (e : Committed). e.stamp) whole;
      commit = ap (λ (e : Committed). e.commit) whole;
    }

pub one_each : (top : TopologyValue) (w : Run) → Inv top w → (dc : ℕ) → AreStampedApart (history_of top w dc)
one_each top w inv dc c e mc me same =
    let is = entry_is top w inv dc c mc in
    let was = entry_is top w inv dc e me in
    let one = stamp_decision top w inv dc is.decision was.decision is.decided was.decided (sym is.stamp ∙ same ∙ was.stamp) in
    let some : Some c ≡ Some e = sym is.made ∙ ap (committed_of w) one ∙ was.made in
    cc
