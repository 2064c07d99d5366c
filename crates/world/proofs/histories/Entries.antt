-- The entries of a history are those of the decisions of its data centre, one for each.
use Rattle.std.proofs.Common.{◌≡◌, ◌∙◌, ℕ, zero, suc, ◌+◌, ◌<◌, ◌≤◌, Bool, List, [], ◌∷◌, Option, Some, None, refl, sym, ap, arith}
use Rattle.std.specs.Prelude.{◌≢◌, Contains, flat_map, option_map, option_and_then}
use Rattle.std.specs.List.{range_with_len}
use Rattle.logical_time.specs.Stamps.{TxnValue}
use Rattle.column_family.specs.declared.batch.Change.{Change}
use Rattle.column_family.specs.declared.batch.Committed.{Committed}
use Rattle.column_family.specs.Normal.{committed}
use Rattle.planner.proofs.Members.{contains_flat, flat_contains, contains_below}
use Rattle.messages.specs.Topology.{TopologyValue, shard_of, shard_node}
use Rattle.messages.specs.Words.{is_same_txn}
use Rattle.messages.specs.Shard.{Decision}
use Rattle.messages.proofs.Numbering.{dc_of_shard, number_of_shard}
use Rattle.world.specs.Run.{Run, Submission, submission_of}
use Rattle.world.specs.Histories.{batch_in, batch_submitted, decisions_in, committed_of}
use Rattle.world.specs.Entries.{AreOnce, IsEntryOf}
use Rattle.world.proofs.lists.Members.{within_range, any_false, found, find_none, same_txn, same_txn_self}
use Rattle.world.proofs.lists.Pairs.{no_pairs, more_pairs, append_pairs}
use Rattle.world.proofs.safety.Facts.{txn_of, IsWritten, DecidedOnce}
use Rattle.world.proofs.safety.Invariant.{Inv, SubmittedSound}
use Rattle.world.proofs.histories.Decisions.{one_lead}

-- ## The decisions of a data centre

-- what this shard of the data centre decided
abbrev decided_by : TopologyValue → Run → ℕ → ℕ → List Decision
decided_by top w dc shard = (w.shards (shard_node top dc shard)).decided

once_pairs : (ds : List Decision) → DecidedOnce ds → AreOnce ds
once_pairs [] k = no_pairs (λ d e. d.txn ≢ e.txn)
once_pairs (d ∷ ds) k = more_pairs (λ d e. d.txn ≢ e.txn) d ds (λ e m same. k.0 e m (sym same)) (once_pairs ds k.1)

pub decided_in : (top : TopologyValue) (w : Run) (dc s : ℕ) (d : Decision) → s < top.shards → Contains (w.shards (shard_node top dc s)).decided d
    → Contains (decisions_in top w dc) d
decided_in top w dc s d lt m =
    contains_flat (decided_by top w dc) (range_with_len 0 top.shards) s d (contains_below top.shards s lt) m

pub decided_by_one : (top : TopologyValue) (w : Run) (dc : ℕ) (d : Decision) → Contains (decisions_in top w dc) d
    → (s : ℕ) × (s < top.shards) × Contains (w.shards (shard_node top dc s)).decided d
decided_by_one top w dc d c =
    let r = flat_contains (decided_by top w dc) (range_with_len 0 top.shards) d c in
    let within = (within_range 0 top.shards r.0 r.1).1 in
    (r.0, omega arith, r.2)

-- the shards of a data centre whose numbers differ decide different transactions
decided_apart : (top : TopologyValue) (w : Run) (dc s t : ℕ) (d e : Decision) → Inv top w → s < top.shards → t < top.shards → s < t
    → Contains (decided_by top w dc s) d → Contains (decided_by top w dc t) e → d.txn ≢ e.txn
decided_apart top w dc s t d e inv a b lt m n same =
    let nodes = one_lead top w (shard_node top dc s) (shard_node top dc t) d e inv m n same (dc_of_shard top dc s a ∙ sym (dc_of_shard top dc t b)) in
    let numbers = sym (number_of_shard top dc s a) ∙ ap (shard_of top) nodes ∙ number_of_shard top dc t b in
    omega arith

once_from : (top : TopologyValue) (w : Run) (dc a n : ℕ) → Inv top w → a + n ≤ top.shards
    → AreOnce (flat_map (decided_by top w dc) (range_with_len a n))
once_from top w dc a zero inv le = no_pairs (λ d e. d.txn ≢ e.txn)
once_from top w dc a (suc n) inv le =
    append_pairs (λ d e. d.txn ≢ e.txn) (decided_by top w dc a) (flat_map (decided_by top w dc) (range_with_len (a + 1) n))
    (once_pairs (decided_by top w dc a) (inv.shards (shard_node top dc a)).once)
    (once_from top w dc (a + 1) n inv (omega arith))
    (λ d e m later.
    let r = flat_contains (decided_by top w dc) (range_with_len (a + 1) n) e later in
    let within = within_range (a + 1) n r.0 r.1 in
    let low = within.0 in
    let high = within.1 in
    decided_apart top w dc a r.0 d e inv (omega arith) (omega arith) (omega arith) m r.2)

-- no transaction is decided twice in a data centre
pub decided_once : (top : TopologyValue) (w : Run) (dc : ℕ) → Inv top w → AreOnce (decisions_in top w dc)
decided_once top w dc inv = once_from top w dc 0 top.shards inv (omega arith)

-- ## Batches as submitted

pub submission_found : (top : TopologyValue) (w : Run) (b : Submission) (t : TxnValue) → SubmittedSound top w → Contains w.submitted b → txn_of b ≡ t
    → submission_of w.submitted t ≡ Some b
submission_found top w b t s m e = go (submission_of w.submitted t) refl
  where
    is : Submission → Bool
    is c = is_same_txn (record { session = c.session; number = c.number }) t

    go : (o : Option Submission) → submission_of w.submitted t ≡ o → o ≡ Some b
    go None none =
        let no = any_false is w.submitted (find_none is w.submitted none) b m in
        let yes_ = ap (λ z. is_same_txn z t) e ∙ same_txn_self t in absurd (cc)
    go (Some c) q =
        let r = found is w.submitted c q in
        ap Some (s.one c b r.0 m (same_txn (txn_of c) t r.1 ∙ sym e))

pub batch_found : (top : TopologyValue) (w : Run) (t : TxnValue) (b : Submission) (batch : List Change) → SubmittedSound top w
    → IsWritten w t b batch → batch_submitted w t ≡ Some batch
batch_found top w t b batch s p =
    ap (option_and_then (λ (z : Submission). batch_in z.op)) (submission_found top w b t s p.among p.txn) ∙ ap batch_in p.op

-- ## Entries

-- the entry of a decision
pub entry_found : (top : TopologyValue) (w : Run) (d : Decision) (b : Submission) (batch : List Change) → Inv top w → IsWritten w d.txn b batch
    → committed_of w d ≡ Some (committed batch d.stamp d.commit)
entry_found top w d b batch inv p =
    ap (option_map (λ xs. committed xs d.stamp d.commit)) (batch_found top w d.txn b batch inv.submitted p)

pub entry_only : (w : Run) (d : Decision) (c : Committed) → committed_of w d ≡ Some c → IsEntryOf w d c
entry_only w d c e = go (batch_submitted w d.txn) refl e
  where
    go : (o : Option (List Change)) → batch_submitted w d.txn ≡ o → option_map (λ xs. committed xs d.stamp d.commit) o ≡ Some c → IsEntryOf w d c
    go None none h = absurd (cc)
    go (Some batch) some h =
        let same : committed batch d.stamp d.commit ≡ c = cc in
        record {
          batch = some ∙ ap Some (ap (λ (z : Committed). z.batch) same);
          stamp = sym (ap (λ (z : Committed). z.stamp) same);
          commit = sym (ap (λ (z : Committed). z.commit) same);
        }
