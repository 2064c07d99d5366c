-- The entries of a history stay, with their commit times and stamps, as the run grows.
use Rattle.std.proofs.Common.{◌≡◌, ◌∙◌, ℕ, List, Some, sym}
use Rattle.std.specs.Prelude.{Contains}
use Rattle.std.proofs.lemmas.List.Sorted.{Contains-permutation, IsPermutation-sym}
use Rattle.logical_time.specs.Stamps.{TxnValue}
use Rattle.column_family.specs.declared.batch.Change.{Change}
use Rattle.column_family.specs.declared.batch.Committed.{Committed}
use Rattle.column_family.specs.History.{History}
use Rattle.store.proofs.lists.Lists.{given, given_only}
use Rattle.messages.specs.Topology.{TopologyValue, shard_node}
use Rattle.messages.specs.Shard.{Decision}
use Rattle.world.specs.Run.{Run, Submission}
use Rattle.world.specs.Histories.{decisions_in, committed_of, history_of, IsHistory}
use Rattle.world.specs.Entries.{IsKeptIn}
use Rattle.world.proofs.growing.Growth.{Grows}
use Rattle.world.proofs.safety.Facts.{IsWritten}
use Rattle.world.proofs.safety.Invariant.{Inv}
use Rattle.world.proofs.histories.Decisions.{sound}
use Rattle.world.proofs.histories.Entries.{decided_in, decided_by_one, entry_found}

still_written : (top : TopologyValue) (w x : Run) (t : TxnValue) (b : Submission) (batch : List Change) → Grows top w x → IsWritten w t b batch
    → IsWritten x t b batch
still_written top w x t b batch g p = record { among = g.submitted b p.among; txn = p.txn; op = p.op }

-- the entry of a decision is its entry in every later run
still_entry : (top : TopologyValue) (w x : Run) (node : ℕ) (d : Decision) (c : Committed) → Inv top w → Inv top x → Grows top w x
    → Contains (w.shards node).decided d → committed_of w d ≡ Some c → committed_of x d ≡ Some c
still_entry top w x node d c inv later g m is =
    let s = sound top w node d inv m in
    entry_found top x d s.submission s.batch later (still_written top w x d.txn s.submission s.batch g s.written)
    ∙ sym (entry_found top w d s.submission s.batch inv s.written) ∙ is

still_there : (top : TopologyValue) (w x : Run) (dc : ℕ) → Inv top w → Inv top x → Grows top w x
    → IsKeptIn (history_of top w dc) (history_of top x dc)
still_there top w x dc inv later g c has =
    let r = given_only (committed_of w) (decisions_in top w dc) c has in
    let a = decided_by_one top w dc r.0 r.1 in
    let node = shard_node top dc a.0 in
    given (committed_of x) (decisions_in top x dc) r.0 c
    (decided_in top x dc a.0 r.0 a.1 ((g.shards node).decided r.0 a.2))
    (still_entry top w x node r.0 c inv later g a.2 r.2)

-- of any two lists of them
pub history_kept : (top : TopologyValue) (w x : Run) (dc : ℕ) (h k : History) → Inv top w → Inv top x → Grows top w x → IsHistory top w dc h
    → IsHistory top x dc k → IsKeptIn h k
history_kept top w x dc h k inv later g p q c has =
    Contains-permutation (history_of top x dc) k c (IsPermutation-sym k (history_of top x dc) q)
    (still_there top w x dc inv later g c (Contains-permutation h (history_of top w dc) c p has))
