-- What the rows of a read rest on was decided where they lie, not above the time of the read.
use Rattle.std.proofs.Common.{◌≡◌, ℕ, ◌+◌, ◌<◌, ◌≤◌, List, ◌++◌, ◌⊎◌, inl, inr, sym, ap, ◌∙◌, subst, arith, leb-true}
use Rattle.std.specs.Prelude.{nat_le, flat_map, Contains}
use Rattle.logical_time.specs.Stamps.{WriterValue}
use Rattle.slice.specs.declared.read.Read.{Read}
use Rattle.store.specs.declared.part.Applied.{Applied}
use Rattle.store.specs.Part.{applied_by, IsRestedOn}
use Rattle.planner.specs.Partition.{shard_of as shard_of_key}
use Rattle.messages.specs.declared.rows_at.RowAt.{RowAt}
use Rattle.messages.specs.Topology.{TopologyValue, shard_node, dc_of}
use Rattle.slice.specs.Rows.{row_of}
use Rattle.messages.specs.Rounds.{with_writers}
use Rattle.messages.proofs.Numbering.{dc_of_shard}
use Rattle.messages.proofs.WritersInOrder.{writers_stay}
use Rattle.world.specs.Run.{Run}
use Rattle.world.proofs.lists.Members.{Contains-append_cases, flat_contains, filter_contains}
use Rattle.world.proofs.safety.Facts.{IsDone, RowAtSound, AppliedSound, near}
use Rattle.world.proofs.safety.Invariant.{AnsweredFrom, Inv}
use Rattle.world.proofs.safety.Lasting.{done_grows}
use Rattle.world.proofs.safety.Ables.{same_run}
use Rattle.world.proofs.envelopes.Near.{coordinator_below, key_below}

module _ (top : TopologyValue) (w : Run) (some : 0 < top.shards) (inv : Inv top w) where
  -- a part that is applied by a time is decided in its data centre by then
  applied_done : (node dc time : ℕ) (v : Applied) → dc_of top node ≡ dc → AppliedSound top w node v → v.commit ≤ time → IsDone top w dc v.part.writer.txn (time + 1)
  applied_done node dc time v here k le =
      let below : v.part.writer.shard < top.shards = subst (λ c. c < top.shards) (sym k.coordinator) (coordinator_below top.shards k.batch some) in
      let same = k.decided.commit in
      record {
        node = near top node v.part.writer.shard;
        here = dc_of_shard top (dc_of top node) v.part.writer.shard below ∙ here;
        decision = k.decided.decision;
        among = k.decided.among;
        txn = k.decided.txn;
        commit = omega arith;
      }

  -- a writer of a right row applied a part of its transaction by then
  pub writer_applied : (node time : ℕ) (read : Read) (r : RowAt) → RowAtSound top w node time read r → (k : WriterValue) → Contains r.writers k
      → (v : Applied) × AppliedSound top w node v × (v.commit ≤ time) × (v.part.writer ≡ k)
  writer_applied node time read r s k m = go ((s.shown.writers k).0 m)
    where
      go : IsRestedOn (applied_by time s.seen) (row_of read r.key) read.predicate k
          → (v : Applied) × AppliedSound top w node v × (v.commit ≤ time) × (v.part.writer ≡ k)
      go (v, has, is, rests) =
          let f = filter_contains (λ (u : Applied). nat_le u.commit time) s.seen v has in
          (v, (inv.shards node).applied v (s.complete.applied v f.0), leb-true v.commit time f.1, is)

  writer_done : (dc time : ℕ) (read : Read) (r : RowAt) → RowAtSound top w (shard_node top dc (shard_of_key top.shards r.key)) time read r → (k : WriterValue)
      → Contains r.writers k → IsDone top w dc k.txn (time + 1)
  writer_done dc time read r s k m =
      let node = shard_node top dc (shard_of_key top.shards r.key) in
      let v = writer_applied node time read r s k m in
      let here = dc_of_shard top dc (shard_of_key top.shards r.key) (key_below top.shards r.key some) in
      subst (λ u. IsDone top w dc u.txn (time + 1)) v.3 (applied_done node dc time v.0 here v.1 v.2)

  writer_placed : (node time : ℕ) (read : Read) (r : RowAt) → RowAtSound top w node time read r → (k : WriterValue) → Contains r.writers k → k.shard < top.shards
  writer_placed node time read r s k m =
      let v = writer_applied node time read r s k m in
      subst (λ c. c < top.shards) (sym v.1.coordinator ∙ ap (λ u. u.shard) v.3) (coordinator_below top.shards v.1.batch some)

  -- what a session depends on after a read: what it depended on, and what the rows rest on
  pub cases : (rows : List RowAt) (old : List WriterValue) (k : WriterValue) → Contains (with_writers old rows) k
      → Contains old k ⊎ ((r : RowAt) × Contains rows r × Contains r.writers k)
  cases rows old k m = elim (Contains-append_cases old (flat_map (λ r. r.writers) rows) k listed) [ inl o ↦ inl o | inr n ↦ inr (flat_contains (λ r. r.writers) rows k n) ]
    where
      listed : Contains (old ++ flat_map (λ r. r.writers) rows) k
      listed =
          (writers_stay (old ++ flat_map (λ r. r.writers) rows) k).0 m

  -- all of it is decided, not above the time of the read
  pub writers_done : (dc floor time : ℕ) (read : Read) (rows : List RowAt) (old : List WriterValue) → AnsweredFrom top w dc read time rows → floor ≤ time
      → ((k : WriterValue) → Contains old k → IsDone top w dc k.txn (floor + 1))
      → (k : WriterValue) → Contains (with_writers old rows) k → IsDone top w dc k.txn (time + 1)
  writers_done dc floor time read rows old from le done k m = go (cases rows old k m)
    where
      go : Contains old k ⊎ ((r : RowAt) × Contains rows r × Contains r.writers k) → IsDone top w dc k.txn (time + 1)
      go (inl o) = done_grows (same_run top w) (omega arith) (done k o)
      go (inr (r, i, j)) = writer_done dc time read r (from.right r i) k j

  -- and of shards that there are
  pub writers_placed : (dc time : ℕ) (read : Read) (rows : List RowAt) (old : List WriterValue) → AnsweredFrom top w dc read time rows
      → ((k : WriterValue) → Contains old k → k.shard < top.shards)
      → (k : WriterValue) → Contains (with_writers old rows) k → k.shard < top.shards
  writers_placed dc time read rows old from placed k m = go (cases rows old k m)
    where
      go : Contains old k ⊎ ((r : RowAt) × Contains rows r × Contains r.writers k) → k.shard < top.shards
      go (inl o) = placed k o
      go (inr (r, i, j)) = writer_placed (shard_node top dc (shard_of_key top.shards r.key)) time read r (from.right r i) k j
