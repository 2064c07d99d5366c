-- What a completed read rests on is what the writers of its rows wrote.
use Rattle.std.proofs.Common.{◌≡◌, ◌∙◌, ℕ, ◌<◌, sym, ap, subst, refl, nat_le, List}
use Rattle.std.specs.Prelude.{Contains}
use Rattle.std.specs.List.{flat_map}
use Rattle.std.proofs.lemmas.List.Sorted.{IsPermutation-refl}
use Rattle.logical_time.specs.Stamps.{StampValue, TxnValue, WriterValue}
use Rattle.column_family.specs.declared.batch.Row.{Row}
use Rattle.column_family.specs.declared.batch.Committed.{Committed}
use Rattle.column_family.specs.History.{up_to}
use Rattle.slice.specs.declared.predicate.Predicate.{Predicate}
use Rattle.slice.specs.declared.read.Read.{Read}
use Rattle.slice.specs.Rests.{RowRestsOn}
use Rattle.slice.specs.Parts.{HaveSameOf}
use Rattle.slice.proofs.RowAlike.{rest_alike, rested_entry}
use Rattle.store.specs.declared.part.Applied.{Applied}
use Rattle.store.specs.Part.{committed_of as part_entry, history_of as parts_of, applied_by}
use Rattle.store.proofs.lists.Lists.{kept_only}
use Rattle.slice.specs.Rows.{row_of}
use Rattle.planner.proofs.Members.{map_contains, contains_flat}
use Rattle.messages.specs.declared.rows_at.RowAt.{RowAt}
use Rattle.messages.specs.Topology.{TopologyValue, dc_of}
use Rattle.messages.specs.Shard.{Decision}
use Rattle.world.specs.Run.{Run}
use Rattle.world.specs.Histories.{decisions_in, history_of}
use Rattle.world.specs.Before.{ReadRestsOn}
use Rattle.messages.proofs.Numbering.{dc_of_shard}
use Rattle.world.proofs.envelopes.Near.{key_below}
use Rattle.world.proofs.safety.Facts.{RowAtSound}
use Rattle.world.proofs.safety.Invariant.{AnsweredFrom, Inv}
use Rattle.world.proofs.histories.DecidedIn.{DecidedIn, decided_in, stamp_decision, IsAppliedIn, applied_in}
use Rattle.world.proofs.tables.ReadTables.{node_of, right_alike}

-- ---- what a read of a row rests on is one of the parts
rested_part : (applied : List Applied) (r : Row) (p : Predicate) (s : StampValue) → RowRestsOn (parts_of applied) r p s
    → (a : Applied) × Contains applied a × (a.stamp ≡ s)
rested_part applied r p s rests =
    let c = rested_entry (parts_of applied) r p s rests in
    let a = map_contains part_entry applied c.0 c.1 in
    (a.0, a.1, ap (λ (d : Committed). d.stamp) a.2 ∙ c.2)

-- ---- a row that a read was answered with
module _ (top : TopologyValue) (w : Run) (inv : Inv top w) (some : 0 < top.shards) (dc time : ℕ) (read : Read) (r : RowAt) (sound : RowAtSound top w (node_of top dc r.key) time read r) where
  alike : HaveSameOf (row_of read r.key) (parts_of (applied_by time sound.seen)) (up_to time (history_of top w dc))
  alike = right_alike top w inv some dc time read r sound (history_of top w dc) (IsPermutation-refl (history_of top w dc))

  seen_here : (a : Applied) → Contains (applied_by time sound.seen) a → IsAppliedIn top w (node_of top dc r.key) a
  seen_here a has =
      applied_in top w inv some (node_of top dc r.key) a
      ((inv.shards (node_of top dc r.key)).applied a
      (sound.complete.applied a (kept_only (λ (b : Applied). nat_le b.commit time) sound.seen a has).0))

  home_is : dc_of top (node_of top dc r.key) ≡ dc
  home_is = dc_of_shard top dc _ (key_below top.shards r.key some)

  -- what the read rests on in the row is the transaction of one of the row's writers
  pub writer_of_row : (d : Decision) → Contains (decisions_in top w dc) d
      → RowRestsOn (up_to time (history_of top w dc)) (row_of read r.key) read.predicate d.stamp
      → (k : WriterValue) × Contains r.writers k × (k.txn ≡ d.txn)
  writer_of_row d has rests =
      let here = (rest_alike (row_of read r.key) (parts_of (applied_by time sound.seen)) (up_to time (history_of top w dc)) alike read.predicate d.stamp).1 rests in
      let p = rested_part (applied_by time sound.seen) (row_of read r.key) read.predicate d.stamp here in
      let a = p.0 in
      let is = seen_here a p.1 in
      let there = subst (λ z. DecidedIn top w z is.decision) home_is is.decided in
      let same : is.decision ≡ d = stamp_decision top w inv dc is.decision d there (decided_in top w inv dc d has) (is.stamp ∙ p.2) in (
        a.part.writer,
        (sound.shown.writers a.part.writer).1
            (a, p.1, refl, subst (λ s. RowRestsOn (parts_of (applied_by time sound.seen)) (row_of read r.key) read.predicate s) (sym p.2) here),
        sym is.txn ∙ ap (λ (z : Decision). z.txn) same,
      )

-- ---- the read
-- each transaction that a completed read rests on is that of a writer of its rows
pub rests_on_written : (top : TopologyValue) (w : Run) → Inv top w → 0 < top.shards → (dc time : ℕ) (read : Read) (rows : List RowAt)
    → AnsweredFrom top w dc read time rows
    → (u : TxnValue) → ReadRestsOn top w dc read time u → (k : WriterValue) × Contains (flat_map (λ r. r.writers) rows) k × (k.txn ≡ u)
rests_on_written top w inv some dc time read rows from u (d, key, has, txn, asked, rests) =
    let m = map_contains (λ (r : RowAt). r.key) rows key (from.given key asked) in
    let r = m.0 in
    let k = writer_of_row top w inv some dc time read r (from.right r m.1) d has
    (subst (λ z. RowRestsOn (up_to time (history_of top w dc)) (row_of read z) read.predicate d.stamp) (sym m.2) rests) in
    (k.0, contains_flat (λ (r : RowAt). r.writers) rows r k.0 m.1 k.1, k.2 ∙ txn)
