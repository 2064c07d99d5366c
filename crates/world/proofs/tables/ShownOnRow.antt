-- Where a shard's parts are complete for a row up to a time, they have the same of the row as the history of the shard's
-- data centre.
use Rattle.std.proofs.Common.{◌≡◌, ◌∙◌, ℕ, ◌<◌, ◌≤◌, sym, ap, subst, true, nat_le, List, inl, inr, arith, leb-true, refl}
use Rattle.std.specs.Prelude.{Contains}
use Rattle.std.proofs.lemmas.List.Sorted.{Contains-permutation, IsPermutation-sym}
use Rattle.std.proofs.lemmas.Bool.{false≢true}
use Rattle.column_family.specs.declared.batch.Row.{Row}
use Rattle.column_family.specs.declared.batch.Change.{Change}
use Rattle.column_family.specs.declared.batch.Committed.{Committed}
use Rattle.column_family.specs.History.{History, up_to}
use Rattle.column_family.specs.Places.{normal_of}
use Rattle.slice.specs.Parts.{has_row, changes_of, AgreesOn, AreStampedApart, HaveSameOf}
use Rattle.store.specs.declared.part.Applied.{Applied}
use Rattle.store.specs.Part.{committed_of as part_entry, history_of as parts_of, applied_by}
use Rattle.store.proofs.lists.Lists.{kept_only}
use Rattle.planner.specs.Partition.{shard_of as shard_of_key}
use Rattle.planner.specs.Plan.{coordinator_of}
use Rattle.messages.specs.Topology.{TopologyValue, dc_of, shard_of, shard_node}
use Rattle.messages.specs.Shard.{Decision}
use Rattle.messages.specs.Rows.{touches_row}
use Rattle.world.specs.Run.{Run}
use Rattle.world.specs.Histories.{history_of, IsHistory}
use Rattle.messages.proofs.Numbering.{shard_again}
use Rattle.world.proofs.envelopes.Near.{shard_below}
use Rattle.world.proofs.lists.Members.{contains_map, mapped_from, contains_filter, filter_contains}
use Rattle.world.proofs.safety.Facts.{near, part_on, PreparedBefore, Sees, Complete}
use Rattle.world.proofs.safety.Invariant.{Inv}
use Rattle.world.proofs.envelopes.PartRows.{part_changes, part_has, leads_or_follows}
use Rattle.world.proofs.histories.DecidedIn.{DecidedIn, one_batch, one_decision, on_lead, IsAppliedIn, applied_in, entry, entry_among, entry_is, one_each}

-- ---- a history in any order
among_history : (top : TopologyValue) (w : Run) (dc : ℕ) (h : History) → IsHistory top w dc h → (c : Committed) → Contains (history_of top w dc) c
    → Contains h c
among_history top w dc h is c m =
    Contains-permutation (history_of top w dc) h c (IsPermutation-sym h (history_of top w dc) is) m

history_among : (top : TopologyValue) (w : Run) (dc : ℕ) (h : History) → IsHistory top w dc h → (c : Committed) → Contains h c
    → Contains (history_of top w dc) c
history_among top w dc h is c m =
    Contains-permutation h (history_of top w dc) c is m

one_by : (top : TopologyValue) (w : Run) → Inv top w → (dc time : ℕ) (h : History) → IsHistory top w dc h → AreStampedApart (up_to time h)
one_by top w inv dc time h is c d mc md =
    one_each top w inv dc c d
    (Contains-permutation h (history_of top w dc) c is (kept_only (λ e. nat_le e.commit time) h c mc).0)
    (Contains-permutation h (history_of top w dc) d is (kept_only (λ e. nat_le e.commit time) h d md).0)

-- ---- the row
module _ (top : TopologyValue) (w : Run) (inv : Inv top w) (some : 0 < top.shards) (node : ℕ) (row : Row) (here : shard_of_key top.shards row.key ≡ shard_of top node)
    (time : ℕ) (seen : List Applied) (complete : Complete top w node row time seen) where
  seen_in : (v : Applied) → Contains seen v → IsAppliedIn top w node v
  seen_in v m = applied_in top w inv some node v ((inv.shards node).applied v (complete.applied v m))

  -- the part of a batch on this shard has of the row what the batch's normal form has
  part_row : (batch : List Change) → changes_of row (part_on top batch node) ≡ changes_of row (normal_of batch)
  part_row batch = part_changes top.shards (shard_of top node) row here (normal_of batch)

  -- the coordinator is another shard: this one prepared its part before
  sees_prepared : (d : Decision) (is : DecidedIn top w (dc_of top node) d) → has_row row (normal_of is.sound.batch) ≡ true → d.commit ≤ time
      → PreparedBefore w node d.txn d.commit → Sees seen d.txn
  sees_prepared d is hit le before =
      let p = before.part in
      let sound = (inv.shards node).prepared p before.among in
      let batch = one_batch top w inv.submitted before.txn sound.written is.sound.written in
      let rows : p.rows ≡ part_on top is.sound.batch node = sound.rows ∙ ap (λ (b : List Change). part_on top b node) batch in
      let touches : touches_row row p ≡ true = ap (has_row row) rows ∙ part_has top.shards (shard_of top node) row here (normal_of is.sound.batch) hit in
      let coordinator : near top node p.coordinator ≡ is.node =
      ap (near top node) (sound.coordinator ∙ ap (coordinator_of top.shards) batch) ∙ sym (on_lead top w (dc_of top node) d is) in
      elim (complete.prepared p before.among touches) [
        | inl sees ↦ subst (λ t. Sees seen t) before.txn sees
        | inr (inl late) ↦ let lt = before.time in absurd (omega arith)
        | inr (inr excluded) ↦
            let lt = excluded.above d (subst (λ n. Contains (w.shards n).decided d) (sym coordinator) is.among) (sym before.txn) in
            absurd (omega arith)
      ]

  -- what is decided in the data centre up to the time, and touches the row, is seen
  pub sees_it : (d : Decision) (is : DecidedIn top w (dc_of top node) d) → has_row row (normal_of is.sound.batch) ≡ true → d.commit ≤ time
      → Sees seen d.txn
  sees_it d is hit le =
      elim (leads_or_follows top.shards (shard_of top node) row here (shard_below top node some) is.sound.batch hit) [
        | inl leads ↦
            let same : is.node ≡ node = on_lead top w (dc_of top node) d is ∙ ap (shard_node top (dc_of top node)) (sym leads) ∙ shard_again top node in
            elim (complete.decided d (subst (λ n. Contains (w.shards n).decided d) same is.among)) [
              | inl sees ↦ sees
              | inr (inl lt) ↦ absurd (omega arith)
              | inr (inr none) ↦
                  let batch = one_batch top w inv.submitted refl none.written is.sound.written in
                  let rows = ap (λ (b : List Change). part_on top b node) batch in
                  absurd (false≢true (sym none.misses ∙ ap (has_row row) rows ∙ part_has top.shards (shard_of top node) row here (normal_of is.sound.batch) hit))
            ]
        | inr follows ↦
            let at : near top is.node (shard_of top node) ≡ node = ap (λ (dc : ℕ). shard_node top dc (shard_of top node)) is.here ∙ shard_again top node in
            sees_prepared d is hit le (subst (λ n. PreparedBefore w n d.txn d.commit) at (is.sound.cohorts (shard_of top node) follows))
      ]

  -- the parts that are seen have the same of the row as the history, in any order
  pub same_of_row : (h : History) → IsHistory top w (dc_of top node) h → HaveSameOf row (parts_of (applied_by time seen)) (up_to time h)
  same_of_row h is = record { only = only; each = each; apart = one_by top w inv (dc_of top node) time h is }
    where
      -- what is seen is decided in the data centre
      only : (c : Committed) → Contains (parts_of (applied_by time seen)) c → has_row row c.batch ≡ true
          → (d : Committed) × Contains (up_to time h) d × AgreesOn row c d
      only c has hit =
          let r = mapped_from part_entry (applied_by time seen) c has in
          let v = r.0 in
          let f = filter_contains (λ (a : Applied). nat_le a.commit time) seen v r.1 in
          let was = seen_in v f.0 in
          let d = entry was.decision was.decided.sound.batch in
          let low : nat_le d.commit time ≡ true = ap (λ (n : ℕ). nat_le n time) was.commit ∙ f.1 in
          let there = among_history top w (dc_of top node) h is d (entry_among top w inv (dc_of top node) was.decision was.among was.decided) in (
            d,
            contains_filter (λ (a : Committed). nat_le a.commit time) h d there low,
            record {
              stamp = ap (λ (a : Committed). a.stamp) r.2 ∙ sym was.stamp;
              commit = ap (λ (a : Committed). a.commit) r.2 ∙ sym was.commit;
              changes = ap (λ (a : Committed). changes_of row a.batch) r.2 ∙ ap (changes_of row) was.batch ∙ part_row was.decided.sound.batch;
            },
          )

      each : (c : Committed) → Contains (up_to time h) c → has_row row (normal_of c.batch) ≡ true
          → (p : Committed) × Contains (parts_of (applied_by time seen)) p × AgreesOn row p c
      each c has hit =
          let f = filter_contains (λ (a : Committed). nat_le a.commit time) h c has in
          let own = entry_is top w inv (dc_of top node) c (history_among top w (dc_of top node) h is c f.0) in
          let d = own.decision in
          let le : d.commit ≤ time = leb-true d.commit time (ap (λ (n : ℕ). nat_le n time) (sym own.commit) ∙ f.1) in
          let s = sees_it d own.decided (ap (λ (b : List Change). has_row row (normal_of b)) (sym own.batch) ∙ hit) le in
          let v = s.0 in
          let was = seen_in v s.1 in
          let same : was.decision ≡ d = one_decision top w inv (dc_of top node) was.decision d was.decided own.decided (was.txn ∙ s.2) in
          let batch = one_batch top w inv.submitted (was.txn ∙ s.2) was.decided.sound.written own.decided.sound.written in
          let commit : v.commit ≡ c.commit = sym was.commit ∙ ap (λ (a : Decision). a.commit) same ∙ sym own.commit in
          let stamp : v.stamp ≡ c.stamp = sym was.stamp ∙ ap (λ (a : Decision). a.stamp) same ∙ sym own.stamp in
          let low : nat_le v.commit time ≡ true = ap (λ (n : ℕ). nat_le n time) commit ∙ f.1 in (
            part_entry v,
            contains_map part_entry (applied_by time seen) v (contains_filter (λ (a : Applied). nat_le a.commit time) seen v s.1 low),
            record {
              stamp = stamp;
              commit = commit;
              changes = ap (changes_of row) was.batch ∙ part_row was.decided.sound.batch ∙ ap (λ (b : List Change). changes_of row (normal_of b)) (batch ∙ sym own.batch);
            },
          )
