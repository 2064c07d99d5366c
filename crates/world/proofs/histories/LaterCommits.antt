-- What is committed after a read was answered, in a row that it asked for, has a commit time above its effective time.
use Rattle.std.proofs.Common.{◌≡◌, ℕ, ◌<◌, Bool, true, false, List, Some, refl, sym, ap, ◌∙◌, subst, arith, leb-true}
use Rattle.std.specs.Prelude.{Contains, nat_le}
use Rattle.std.specs.List.{list_any}
use Rattle.std.proofs.lemmas.Bool.Decides.{nat_tests}
use Rattle.column_family.specs.declared.batch.Change.{Change}
use Rattle.column_family.specs.Location.{Location, touches}
use Rattle.slice.specs.declared.read.Read.{Read}
use Rattle.messages.specs.declared.rows_at.RowAt.{RowAt}
use Rattle.planner.specs.Partition.{shard_of as shard_of_key}
use Rattle.messages.specs.Topology.{TopologyValue, dc_of, shard_node}
use Rattle.messages.specs.Shard.{Decision}
use Rattle.slice.specs.Rows.{row_of}
use Rattle.slice.proofs.RowTests.{touched_normal}
use Rattle.messages.proofs.Numbering.{dc_of_shard, number_of_shard}
use Rattle.world.specs.Run.{Run}
use Rattle.world.specs.Histories.{batch_submitted, decisions_in}
use Rattle.world.proofs.lists.Members.{mapped_from}
use Rattle.world.proofs.growing.Growth.{Grows}
use Rattle.world.proofs.safety.Facts.{RowAtSound}
use Rattle.world.proofs.safety.Invariant.{AnsweredFrom, Inv}
use Rattle.world.proofs.safety.Lasting.{complete_grows}
use Rattle.world.proofs.envelopes.Near.{key_below}
use Rattle.world.proofs.histories.DecidedIn.{DecidedIn, decided_in, applied_in, one_decision, written_batch}
use Rattle.world.proofs.tables.ShownOnRow.{sees_it}

module _ (top : TopologyValue) (some : 0 < top.shards) (w x : Run) (inv : Inv top w) (later : Inv top x) (g : Grows top w x) (dc time : ℕ) (read : Read) where
  abbrev node_for : List ℕ → ℕ
  node_for key = shard_node top dc (shard_of_key top.shards key)

  -- decided in the later run and not in the first, it commits above
  row_go : (r : RowAt) → RowAtSound top w (node_for r.key) time read r → (d : Decision) → Contains (decisions_in top x dc) d → (Contains (decisions_in top w dc) d → ⊥)
      → (batch : List Change) → batch_submitted x d.txn ≡ Some batch → (name : List ℕ) → list_any (touches (record { row = row_of read r.key; name = name })) batch ≡ true
      → (b : Bool) → nat_le d.commit time ≡ b → time < d.commit
  row_go r sound d m fresh batch is name hit false e = grind (arith, nat_tests)
  row_go r sound d m fresh batch is name hit true e =
      let l : Location = record { row = row_of read r.key; name = name } in
      let node = node_for r.key in
      let below = key_below top.shards r.key some in
      let here = dc_of_shard top dc (shard_of_key top.shards r.key) below in
      let number = number_of_shard top dc (shard_of_key top.shards r.key) below in
      let now = decided_in top x later dc d m in
      let its : DecidedIn top x (dc_of top node) d = subst (λ z. DecidedIn top x z d) (sym here) now in
      let same : Some its.sound.batch ≡ Some batch =
      sym (written_batch top x later.submitted its.sound.submission d.txn its.sound.batch its.sound.written) ∙ is in
      let batches : its.sound.batch ≡ batch = cc in
      let touched = touched_normal l its.sound.batch (ap (λ (z : List Change). list_any (touches l) z) batches ∙ hit) in
      let seen = sees_it top x later some node (row_of read r.key) (sym number) time sound.seen (complete_grows g sound.complete) d its touched (leb-true d.commit time e) in
      let old = applied_in top w inv some node seen.0 ((inv.shards node).applied seen.0 (sound.complete.applied seen.0 seen.1)) in
      let kept : DecidedIn top x (dc_of top node) old.decision =
      record {
        node = old.decided.node;
        among = (g.shards old.decided.node).decided old.decision old.decided.among;
        sound = (later.shards old.decided.node).decided old.decision ((g.shards old.decided.node).decided old.decision old.decided.among);
        here = old.decided.here;
      } in
      let one : old.decision ≡ d = one_decision top x later (dc_of top node) old.decision d kept its (old.txn ∙ seen.2) in
      absurd (fresh (subst (λ z. Contains (decisions_in top w dc) z) one (subst (λ z. Contains (decisions_in top w z) old.decision) here old.among)))

  pub commits_above : (rows : List RowAt) → AnsweredFrom top w dc read time rows → (d : Decision) → Contains (decisions_in top x dc) d → (Contains (decisions_in top w dc) d → ⊥)
      → (batch : List Change) → batch_submitted x d.txn ≡ Some batch → (key : List ℕ) → Contains read.keys key → (name : List ℕ)
      → list_any (touches (record { row = row_of read key; name = name })) batch ≡ true → time < d.commit
  commits_above rows from d m fresh batch is key asked name hit =
      let r = mapped_from (λ (z : RowAt). z.key) rows key (from.given key asked) in
      row_go r.0 (from.right r.0 r.1) d m (λ i. fresh i) batch is name
      (subst (λ k. list_any (touches (record { row = row_of read k; name = name })) batch ≡ true) r.2 hit) (nat_le d.commit time) refl
