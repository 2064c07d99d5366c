use Rattle.std.proofs.Common.{◌∙◌, sym, ap, [], Some}
use Rattle.std.specs.Prelude.{option_map}
use Rattle.std.specs.Option.{option_copied}
use Rattle.slice.proofs.FilterMap.{filter_map_kept, filter_map_left}
use Rattle.write_txn.specs.declared.open.Open.{Open}
use Rattle.write_txn.specs.Ledger.{part_of}
use Rattle.shard.specs.UnderWay.{writer_under_way}
use Rattle.shard.proofs.below.writers_of.Goals as goal
use Rattle.shard.proofs.below.writers_of.Goals.{in-Some+in_ok-push, in_default}

pub loop-txn-preserved : goal.loop-txn-preserved
loop-txn-preserved c =
    elim c.match-open.branch [
      | in-Some+in_ok-push w ↦
          rw w.writers-is (w.in_ok-push.ensures.items
          ∙ filter_map_kept (writer_under_way c.args.ledger.now) c.args.txns.now [] c.loop-txn.writers.items c.loop-txn.txn-index
          c.txn-item.result w.writer.result c.loop-txn-test.true c.txn-item.is
          (ap (option_map (λ (o : Open). (part_of o).writer)) (sym c.open.ensures.exact ∙ ap option_copied w.in-Some.is) ∙ ap Some (sym w.writer.ensures)) c.loop-txn.invariant)
      | in_default w ↦
          rw w.writers-is (filter_map_left (writer_under_way c.args.ledger.now) c.args.txns.now [] c.loop-txn.writers.items c.loop-txn.txn-index
          c.txn-item.result c.loop-txn-test.true c.txn-item.is
          (ap (option_map (λ (o : Open). (part_of o).writer)) (sym c.open.ensures.exact ∙ ap option_copied w.in_default.is)) c.loop-txn.invariant)
    ]
