use Rattle.std.proofs.Common.{◌∙◌, sym, ap, Some, filter_map}
use Rattle.std.specs.Prelude.{option_map}
use Rattle.std.specs.Option.{option_copied}
use Rattle.write_txn.specs.Ledger.{part_of}
use Rattle.shard.specs.UnderWay.{part_under_way}
use Rattle.shard.proofs.under_way.TxnsListed.{gathered_more}
use Rattle.shard.proofs.unfinished.parts_of.Goals as goal

pub loop-txn-preserved-in_ok-push : goal.loop-txn-preserved-in_ok-push
loop-txn-preserved-in_ok-push c =
    let l = c.args.ledger.now in
    rw c.in_ok-push.ensures.items
    (gathered_more (part_under_way l) c.loop-txn.parts.items c.loop-txn.txn-iterator c.next.new.self c.in-Some.txn.now c.in_ok-part_of.field-0
    (filter_map (part_under_way l) c.args.txns.now.keys) c.in-Some.ensures.steps
    (ap (option_map part_of) (sym c.open.ensures.exact ∙ ap option_copied c.in-Some-open.is) ∙ ap Some (sym c.in_ok-part_of.ensures)) c.loop-txn.invariant)
