use Rattle.std.proofs.Common.{◌∙◌, ap, filter_map}
use Rattle.std.proofs.lemmas.Result.{IfOk-weaker}
use Rattle.write_txn.specs.Ledger.{LedgerValue}
use Rattle.shard.specs.UnderWay.{part_under_way}
use Rattle.shard.proofs.under_way.UnfinishedParts.{parts_are_unfinished}
use Rattle.shard.proofs.unfinished.unfinished.Goals as goal

pub returns-clause-ok : goal.returns-clause-ok
returns-clause-ok c = λ top me a r.
    let ts = c.in_ok-txns.txns.keys in
    IfOk-weaker c.parts_of.result _ _
    (λ parts is. is ∙ (ap (λ (l : LedgerValue). filter_map (part_under_way l) ts) c.ledger-ledger.ensures
    ∙ parts_are_unfinished top me a c.args.kept.now.transactions.ledger ts r.stands r.once r.kept_once c.in_ok-txns.ensures.ordered (rw c.ledger-ledger.ensures at c.in_ok-txns.ensures.all)))
    c.parts_of.ensures.ok
