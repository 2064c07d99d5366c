use Rattle.write_txn.proofs.Unready.{marked_early}
use Rattle.write_txn.proofs.transactions.Transactions.count_early.Goals as goal

pub invariant_of-self : goal.invariant_of-self
invariant_of-self c =
    marked_early c.count_early.result c.args.missing c.args.txn c.self.inside.marks c.self.inside.ledger c.count_early.new.self c.self.invariant c.count_early.ensures.counted c.count_early.ensures.same
