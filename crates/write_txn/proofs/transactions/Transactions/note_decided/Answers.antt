use Rattle.std.proofs.Common.{◌∙◌, ap}
use Rattle.write_txn.specs.Ledger.{state_of}
use Rattle.write_txn.specs.Transactions.{TransactionsValue}
use Rattle.write_txn.proofs.StepMarks.{noted_marks}
use Rattle.write_txn.proofs.transactions.Transactions.note_decided.Goals as goal

pub invariant_of-self : goal.invariant_of-self
invariant_of-self c =
    let unknown = ap (λ (v : TransactionsValue). state_of v.ledger c.args.txn) c.self.view_is ∙ c.requires in
    noted_marks c.add_decided.result c.self.inside.marks c.self.inside.ledger c.add_decided.new.self c.args.txn c.args.commit c.args.stamp c.self.invariant unknown c.add_decided.ensures.ok c.add_decided.ensures.err
