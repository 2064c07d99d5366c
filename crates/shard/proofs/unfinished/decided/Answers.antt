use Rattle.std.proofs.Common.{◌∙◌, sym, ap}
use Rattle.std.specs.Prelude.{option_map}
use Rattle.messages.specs.Shard.{Decision}
use Rattle.write_txn.specs.Ledger.{LedgerValue, state_of, decided_in}
use Rattle.write_txn.proofs.Bodies.{decision_if}
use Rattle.shard.proofs.under_way.HeldParts.{told_again}
use Rattle.shard.proofs.unfinished.decided.Goals as goal

pub returns : goal.returns
returns c = λ top me a r.
    let s = state_of c.args.kept.now.transactions.ledger c.args.txn in
    ap (option_map (λ (d : Decision). (d.commit, d.stamp))) (decision_if top me c.args.txn a s (r.stands c.args.txn))
    ∙ (told_again c.args.txn (decided_in s) ∙ (ap (λ (l : LedgerValue). decided_in (state_of l c.args.txn)) (sym c.ledger.ensures) ∙ sym c.decided.ensures))
