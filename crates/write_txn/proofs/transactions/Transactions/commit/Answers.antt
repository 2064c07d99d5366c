use Rattle.std.proofs.Common.{◌≡◌, Some, sym, subst}
use Rattle.txn_state.specs.Prepared.{PreparedValue}
use Rattle.store.specs.Stored.{HasRoom}
use Rattle.write_txn.specs.Ledger.{state_of, part_in}
use Rattle.write_txn.specs.Transactions.{TransactionsValue}
use Rattle.write_txn.proofs.transactions.Transactions.commit.Goals as goal

pub commit_part-requires-clause-room : goal.commit_part-requires-clause-room
commit_part-requires-clause-room c =
    subst (λ (ts : TransactionsValue). (p : PreparedValue) → part_in (state_of ts.ledger c.args.txn) ≡ Some p → HasRoom ts.store p.part.batch) (sym c.self.view_is) c.requires
