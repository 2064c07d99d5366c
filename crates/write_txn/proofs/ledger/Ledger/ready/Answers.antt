use Rattle.std.proofs.Common.{arith}
use Rattle.std.proofs.lemmas.Grind.{common_steps}
use Rattle.write_txn.proofs.ledger.Ledger.ready.Goals as goal

pub returns-then-not-is_ready-clause-ready : goal.returns-then-not-is_ready-clause-ready
returns-then-not-is_ready-clause-ready c = grind (arith, common_steps)
