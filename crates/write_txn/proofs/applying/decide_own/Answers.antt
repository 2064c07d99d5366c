use Rattle.std.proofs.Common.{rules}
use Rattle.write_txn.proofs.applying.decide_own.Goals as goal

pub returns-clause-keeps : goal.returns-clause-keeps
returns-clause-keeps c = search rules
