use Rattle.std.proofs.Common.{rules}
use Rattle.read_txn.proofs.completing.add_writers.Goals as goal

pub returns-clause-ok : goal.returns-clause-ok
returns-clause-ok c = search rules
