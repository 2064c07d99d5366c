use Rattle.write_txn.proofs.Leading.{counts}
use Rattle.write_txn.proofs.law.votes_are_counted.Goals as goal

pub returns : goal.returns
returns c = counts
