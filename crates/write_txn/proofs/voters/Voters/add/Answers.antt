use Rattle.std.proofs.Common.{rules}
use Rattle.write_txn.proofs.voters.Voters.add.Goals as goal

pub returns-clause-ok : goal.returns-clause-ok
returns-clause-ok c = search rules

pub returns-clause-known : goal.returns-clause-known
returns-clause-known c = search rules
