use Rattle.std.proofs.Common.{rules}
use Rattle.commit_check.proofs.waits.Waits.add.Goals as goal

pub returns-clause-ok : goal.returns-clause-ok
returns-clause-ok c = search rules
