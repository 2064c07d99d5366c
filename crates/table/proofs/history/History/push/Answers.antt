use Rattle.std.proofs.Common.{rules}
use Rattle.table.proofs.history.History.push.Goals as goal

pub returns-clause-ok : goal.returns-clause-ok
returns-clause-ok c = search rules
