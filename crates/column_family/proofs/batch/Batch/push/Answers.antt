use Rattle.std.proofs.Common.{rules}
use Rattle.column_family.proofs.batch.Batch.push.Goals as goal

pub returns-clause-ok : goal.returns-clause-ok
returns-clause-ok c = search rules
