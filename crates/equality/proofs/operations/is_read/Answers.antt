use Rattle.std.proofs.Common.{rules}
use Rattle.equality.proofs.operations.is_read.Goals as goal

pub returns-in-Read : goal.returns-in-Read
returns-in-Read c = search rules
