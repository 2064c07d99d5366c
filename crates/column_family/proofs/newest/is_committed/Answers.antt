use Rattle.std.proofs.Common.{rules}
use Rattle.column_family.proofs.newest.is_committed.Goals as goal

pub returns : goal.returns
returns c = search rules
