use Rattle.std.proofs.Common.{rules}
use Rattle.column_family.proofs.newest.newest_touching.Goals as goal

pub returns : goal.returns
returns c = search rules
