use Rattle.std.proofs.Common.{rules}
use Rattle.slice.proofs.read.Read.row_of.Goals as goal

pub returns : goal.returns
returns c = search rules
