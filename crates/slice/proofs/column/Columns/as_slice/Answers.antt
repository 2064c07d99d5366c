use Rattle.std.proofs.Common.{rules}
use Rattle.slice.proofs.column.Columns.as_slice.Goals as goal

pub returns-in-Some : goal.returns-in-Some
returns-in-Some c = search rules
