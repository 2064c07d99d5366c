use Rattle.std.proofs.Common.{rules}
use Rattle.slice.proofs.live.column_named.Goals as goal

pub returns-in-DeleteRow : goal.returns-in-DeleteRow
returns-in-DeleteRow c = search rules
