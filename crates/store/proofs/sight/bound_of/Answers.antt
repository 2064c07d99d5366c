use Rattle.std.proofs.Common.{rules}
use Rattle.store.proofs.sight.bound_of.Goals as goal

pub returns-else-is_empty : goal.returns-else-is_empty
returns-else-is_empty c = search rules
