use Rattle.std.proofs.Common.{rules}
use Rattle.slice.proofs.ordering.comes_first.Goals as goal

pub returns-in-Some : goal.returns-in-Some
returns-in-Some c = search rules
