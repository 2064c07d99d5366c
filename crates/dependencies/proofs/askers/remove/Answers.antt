use Rattle.std.proofs.Common.{rules}
use Rattle.dependencies.proofs.askers.remove.Goals as goal

pub returns : goal.returns
returns c = search rules
