use Rattle.std.proofs.Common.{rules}
use Rattle.dependencies.proofs.dep_set.DepSet.completed_write.Goals as goal

pub returns : goal.returns
returns c = search rules
