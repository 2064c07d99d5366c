use Rattle.dependencies.proofs.Ordered.{added_in_order, added_to_held}
use Rattle.std.proofs.Common.{arith}
use Rattle.dependencies.proofs.dep_set.DepSet.completed_read.Goals as goal

pub returns-clause-ok : goal.returns-clause-ok
returns-clause-ok c = grind (arith, added_in_order, added_to_held)
