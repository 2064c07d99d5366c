use Rattle.std.proofs.Common.{rules}
use Rattle.dependencies.proofs.dep_set.add.Goals as goal

pub returns-in-Write-clause-none : goal.returns-in-Write-clause-none
returns-in-Write-clause-none c = search rules
