use Rattle.std.proofs.Common.{rules}
use Rattle.column_family.proofs.newest.Test.passes.Goals as goal

pub returns-then-eq-3 : goal.returns-then-eq-3
returns-then-eq-3 c = search rules
