use Rattle.std.proofs.Common.{arith, rules}
use Rattle.std.proofs.lemmas.Grind.{common_steps}
use Rattle.read_txn.proofs.valid.later.Goals as goal

pub returns-then-lt : goal.returns-then-lt
returns-then-lt c = grind (arith, common_steps)

pub returns-else-lt : goal.returns-else-lt
returns-else-lt c = search rules
