use Rattle.std.proofs.Common.{arith}
use Rattle.std.proofs.lemmas.Grind.{common_steps}
use Rattle.write_txn.proofs.moving.mark_counted.Goals as goal

pub returns-in_default-2-clause-ok : goal.returns-in_default-2-clause-ok
returns-in_default-2-clause-ok c = grind (arith, common_steps)

pub returns-in_default-2-clause-waits : goal.returns-in_default-2-clause-waits
returns-in_default-2-clause-waits c = grind (arith, common_steps)

pub returns-in_default-3-clause-ok : goal.returns-in_default-3-clause-ok
returns-in_default-3-clause-ok c = grind (arith, common_steps)

pub returns-in_default-3-clause-waits : goal.returns-in_default-3-clause-waits
returns-in_default-3-clause-waits c = grind (arith, common_steps)

pub returns-in_default-clause-ok : goal.returns-in_default-clause-ok
returns-in_default-clause-ok c = grind (arith, common_steps)

pub returns-in_default-clause-waits : goal.returns-in_default-clause-waits
returns-in_default-clause-waits c = grind (arith, common_steps)

pub returns-in-Some-Remote-clause-ok : goal.returns-in-Some-Remote-clause-ok
returns-in-Some-Remote-clause-ok c = grind (arith, common_steps)
