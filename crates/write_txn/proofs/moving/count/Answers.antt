use Rattle.std.proofs.Common.{arith, rules}
use Rattle.std.proofs.lemmas.Grind.{common_steps}
use Rattle.write_txn.proofs.Unready.{still_marked}
use Rattle.write_txn.proofs.moving.count.Goals as goal

pub returns-clause-complete : goal.returns-clause-complete
returns-clause-complete c = grind (arith, common_steps)

pub returns-clause-marks : goal.returns-clause-marks
returns-clause-marks c = grind (arith, common_steps)

pub returns-clause-ok : goal.returns-clause-ok
returns-clause-ok c = grind (arith, common_steps)

pub returns-clause-own : goal.returns-clause-own
returns-clause-own c = grind (arith, common_steps)

pub returns-clause-waits : goal.returns-clause-waits
returns-clause-waits c = grind (arith, common_steps)

pub returns-then-not-count_early-clause-marks : goal.returns-then-not-count_early-clause-marks
returns-then-not-count_early-clause-marks c =
    still_marked c.args.missing c.args.txn c.args.marks.now c.args.ledger.now c.count_early.new.self c.requires (c.count_early.ensures.counted (search rules))
