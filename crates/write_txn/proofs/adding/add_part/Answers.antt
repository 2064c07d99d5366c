use Rattle.std.proofs.Common.{rules}
use Rattle.write_txn.proofs.adding.add_part.Goals as goal

pub returns-in-Ok-add_marked-clause-marks : goal.returns-in-Ok-add_marked-clause-marks
returns-in-Ok-add_marked-clause-marks c = search rules
