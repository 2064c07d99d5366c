use Rattle.std.proofs.Common.{rules}
use Rattle.world.proofs.log.Log.add_submission.Goals as goal

pub returns-clause-writes : goal.returns-clause-writes
returns-clause-writes c = search rules
