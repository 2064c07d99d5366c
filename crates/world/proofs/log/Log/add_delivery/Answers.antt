use Rattle.std.proofs.Common.{rules}
use Rattle.world.proofs.log.Log.add_delivery.Goals as goal

pub returns-clause-delivered : goal.returns-clause-delivered
returns-clause-delivered c = search rules
