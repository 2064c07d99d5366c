use Rattle.std.proofs.Common.{rules}
use Rattle.world.proofs.world.World.sent.Goals as goal

pub returns : goal.returns
returns c = search rules
