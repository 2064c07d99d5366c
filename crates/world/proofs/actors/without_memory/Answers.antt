use Rattle.std.proofs.Common.{rules}
use Rattle.world.proofs.actors.without_memory.Goals as goal

pub returns-in-Ok : goal.returns-in-Ok
returns-in-Ok c = search rules
