use Rattle.std.proofs.Common.{rules}
use Rattle.actors.proofs.draining.with_turn.Goals as goal

pub returns-in-Moved-Quiet : goal.returns-in-Moved-Quiet
returns-in-Moved-Quiet c = search rules
