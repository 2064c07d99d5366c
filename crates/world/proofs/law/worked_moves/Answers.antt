use Rattle.world.proofs.worked.WorkedMove.{quiet, behind_past}
use Rattle.world.proofs.law.worked_moves.Goals as goal

pub returns-clause-quiet : goal.returns-clause-quiet
returns-clause-quiet c = quiet

pub returns-clause-behind_past : goal.returns-clause-behind_past
returns-clause-behind_past c = behind_past
