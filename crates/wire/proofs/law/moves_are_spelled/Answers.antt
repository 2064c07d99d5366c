use Rattle.wire.proofs.Moves.{move_spelled, none_spelled, moved_spelled}
use Rattle.wire.proofs.law.moves_are_spelled.Goals as goal

pub returns-clause-each : goal.returns-clause-each
returns-clause-each c = move_spelled

pub returns-clause-none : goal.returns-clause-none
returns-clause-none c = none_spelled

pub returns-clause-replies : goal.returns-clause-replies
returns-clause-replies c = moved_spelled
