use Rattle.world.proofs.quiet.Local.{answers_are_local, sessions_are_served}
use Rattle.world.proofs.replays.HandledHere.{handled_here}
use Rattle.world.proofs.promises.answers_are_local.Goals as goal

pub returns-clause-local : goal.returns-clause-local
returns-clause-local c = answers_are_local

pub returns-clause-served : goal.returns-clause-served
returns-clause-served c = sessions_are_served

pub returns-clause-journals : goal.returns-clause-journals
returns-clause-journals c = handled_here
