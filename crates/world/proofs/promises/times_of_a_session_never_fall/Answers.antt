use Rattle.world.proofs.promised.Laws.{times_never_fall, operations_end_once}
use Rattle.world.proofs.causal.Homes.{homes_are_of_moves}
use Rattle.world.proofs.promises.times_of_a_session_never_fall.Goals as goal

pub returns-clause-times : goal.returns-clause-times
returns-clause-times c = times_never_fall

pub returns-clause-homes : goal.returns-clause-homes
returns-clause-homes c = homes_are_of_moves

pub returns-clause-once : goal.returns-clause-once
returns-clause-once c = operations_end_once
