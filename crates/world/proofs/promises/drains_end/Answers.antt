use Rattle.world.proofs.drains.DrainEnds.{drains_end, deliveries_are_allowed, deliveries_leave_fewer}
use Rattle.world.proofs.promises.drains_end.Goals as goal

pub returns-clause-ends : goal.returns-clause-ends
returns-clause-ends c top events ok = drains_end top ok events

pub returns-clause-allowed : goal.returns-clause-allowed
returns-clause-allowed c top events ok = deliveries_are_allowed top ok events

pub returns-clause-fewer : goal.returns-clause-fewer
returns-clause-fewer c top events ok = deliveries_leave_fewer top ok events
