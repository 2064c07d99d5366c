use Rattle.world.proofs.drains.Deliveries.{deliveries_come_nearer, decisions_are_capped}
use Rattle.world.proofs.promises.deliveries_come_nearer.Goals as goal

pub returns-clause-nearer : goal.returns-clause-nearer
returns-clause-nearer c = deliveries_come_nearer

pub returns-clause-decisions : goal.returns-clause-decisions
returns-clause-decisions c = decisions_are_capped
