use Rattle.planner.proofs.Right.{planned_each, planned_meaning}
use Rattle.planner.proofs.law.planned_answers_join.Goals as goal

pub returns-clause-meaning : goal.returns-clause-meaning
returns-clause-meaning c = planned_meaning

pub returns-clause-each : goal.returns-clause-each
returns-clause-each c = planned_each
