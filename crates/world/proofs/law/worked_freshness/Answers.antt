use Rattle.world.proofs.worked.WorkedFreshness.{answer_kept, insert_applied}
use Rattle.world.proofs.law.worked_freshness.Goals as goal

pub returns-clause-kept : goal.returns-clause-kept
returns-clause-kept c = answer_kept

pub returns-clause-applied : goal.returns-clause-applied
returns-clause-applied c = insert_applied
