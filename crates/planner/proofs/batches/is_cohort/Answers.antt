use Rattle.std.proofs.Common.{rules}
use Rattle.planner.proofs.batches.is_cohort.Goals as goal

pub returns-then-ne : goal.returns-then-ne
returns-then-ne c = search rules

pub returns-else-ne : goal.returns-else-ne
returns-else-ne c = search rules
