use Rattle.std.proofs.Common.{rules}
use Rattle.messages.proofs.CohortBytes.{with_last}
use Rattle.messages.proofs.cohorts.Cohorts.with.Goals as goal

pub returns : goal.returns
returns c = grind (rules, with_last)
