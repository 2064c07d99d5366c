use Rattle.std.proofs.Common.{rules}
use Rattle.messages.proofs.CohortBytes.{same_bytes}
use Rattle.messages.proofs.cohorts.CohortsPartialEq.eq.Goals as goal

pub returns : goal.returns
returns c = search (rules, same_bytes c.self.inside.0 c.other.inside.0 c.self.invariant c.other.invariant)
