use Rattle.std.proofs.Common.{◌∙◌, ap, length, ◌==◌}
use Rattle.messages.proofs.CohortBytes.{empty_is}
use Rattle.messages.proofs.cohorts.Cohorts.is_empty.Goals as goal

pub returns : goal.returns
returns c = empty_is c.self.inside.0 c.self.invariant ∙ ap (λ s. length s == 0) c.self.view_is
