use Rattle.std.proofs.Common.{rules}
use Rattle.client.proofs.first_answers.part_now.Goals as goal

pub returns-then-number-kept-clause-ignored : goal.returns-then-number-kept-clause-ignored
returns-then-number-kept-clause-ignored c = search rules

pub returns-then-number-kept-clause-same : goal.returns-then-number-kept-clause-same
returns-then-number-kept-clause-same c = search rules
