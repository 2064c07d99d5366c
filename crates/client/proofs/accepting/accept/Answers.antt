use Rattle.std.proofs.Common.{rules}
use Rattle.client.proofs.accepting.accept.Goals as goal

pub returns-clause-number : goal.returns-clause-number
returns-clause-number c = search rules

pub returns-clause-state : goal.returns-clause-state
returns-clause-state c = search rules
