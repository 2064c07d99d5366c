use Rattle.std.proofs.Common.{rules}
use Rattle.client.proofs.accepting.leave.Goals as goal

pub returns-clause-state : goal.returns-clause-state
returns-clause-state c = search rules
