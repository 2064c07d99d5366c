use Rattle.std.proofs.Common.{rules}
use Rattle.client.proofs.accepting.would_accept.Goals as goal

pub returns-clause-allowed : goal.returns-clause-allowed
returns-clause-allowed c = search rules
