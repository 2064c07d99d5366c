use Rattle.std.proofs.Common.{rules}
use Rattle.messages.proofs.outbox.Outbox.remove.Goals as goal

pub returns-clause-rest : goal.returns-clause-rest
returns-clause-rest c = search rules
