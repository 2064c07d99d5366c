use Rattle.std.proofs.Common.{rules}
use Rattle.messages.proofs.outbox.Outbox.reserve.Goals as goal

pub returns-clause-ok : goal.returns-clause-ok
returns-clause-ok c = search rules
