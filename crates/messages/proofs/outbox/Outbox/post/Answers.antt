use Rattle.std.proofs.Common.{rules}
use Rattle.messages.proofs.outbox.Outbox.post.Goals as goal

pub returns-clause-back : goal.returns-clause-back
returns-clause-back c = search rules

pub returns-clause-ok : goal.returns-clause-ok
returns-clause-ok c = search rules
