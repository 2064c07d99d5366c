use Rattle.std.proofs.Common.{rules}
use Rattle.messages.proofs.outbox.Outbox.room.Goals as goal

pub returns : goal.returns
returns c = search rules
