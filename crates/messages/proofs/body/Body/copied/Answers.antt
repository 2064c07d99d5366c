use Rattle.std.proofs.Common.{rules}
use Rattle.messages.proofs.body.Body.copied.Goals as goal

pub returns-in-Prepare : goal.returns-in-Prepare
returns-in-Prepare c = search rules
