use Rattle.std.proofs.Common.{rules}
use Rattle.messages.proofs.envelope.Envelope.copied.Goals as goal

pub returns : goal.returns
returns c = search rules
