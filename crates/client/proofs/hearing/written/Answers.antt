use Rattle.std.proofs.Common.{rules}
use Rattle.client.proofs.hearing.written.Goals as goal

pub returns : goal.returns
returns c = search rules
