use Rattle.std.proofs.Common.{rules}
use Rattle.client.proofs.hearing.complete.Goals as goal

pub returns : goal.returns
returns c = search rules
