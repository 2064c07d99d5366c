use Rattle.std.proofs.Common.{rules}
use Rattle.client.proofs.hearing.is_last.Goals as goal

pub returns : goal.returns
returns c = search rules
