use Rattle.std.proofs.Common.{rules}
use Rattle.replicator.proofs.near.yes.Goals as goal

pub returns : goal.returns
returns c = search rules
