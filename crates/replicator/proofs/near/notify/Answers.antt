use Rattle.std.proofs.Common.{rules}
use Rattle.replicator.proofs.near.notify.Goals as goal

pub returns : goal.returns
returns c = search rules
