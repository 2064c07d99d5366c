use Rattle.std.proofs.Common.{rules}
use Rattle.shard.proofs.kept.ShardKept.knows.Goals as goal

pub returns : goal.returns
returns c = search rules
