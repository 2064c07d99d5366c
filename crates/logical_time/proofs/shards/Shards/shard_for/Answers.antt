use Rattle.std.proofs.Common.{rules}
use Rattle.logical_time.proofs.shards.Shards.shard_for.Goals as goal

pub returns-clause-value : goal.returns-clause-value
returns-clause-value c = search rules
