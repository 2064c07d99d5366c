use Rattle.std.proofs.Common.{rules}
use Rattle.logical_time.proofs.shards.Shard.new.Goals as goal

pub returns-else-number-lt-END : goal.returns-else-number-lt-END
returns-else-number-lt-END c = search rules
