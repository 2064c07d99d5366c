use Rattle.std.proofs.Common.{rules}
use Rattle.logical_time.proofs.shards.Shards.new.Goals as goal

pub returns-else-number-gt0 : goal.returns-else-number-gt0
returns-else-number-gt0 c = search rules
