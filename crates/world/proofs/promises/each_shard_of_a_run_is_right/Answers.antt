use Rattle.world.proofs.promised.Laws.{each_shard_is_right}
use Rattle.world.proofs.promises.each_shard_of_a_run_is_right.Goals as goal

pub returns : goal.returns
returns c = each_shard_is_right
