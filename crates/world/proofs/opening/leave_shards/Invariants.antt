use Rattle.std.specs.Vec.{vec_len}
use Rattle.world.proofs.opening.leave_shards.Given as goal

abbrev pub decreases-loop-shard : goal.decreases-loop-shard
decreases-loop-shard l = vec_len l.shards
