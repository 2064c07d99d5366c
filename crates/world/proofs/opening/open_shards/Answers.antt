use Rattle.std.proofs.Common.{le_trans, subst, sym, ◌+◌}
use Rattle.messages.specs.Shard.{new_shard}
use Rattle.shard.specs.Kept.{Represents}
use Rattle.world.proofs.in_code.Beginning.{AreFirst, Begins, one_more}
use Rattle.world.proofs.opening.open_shards.Goals as goal

pub loop-node-preserved : goal.loop-node-preserved
loop-node-preserved c = (
  c.loop-node.invariant.0,
  le_trans c.loop-node.invariant.1 c.add.ensures.capacity,
  subst (AreFirst (Begins c.args.topology.now) (c.loop-node.node + 1)) (sym c.add.ensures.items)
      (one_more (Begins c.args.topology.now) c.loop-node.node c.loop-node.shards.items c.open_shard.result c.loop-node.invariant.2
      (subst (λ n. Represents c.args.topology.now n c.open_shard.result new_shard) c.new.ensures c.open_shard.ensures)),
)
