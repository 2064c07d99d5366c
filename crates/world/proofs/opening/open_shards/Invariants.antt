use Rattle.std.proofs.Common.{◌≡◌, ◌≤◌}
use Rattle.messages.specs.Topology.{shard_count}
use Rattle.world.proofs.in_code.Beginning.{AreFirst, Begins}
use Rattle.world.proofs.opening.open_shards.Given as goal

abbrev pub invariant-loop-node : goal.invariant-loop-node
invariant-loop-node l = (l.count ≡ shard_count l.topology) × (l.count ≤ l.shards.cap) × AreFirst (Begins l.topology) l.node l.shards.items
