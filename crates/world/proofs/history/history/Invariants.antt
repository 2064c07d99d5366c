use Rattle.std.proofs.Common.{◌≡◌, ℕ, take}
use Rattle.std.specs.Prelude.{filter_map}
use Rattle.messages.specs.Topology.{TopologyValue}
use Rattle.messages.specs.Shard.{ShardState}
use Rattle.world.specs.Asked.{entry_at}
use Rattle.world.specs.Holds.{AreShards}
use Rattle.world.proofs.history.history.Given as goal

abbrev pub invariant-loop-write : goal.invariant-loop-write
invariant-loop-write l =
    (top : TopologyValue) (states : ℕ → ShardState) → top.shards ≡ l.home.shards → AreShards top states l.shards
    → l.history ≡ filter_map (entry_at top states l.home.dc) (take l.write-index l.writes)
