-- Where a shard stands among the shards of all data centres.
use Rattle.std.specs.Prelude.{◌≡◌, ℕ, ◌+◌, ◌*◌, ◌<◌, not, ◌==◌, List, map, filter}
use Rattle.std.specs.List.{range_with_len}
use Rattle.messages.specs.Topology.{TopologyValue}

-- its data centre, which is one of so many, and its number among the shards of its data centre
pub record PlaceValue : Type 0 where
  pub dc : ℕ
  pub shards : ℕ
  pub shard : ℕ
  pub dcs : ℕ

-- the shard with this node stands at this place of the topology
pub record IsPlace (top : TopologyValue) (me : ℕ) (p : PlaceValue) : Type 0 where
  pub shards : p.shards ≡ top.shards
  pub dcs : p.dcs ≡ top.dcs
  pub node : me ≡ p.dc * p.shards + p.shard
  pub shard_below : p.shard < p.shards
  pub dc_below : p.dc < p.dcs

-- the nodes of the shards of the same number in the other data centres, ascending
abbrev pub others_of : PlaceValue → List ℕ
others_of p = map (λ d. d * p.shards + p.shard) (filter (λ d. not (d == p.dc)) (range_with_len 0 p.dcs))
