-- Which actors there are, and their numbers.
use Rattle.std.specs.Prelude.{ℕ, ◌+◌, ◌*◌, ◌-◌, ◌/◌, ◌%◌, Bool, ◌&&◌, nat_le, nat_lt, if◌then◌else◌, List, length, slice_get, Option, Some, None, option_and_then}
use Rattle.std.specs.List.{list_all}

-- so many data centres of so many shards, the column families, and the first home of each session
pub record TopologyValue : Type 0 where
  pub dcs : ℕ
  pub shards : ℕ
  pub schema : List (List ℕ)
  pub homes : List ℕ

-- 1 to 4 data centres of 1 to 8 shards, and 1 to 10,000 sessions, each at home first in one of the data centres
abbrev pub is_topology : ℕ → ℕ → List ℕ → Bool
is_topology dcs shards homes =
    nat_le 1 dcs && nat_le dcs 4 && nat_le 1 shards && nat_le shards 8 && nat_le 1 (length homes) && nat_le (length homes) 10000
    && list_all (λ d. nat_lt d dcs) homes

-- the same with up to 16 sessions, as scripts have them
abbrev pub is_small_topology : ℕ → ℕ → List ℕ → Bool
is_small_topology dcs shards homes = nat_le (length homes) 16 && is_topology dcs shards homes

-- how many shards there are in all data centres: these are the first nodes
abbrev pub shard_count : TopologyValue → ℕ
shard_count top = top.dcs * top.shards

-- the node of a shard in a data centre
abbrev pub shard_node : TopologyValue → ℕ → ℕ → ℕ
shard_node top dc shard = dc * top.shards + shard

-- the node of a session
abbrev pub session_node : TopologyValue → ℕ → ℕ
session_node top session = shard_count top + session

-- the data centre of a shard's node
abbrev pub dc_of : TopologyValue → ℕ → ℕ
dc_of top node = node / top.shards

-- the number of a shard's node within its data centre
abbrev pub shard_of : TopologyValue → ℕ → ℕ
shard_of top node = node % top.shards

-- whether the node is a shard
abbrev pub is_shard : TopologyValue → ℕ → Bool
is_shard top node = nat_lt node (shard_count top)

-- how many actors there are
abbrev pub node_count : TopologyValue → ℕ
node_count top = shard_count top + length top.homes

-- whether the node is a session
abbrev pub is_session : TopologyValue → ℕ → Bool
is_session top node = nat_le (shard_count top) node && nat_lt node (node_count top)

-- the session whose node this is, if it is one
abbrev pub session_of : TopologyValue → ℕ → Option ℕ
session_of top node = if is_session top node then Some (node - shard_count top) else None

-- the first home of the session whose node this is, if it is one
abbrev pub home_of : TopologyValue → ℕ → Option ℕ
home_of top node = option_and_then (λ i. slice_get top.homes i) (session_of top node)
